use Rattle.std.proofs.Common.{◌≡◌, drop, fold, Ok}
use Rattle.plant_recipe.specs.{opening_progress, then_turn}
use Rattle.plant_recipe.proofs.progress.Progress.of_events.Given as goal

-- the events that are left lead on to the whole fold
abbrev pub invariant-loop-event : goal.invariant-loop-event
invariant-loop-event l = fold (then_turn l.phases) (Ok l.progress) (drop l.event-index l.events) ≡ fold (then_turn l.phases) (Ok opening_progress) l.events
