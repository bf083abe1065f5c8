use Rattle.std.proofs.Common.{◌∙◌, sym}
use Rattle.std.proofs.lemmas.Result.{err_from_is_err_and}
use Rattle.plant_recipe.specs.{run_of}
use Rattle.plant_recipe.proofs.EventFold.{run_stops}
use Rattle.plant_recipe.proofs.progress.Progress.of_events.Goals as goal

pub returns-in_err-progress : goal.returns-in_err-progress
unfolding run_of
returns-in_err-progress c =
    let p = err_from_is_err_and c.from_residual.result c.from_residual.ensures.1 in
    rw (p.1, p.2) (sym (run_stops c.args.phases c.loop-event.progress c.args.events.now c.loop-event.event-index _ _ c.loop-event-test.true (sym c.apply.ensures ∙ c.in_err-progress.was)) ∙ c.loop-event.invariant)
