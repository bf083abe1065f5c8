use Rattle.std.proofs.Common.{◌≡◌, ◌++◌, take, map}
use Rattle.plant_requirements.specs.{row_mark_of, row_mark_of_event}
use Rattle.plant_requirements.proofs.times.marks_of.Given as goal

abbrev pub invariant-loop-movement : goal.invariant-loop-movement
invariant-loop-movement l = l.marks.items ≡ map row_mark_of (take l.movement-index l.movements)

abbrev pub invariant-loop-event : goal.invariant-loop-event
invariant-loop-event l = l.marks.items ≡ map row_mark_of l.movements ++ map row_mark_of_event (take l.event-index l.events)
