use Rattle.std.proofs.Common.{◌≡◌, filter, map, take}
use Rattle.plant_questions.specs.{is_due_in}
use Rattle.plant_desk.proofs.pages.jobs_due.Given as goal

-- those of the orders so far
abbrev pub invariant-loop-job : goal.invariant-loop-job
invariant-loop-job l = map (λ r. r.0) l.rows.items ≡ filter (is_due_in l.state l.cursor) (take l.job-index l.jobs)
