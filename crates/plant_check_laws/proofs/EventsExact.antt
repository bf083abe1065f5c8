-- The rule on what happened to batches: each event was allowed at its place, and the kept columns are the fold of them.
use Rattle.std.proofs.Common.{◌≡◌, ◌∙◌, ℕ, true, List, map, Result, Ok, Err, refl, sym, ap, IsOk, Decides}
use Rattle.std.specs.List.{AllByRecursion}
use Rattle.std.specs.Result.{result_ok}
use Rattle.std.proofs.lemmas.Bool.{false≢true}
use Rattle.plant_base.specs.{same, Batch, BatchEvent, BatchRow, ControlLine, Refusal}
use Rattle.plant_recipe.specs.contracts.progress.ProgressEq.TheImpl.Laws.{laws-law}
use Rattle.plant_recipe.specs.declared.progress.Progress.{Progress}
use Rattle.plant_recipe.specs.{run_of, progress_after}
use Rattle.plant_recipe.proofs.EventFold.{goes_along}
use Rattle.plant_view.specs.{is_batch_among, phases_among, events_among, batch_row, row_at, batch_of_row}
use Rattle.plant_requirements.specs.{is_row_among, kept_progress, is_run, has_right_run, are_events}
use Rattle.plant_check_laws.proofs.ExactTests.{both, in_words, all_exact, any_mapped_exact}
use Rattle.plant_check_laws.proofs.EqualIsSame.{one_progress}

-- a batch that is there is found without its kept columns
pub row_exact : (batches : List BatchRow) (id : List ℕ) → Decides (is_row_among batches id) (is_batch_among (map batch_of_row batches) id ≡ true)
row_exact batches id = any_mapped_exact (λ (b : Batch). same b.id id) batch_of_row batches

run_exact : (run : Result Progress Refusal) (p : Progress) → Decides (is_run run p) (run ≡ Ok p)
run_exact (Err refusal) p = ((λ e. absurd (false≢true e)), (λ e. absurd cc))
run_exact (Ok q) p = ((λ e. ap Ok (one_progress q p e)), (λ e. ap (λ r. is_run r p) e ∙ laws-law.refl p))

-- what the rule says of a batch
pub record HasRun (control : List ControlLine) (events : List BatchEvent) (b : BatchRow) : Type 0 where
  pub allowed : IsOk (run_of (phases_among control b.batch.id) (events_among events b.batch.id))
  pub kept : batch_row control events b.batch ≡ b

module _ (control : List ControlLine) (events : List BatchEvent) (batches : List BatchRow) where
  module _ (b : BatchRow) where
    abbrev run : Result Progress Refusal
    run = run_of (phases_among control b.batch.id) (events_among events b.batch.id)

    comes_to : (q : Progress) → run ≡ Ok q → progress_after (phases_among control b.batch.id) (events_among events b.batch.id) ≡ q
    comes_to q e = goes_along (phases_among control b.batch.id) (events_among events b.batch.id) q (ap result_ok e)

    is_ok : (r : Result Progress Refusal) → r ≡ Ok (kept_progress b) → IsOk r
    is_ok (Ok q) e = refl
    is_ok (Err refusal) e = absurd (cc)

    ends : (r : Result Progress Refusal) → run ≡ r → IsOk r → batch_row control events b.batch ≡ b → run ≡ Ok (kept_progress b)
    ends (Err refusal) e is kept = absurd cc
    ends (Ok q) e is kept = e ∙ ap Ok (sym (comes_to q e) ∙ ap kept_progress kept)

    kept_exact : Decides (has_right_run control events b) (HasRun control events b)
    unfolding has_right_run
    kept_exact = in_words (run_exact run (kept_progress b))
        (λ e. record { allowed = is_ok run e; kept = ap (row_at b.batch) (comes_to (kept_progress b) e) })
        (λ h. ends run refl h.allowed h.kept)

  pub events_exact : Decides (are_events control events batches) (AllByRecursion (HasRun control events) batches × AllByRecursion (λ e. is_batch_among (map batch_of_row batches) e.batch ≡ true) events)
  events_exact = both
      (all_exact (has_right_run control events) (HasRun control events) kept_exact batches)
      (all_exact (λ (e : BatchEvent). is_row_among batches e.batch) _ (λ e. row_exact batches e.batch) events)
