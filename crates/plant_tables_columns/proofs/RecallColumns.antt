-- What a recall's state asks of the columns of its lifting, and the recall of a row that has them.
use Rattle.std.proofs.Common.{◌≡◌, refl, ap, ◌∙◌, subst, true, ◌&&◌, Option, Some, None, is_none}
use Rattle.std.proofs.lemmas.Bool.{and_parts}
use Rattle.plant_base.specs.{Lifting, Recall}
use Rattle.plant_tables_columns.specs.{has_no_lifting, complete_lifting, lifting_of_state, lifting_from, recalled_with, recall_from, state_by, moment_of_lift, person_of_lift, note_of_lift, stated_of}
use Rattle.plant_tables_columns.specs.declared.recalls.RecallState.{RecallState}
use Rattle.plant_tables_columns.specs.declared.recalls.RecallState.TheVariants as state
use Rattle.plant_tables_columns.specs.declared.recalls.StatedRecall.{StatedRecall}
use Rattle.plant_tables_columns.proofs.OptionalValues.{bound, mapped, some_same, where_true, is_nothing}

-- the row has this lifting, or none
record Reports (r : StatedRecall) (lifting : Option Lifting) : Type 0 where
  pub lift_at : r.lift_at ≡ moment_of_lift lifting
  pub lift_by : r.lift_by ≡ person_of_lift lifting
  pub lift_note : r.lift_note ≡ note_of_lift lifting

none_reported : (r : StatedRecall) → has_no_lifting r ≡ true → Reports r None
none_reported r h =
    let outer = and_parts (is_none r.lift_at && is_none r.lift_by) (is_none r.lift_note) h in
    let inner = and_parts (is_none r.lift_at) (is_none r.lift_by) outer.0 in
    record { lift_at = is_nothing r.lift_at inner.0; lift_by = is_nothing r.lift_by inner.1; lift_note = is_nothing r.lift_note outer.1 }

one_reported : (r : StatedRecall) (l : Lifting) → complete_lifting r ≡ Some l → Reports r (Some l)
one_reported r l h =
    let p1 = bound r.lift_at _ l h in
    let p2 = bound r.lift_by _ l p1.2 in
    let p3 = bound r.lift_note _ l p2.2 in
    let same : record { at = p1.0; by = p2.0; note = p3.0 } ≡ l = some_same _ _ p3.2 in
    subst (λ l. Reports r (Some l)) same (record { lift_at = p1.1; lift_by = p2.1; lift_note = p3.1 })

-- the row's state is that of this lifting, and the row has it
record FitsState (s : RecallState) (r : StatedRecall) (lifting : Option Lifting) : Type 0 where
  pub is_state : s ≡ state_by lifting
  pub reports : Reports r lifting

state_fits : (s : RecallState) (r : StatedRecall) (lifting : Option Lifting) → lifting_of_state s r ≡ Some lifting → FitsState s r lifting
state_fits state.Open r lifting h =
    let parts = where_true (has_no_lifting r) (Some None) lifting h in
    subst (FitsState state.Open r) (some_same None lifting parts.1) (record { is_state = refl; reports = none_reported r parts.0 })
state_fits state.Lifted r lifting h =
    let read = mapped Some (complete_lifting r) lifting h in
    subst (FitsState state.Lifted r) read.2 (record { is_state = refl; reports = one_reported r read.0 read.1 })

-- the row is the one of its recall
pub recall_back : (r : StatedRecall) (q : Recall) → recall_from r ≡ Some q → r ≡ stated_of q
unfolding recall_from
recall_back r q h =
    let read = mapped (recalled_with r) (lifting_from r) q h in
    let fits = state_fits r.state r read.0 read.1 in
    let reported = fits.reports in
    (λ i. record r { state = fits.is_state i; lift_at = reported.lift_at i; lift_by = reported.lift_by i; lift_note = reported.lift_note i }) ∙ ap stated_of read.2

own_lifting : (lifting : Option Lifting) (r : Recall) → r.lifting ≡ lifting → lifting_from (stated_of r) ≡ Some lifting
own_lifting None r is = rw is refl
own_lifting (Some l) r is = rw is refl

-- the recall that is decoded from a recall's row is that recall
pub recall_again : (r : Recall) → recall_from (stated_of r) ≡ Some r
unfolding recall_from
recall_again r = rw (own_lifting r.lifting r refl) refl
