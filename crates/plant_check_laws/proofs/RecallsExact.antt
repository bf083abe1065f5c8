-- The rule on recalls: their lots are there, their moments fit, and the marks are those of what the open ones reach.
use Rattle.std.proofs.Common.{◌≡◌, ◌∙◌, ℕ, Bool, true, false, List, [], map, Option, Some, None, is_some, refl, sym, ap, subst, IfSome, nat_le, if◌then◌else◌, Decides}
use Rattle.std.specs.List.{AllByRecursion}
use Rattle.std.specs.List.Sorted.{IsStrictlySortedBy}
use Rattle.plant_base.specs.{mark_order, HasLiftingValues, HasRecallValues, State, is_text, is_moment, Lifting, Lot, Mark, Movement, Recall}
use Rattle.plant_view.proofs.ListLemmas.{all_weaker}
use Rattle.plant_view.specs.{edges_among, marks, recalls_in, marks_in, tables_of}
use Rattle.plant_view.specs.TableRows.{Tables}
use Rattle.plant_view.proofs.MarkChanges.{marks_sorted}
use Rattle.plant_invariant.specs.{IsLiftedBetween, IsValidRecall, AreValidRecalls}
use Rattle.plant_requirements.specs.{are_same_marks, are_marks, lot_among, is_lifted_between, is_right_recall, are_recalls}
use Rattle.plant_requirements.proofs.MarksByRecall.{same_list, same_itself}
use Rattle.plant_tables_columns.specs.{recall_from, moment_of_lift, person_of_lift, note_of_lift, stated_of, StatedRecall}
use Rattle.plant_tables_columns.proofs.KindLaws.{ValidOrNone}
use Rattle.plant_tables_columns.proofs.RecallColumns.{recall_back}
use Rattle.plant_tables_columns.proofs.TableLaws.{HasStatedColumns}
use Rattle.plant_tables.proofs.TablesOfRows.{same_tables}
use Rattle.plant_check_rules.specs.{recalls_read}
use Rattle.plant_check_laws.proofs.RowsMadeOfRows.{all_gathered}
use Rattle.plant_check_laws.proofs.ExactTests.{passing, le_exact, both, in_words, all_exact_where}

-- ---- the values of a recall are those of its row

lifting_values : (o : Option Lifting) → ValidOrNone (λ n. is_moment n ≡ true) (moment_of_lift o) → ValidOrNone (λ t. is_text t ≡ true) (person_of_lift o) → ValidOrNone (λ t. is_text t ≡ true) (note_of_lift o) → IfSome o HasLiftingValues
lifting_values None at by note = tt
lifting_values (Some l) at by note = record { at = at; by = by; note = note }

recall_values : (q : StatedRecall) (r : Recall) → recall_from q ≡ Some r → HasStatedColumns q → HasRecallValues r
recall_values q r reported valid =
    let v : HasStatedColumns (stated_of r) = subst HasStatedColumns (recall_back q r reported) valid in
    record { id = v.id; lot = v.lot; at = v.at; by = v.by; note = v.note; lifting = lifting_values r.lifting v.lift_at v.lift_by v.lift_note }

-- ---- lots and moments

lifted_exact : (opened at : ℕ) (o : Option Lifting) → Decides (is_lifted_between opened at o) (IsLiftedBetween opened at o)
lifted_exact opened at None = ((λ e. tt), (λ t. refl))
lifted_exact opened at (Some l) = both (le_exact opened l.at) (le_exact l.at at)

recall_exact : (at : ℕ) (lots : List Lot) (r : Recall) → HasRecallValues r → Decides (is_right_recall at lots r) (IsValidRecall at lots r)
recall_exact at lots r values = in_words (both (passing (is_some (lot_among lots r.lot))) (both (le_exact r.at at) (lifted_exact r.at at r.lifting)))
    (λ p. record { values = values; lot = p.0; past = p.1.0; lifting = p.1.1 })
    (λ v. (v.lot, (v.past, v.lifting)))

recalls_exact : (at : ℕ) (lots : List Lot) (rs : List Recall) → AllByRecursion HasRecallValues rs → Decides (are_recalls at lots rs) (AreValidRecalls at lots rs)
recalls_exact at lots = all_exact_where (is_right_recall at lots) HasRecallValues (IsValidRecall at lots) (recall_exact at lots)

pub valid_recalls : (at : ℕ) (lots : List Lot) (rows : List StatedRecall) → AllByRecursion HasStatedColumns rows → are_recalls at lots (recalls_read rows) ≡ true → AreValidRecalls at lots (recalls_read rows)
valid_recalls at lots rows columns = (recalls_exact at lots (recalls_read rows) (all_gathered recall_from HasStatedColumns HasRecallValues recall_values rows columns)).0

-- ---- marks

marks_exact : (rs : List Recall) (ms : List Movement) (rows : List Mark) → Decides (are_marks rs ms rows) (rows ≡ marks rs (edges_among ms))
marks_exact rs ms rows = let all = marks rs (edges_among ms) in (same_list rows all, (λ e. ap (λ xs. are_same_marks xs all) e ∙ same_itself all))

module _ (rs : List Recall) (ms : List Movement) (rows : List Mark) (h : are_marks rs ms rows ≡ true) where
  same_rows : rows ≡ marks rs (edges_among ms)
  same_rows = (marks_exact rs ms rows).0 h

  pub sorted_marks : IsStrictlySortedBy mark_order rows
  sorted_marks = subst (IsStrictlySortedBy mark_order) (sym same_rows) (marks_sorted rs (edges_among ms))

  -- in a schema that keeps no recalls there are none
  pub kept_marks : (keeps : Bool) → (keeps ≡ false → rs ≡ []) → rows ≡ (if keeps then marks rs (edges_among ms) else [])
  unfolding marks
  kept_marks true none = same_rows
  kept_marks false none = same_rows ∙ ap (λ (qs : List Recall). marks qs (edges_among ms)) (none refl)

-- ---- those of a valid state pass, and none in a schema that keeps none

kept_right : (keeps : Bool) (at : ℕ) (lots : List Lot) (rs : List Recall) → AreValidRecalls at lots rs → are_recalls at lots (if keeps then rs else []) ≡ true
kept_right true at lots rs valid = (recalls_exact at lots rs (all_weaker (IsValidRecall at lots) HasRecallValues (λ r v. v.values) rs valid)).1 valid
kept_right false at lots rs valid = refl

marks_right : (keeps : Bool) (rs : List Recall) (ms : List Movement) → are_marks (if keeps then rs else []) ms (if keeps then marks rs (edges_among ms) else []) ≡ true
unfolding marks
marks_right true rs ms = (marks_exact rs ms (marks rs (edges_among ms))).1 refl
marks_right false rs ms = refl

module _ (schema : ℕ) (s : State) where
  recalls_again : recalls_read (map stated_of (recalls_in schema s.recalls)) ≡ recalls_in schema s.recalls
  recalls_again = ap (λ (t : Tables). t.recalls) (same_tables (tables_of schema s))

  pub recalls_pass : AreValidRecalls s.at s.lots s.recalls → are_recalls s.at s.lots (recalls_read (map stated_of (recalls_in schema s.recalls))) ≡ true
  recalls_pass valid = ap (are_recalls s.at s.lots) recalls_again ∙ kept_right (nat_le 4 schema) s.at s.lots s.recalls valid

  pub marks_pass : are_marks (recalls_read (map stated_of (recalls_in schema s.recalls))) s.movements (marks_in schema s.recalls s.movements) ≡ true
  marks_pass = ap (λ rs. are_marks rs s.movements (marks_in schema s.recalls s.movements)) recalls_again ∙ marks_right (nat_le 4 schema) s.recalls s.movements
