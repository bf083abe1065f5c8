-- A database that holds the rows of a table of a valid state shows them.
use Rattle.std.proofs.Common.{◌≡◌, refl, sym, ap, ◌∙◌, subst, List, [], ◌∷◌, map, Option, Some, None, arith, filter_map, option_map, IsPermutation, Ordering}
use Rattle.std.specs.List.{AllByRecursion, cons_option}
use Rattle.std.specs.List.Sorted.{IsStrictlySortedBy}
use Rattle.std.specs.Cmp.{IsTotalOrder}
use Rattle.std.proofs.lemmas.List.Elements.{recursion_from_All, All-from_recursion}
use Rattle.std.proofs.lemmas.List.Sorted.{length_permutation, All-permutation, IsPermutation-refl, IsPermutation-trans, IsPermutation-cons, IsPermutation-middle}
use Rattle.sqlite.specs.Effect.{Database}
use Rattle.sqlite.specs.Order.{Row}
use Rattle.sqlite_trees.proofs.ListLemmas.{along_permutation}
use Rattle.plant_base.specs.PlantState.{newest_schema}
use Rattle.plant_base.specs.StateRows.{State}
use Rattle.plant_base.specs.{Batch, BatchEvent, ControlLine, Movement, Place, Recall}
use Rattle.plant_base.specs.RowValues.{HasRecallValues}
use Rattle.plant_tables_columns.specs.ValidValues.{HasMovementRowValues}
use Rattle.plant_tables_columns.specs.ValidRows.{HasValidValues}
use Rattle.plant_view.specs.{tables_of, position_of, batch_row, sublot_row, place_of_row, batch_of_row}
use Rattle.plant_view.specs.TableRows.{Tables}
use Rattle.plant_invariant.specs.StateInvariant.{StateInvariant}
use Rattle.sql_tables.specs.{TableDef, table_of, columns_of, HasStoredRows}
use Rattle.plant_tables_columns.specs.TableColumns.{row_of_meta, row_of_movement, row_of_recall, only_meta, movement_read, recall_read}
use Rattle.plant_tables.specs.DeskTableDefs.{meta_table}
use Rattle.plant_tables.specs.{HoldsTables}
use Rattle.plant_tables_columns.proofs.MovementColumns as kinds
use Rattle.plant_tables_columns.proofs.RecallColumns as states
use Rattle.plant_tables_columns.proofs.RowLaws.{meta_reads, movement_row_again, recall_row_again}
use Rattle.plant_invariant_tables.proofs.TablesHaveValidValues.{valid_values, newest_known}
use Rattle.plant_keyed.specs.{rows_under, table_under, rows_at, abstract_rows, position_of_meta, abstract_position}
use Rattle.plant_keyed.proofs.SortedPermutationIsUnique.{again_in_order}

rows_stand : (db : Database) (table_def : TableDef) (rows : List Row) → HasStoredRows db table_def rows → IsPermutation rows (rows_at db table_def)
unfolding rows_at
rows_stand db table_def rows represents =
    let there : table_under db (Some represents.at) ≡ Some (table_of table_def represents.tree) = represents.declared.listed in
    let same : rows_at db table_def ≡ map (columns_of table_def) (db.trees represents.tree) = ap (λ o. rows_under db table_def (table_under db o)) represents.declared.named ∙ ap (rows_under db table_def) there in
    subst (IsPermutation rows) (sym same) represents.same

module _ {X Y : Type 0} (f : X → Option Y) where
  kept_first : (o : Option Y) (xs ys : List Y) → IsPermutation xs ys → IsPermutation (cons_option o xs) (cons_option o ys)
  kept_first None xs ys h = h
  kept_first (Some y) xs ys h = IsPermutation-cons y xs ys h

  turned : (o p : Option Y) (xs : List Y) → IsPermutation (cons_option o (cons_option p xs)) (cons_option p (cons_option o xs))
  turned None p xs = IsPermutation-refl _
  turned (Some y) None xs = IsPermutation-refl _
  turned (Some y) (Some z) xs = IsPermutation-middle (y ∷ []) z xs

  permuted_map : (xs ys : List X) → IsPermutation xs ys → IsPermutation (filter_map f xs) (filter_map f ys)
  permuted_map = along_permutation (λ xs ys. IsPermutation (filter_map f xs) (filter_map f ys))
      (λ xs. IsPermutation-refl _)
      (λ x xs ys h. kept_first (f x) _ _ h)
      (λ x y xs. turned (f x) (f y) (filter_map f xs))
      (λ xs ys zs. IsPermutation-trans _ _ _)

module _ {R : Type 0} (order : R → R → Ordering) (total : IsTotalOrder order) (written : R → Row) (row_from : Row → Option R) (P : R → Type 0) (again : (r : R) → P r → row_from (written r) ≡ Some r) where
  all_again : (rs : List R) → AllByRecursion P rs → filter_map row_from (map written rs) ≡ rs
  all_again [] all = refl
  all_again (r ∷ rs) all = ap (λ o. cons_option o (filter_map row_from (map written rs))) (again r all.0) ∙ ap (λ l. r ∷ l) (all_again rs all.1)

  pub abstraction_again : (db : Database) (table_def : TableDef) (rs : List R) → HasStoredRows db table_def (map written rs) → IsStrictlySortedBy order rs → AllByRecursion P rs → abstract_rows order row_from db table_def ≡ rs
  abstraction_again db table_def rs represents sorted all =
      let moved : IsPermutation (filter_map row_from (map written rs)) (filter_map row_from (rows_at db table_def)) = permuted_map row_from (map written rs) (rows_at db table_def) (rows_stand db table_def (map written rs) represents) in
      again_in_order order total rs (filter_map row_from (rows_at db table_def)) sorted (subst (λ l. IsPermutation l (filter_map row_from (rows_at db table_def))) (all_again rs all) moved)

-- there is one order of one row
one_alone : (m : Row) (rows : List Row) → IsPermutation (m ∷ []) rows → rows ≡ m ∷ []
one_alone m [] same = absurd (omega (arith, length_permutation (m ∷ []) [] same))
one_alone m (x ∷ []) same = ap (λ r. r ∷ []) (recursion_from_All (λ r. r ≡ m) (x ∷ []) (All-permutation (λ r. r ≡ m) (m ∷ []) (x ∷ []) same (All-from_recursion (λ r. r ≡ m) (m ∷ []) (refl, tt)))).0
one_alone m (x ∷ y ∷ more) same = absurd (omega (arith, length_permutation (m ∷ []) (x ∷ y ∷ more) same))

-- a row of movement is read as the movement that was written
pub movement_again : (m : Movement) → HasMovementRowValues m → movement_read (row_of_movement m) ≡ Some m
unfolding movement_read
movement_again m valid = rw (movement_row_again m valid) (kinds.movement_again m)

-- and a row of recall as the recall that was written
pub recall_again : (r : Recall) → HasRecallValues r → recall_read (row_of_recall r) ≡ Some r
unfolding recall_read
recall_again r valid = rw (recall_row_again r valid) (states.recall_again r)

pub batch_unread : (lines : List ControlLine) (events : List BatchEvent) (o : Option Batch) → option_map (λ r. r.batch) (option_map (batch_row lines events) o) ≡ o
batch_unread lines events None = refl
batch_unread lines events (Some b) = refl

pub place_unread : (ms : List Movement) (o : Option Place) → option_map place_of_row (option_map (sublot_row ms) o) ≡ o
place_unread ms None = refl
place_unread ms (Some p) = refl

pub batches_bare : (s : State) → map batch_of_row (map (batch_row s.control_lines s.events) s.batches) ≡ s.batches
batches_bare s = go s.batches
  where
    go : (bs : List Batch) → map batch_of_row (map (batch_row s.control_lines s.events) bs) ≡ bs
    go [] = refl
    go (b ∷ bs) = ap (λ l. b ∷ l) (go bs)

pub places_unread : (ms : List Movement) (ps : List Place) → map place_of_row (map (sublot_row ms) ps) ≡ ps
places_unread ms [] = refl
places_unread ms (p ∷ ps) = ap (λ l. p ∷ l) (places_unread ms ps)

pub places_bare : (s : State) → map place_of_row (map (sublot_row s.movements) s.places) ≡ s.places
places_bare s = places_unread s.movements s.places

module _ (db : Database) (s : State) (valid : StateInvariant s) (holds : HoldsTables db (tables_of newest_schema s)) where
  abbrev t : Tables
  t = tables_of newest_schema s

  values : HasValidValues t
  values = valid_values s valid newest_schema newest_known

  meta_rows : rows_at db meta_table ≡ row_of_meta t.meta ∷ []
  meta_rows = one_alone (row_of_meta t.meta) (rows_at db meta_table) (rows_stand db meta_table (row_of_meta t.meta ∷ []) (holds.each 0 meta_table refl))

  meta_here : only_meta (row_of_meta t.meta ∷ []) ≡ Some t.meta
  unfolding only_meta
  meta_here = meta_reads.again t.meta values.meta tt

  pub position_here : abstract_position db ≡ position_of s
  position_here = ap (λ rows. position_of_meta (only_meta rows)) meta_rows ∙ ap position_of_meta meta_here
