-- What a change of rows makes of one table.
use Rattle.std.proofs.Common.{◌≡◌, ◌≢◌, inl, inr, refl, sym, ap, ◌∙◌, ℕ, ◌<◌, List, [], ◌∷◌, ◌++◌, Bool, true, false, not, ◌&&◌, ◌||◌, ◌==◌, if◌then◌else◌, map, length, get_or, set, eqb-true, arith, get_or-set_same, get_or-set_other, IsPermutation, is_eq, Ordering}
use Rattle.std.proofs.lemmas.Bool.{cases_Bool}
use Rattle.std.proofs.lemmas.Bool.Decides.{nat_tests}
use Rattle.std.specs.List.{AllByRecursion}
use Rattle.std.specs.List.Sorted.{IsStrictlySortedBy}
use Rattle.std.proofs.lemmas.List.Sorted.{IsPermutation-refl, IsPermutation-cons}
use Rattle.std.specs.Cmp.{IsTotalOrder, unsigned_ties}
use Rattle.std.specs.Cmp.Lexicographic.{texts_ties}
use Rattle.std.proofs.lemmas.Cmp.{on_total, nat_list_cmp_total, eq_by_cmp_equiv}
use Rattle.sqlite_trees.proofs.ListLemmas.{IsPermutation-filter}
use Rattle.sqlite_value.specs.Order.{Row}
use Rattle.sqlite_value.specs.declared.value.Value.TheVariants.{Text}
use Rattle.sqlite_value.specs.Keys.{first_key}
use Rattle.plant_base.specs.{edge_kind_number, edge_order, edge_total, mark_kind_number, mark_order, mark_total, BatchEvent, BatchRow, Hold, Mark, Meta, Movement}
use Rattle.plant_base.specs.PlantState.{same, put}
use Rattle.plant_view.proofs.ListLemmas.{all_weaker, all_of}
use Rattle.plant_view.specs.{without_marks, batch_row_order, without_hold}
use Rattle.plant_view.specs.TableRows.{Tables}
use Rattle.plant_view.specs.declared.change.RowChange.TheVariants as change
use Rattle.sql_tables.specs.{TableDef, meets, has_values, delete_by_key, Contents, changed_at, taken_at}
use Rattle.sql_tables.specs.Rows as rows
use Rattle.plant_tables.specs.DeskTableDefs.{batch_table, batch_event_table, movement_table, edge_table, mark_table, meta_table}
use Rattle.plant_tables.specs.{AreKeyed, IsFresh}
use Rattle.plant_tables_columns.specs.TableColumns.{row_of_meta, row_of_batch, row_of_event, row_of_movement, row_of_hold, row_of_edge, row_of_mark}
use Rattle.plant_tables.proofs.EqualKeys.{or_false, one_text, second_text, one_number, two_numbers, number_texts, text_number_text, text_tie, and_true}
use Rattle.plant_tables.proofs.RowsUpToOrder.{put_by_key, put_at_end}

-- ---- the table of an index

-- as many rows in some order, in each table
abbrev pub SameRows : Contents → Contents → Type 0
SameRows a b = (i : ℕ) → IsPermutation (a i) (b i)

pub at_place : (place : ℕ) (become : List Row → List Row) (l : List (List Row)) (new : List Row) → place < length l → IsPermutation (become (get_or l place [])) new
    → SameRows (λ i. if i == place then become (get_or l place []) else get_or l i []) (λ i. get_or (set l place new) i [])
at_place place become l new low same i = elim (cases_Bool (i == place)) [
  | inl hit ↦ let at : i ≡ place = eqb-true i place hit in rw (hit, at, get_or-set_same l place new [] low) same
  | inr miss ↦ let away : i ≢ place = λ e. absurd (grind (arith, nat_tests)) in rw (miss, get_or-set_other l place i new [] away) (IsPermutation-refl (get_or l i []))
]

-- rows meet by the keys of the table definition where the order ties them
pub record IsKey {R : Type 0} (order : R → R → Ordering) (enc : R → Row) (table_def : TableDef) : Type 0 where
  pub total : IsTotalOrder order
  pub met : (x r : R) → meets table_def (enc x) (enc r) ≡ is_eq (order x r)

module _ {R : Type 0} {order : R → R → Ordering} {enc : R → Row} {table_def : TableDef} (key : IsKey order enc table_def) where
  pub put_typed : (r : R) (xs : List R) → IsStrictlySortedBy order xs → IsPermutation (rows.put table_def (enc r) (map enc xs)) (map enc (put order r xs))
  put_typed r xs sorted = put_by_key enc table_def r order key.total xs sorted (all_of _ (λ x. key.met x r ∙ (eq_by_cmp_equiv key.total).symm x r) xs)

-- ---- keys with kinds, and rows that are put otherwise than by one key

pub edge_key : IsKey edge_order row_of_edge edge_table
edge_key = record { total = edge_total; met = λ x r. or_false _ ∙ number_texts (edge_kind_number x.kind) (edge_kind_number r.kind) x.from r.from x.to r.to }

pub mark_key : IsKey mark_order row_of_mark mark_table
mark_key = record { total = mark_total; met = λ x r. or_false _ ∙ text_number_text x.recall r.recall (mark_kind_number x.kind) (mark_kind_number r.kind) x.id r.id }

implied_or : (a b : Bool) → (b ≡ true → a ≡ true) → (a || b) ≡ a
implied_or true b h = refl
implied_or false true h = sym (h refl)
implied_or false false h = refl

holds_values : (h : Hold) (lot hold : List ℕ) → has_values (1 ∷ 2 ∷ []) (Text lot ∷ Text hold ∷ []) (row_of_hold h) ≡ (same h.lot lot && same h.id hold)
unfolding first_key
holds_values h lot hold = rw (text_tie h.lot lot, text_tie h.id hold, and_true) (rw (texts_ties h.lot lot, texts_ties h.id hold) refl)

is_of_recall : (m : Mark) (recall : List ℕ) → has_values (1 ∷ []) (Text recall ∷ []) (row_of_mark m) ≡ same m.recall recall
unfolding first_key
is_of_recall m recall = rw (text_tie m.recall recall, and_true) (sym (texts_ties m.recall recall))

pub batch_total : IsTotalOrder batch_row_order
batch_total = on_total (λ r. r.batch.id) nat_list_cmp_total

-- a batch of an order that no other is of meets the one with its id alone
batch_ties : (r : BatchRow) (xs : List BatchRow) → AllByRecursion (λ b. same b.batch.job r.batch.job ≡ true → same b.batch.id r.batch.id ≡ true) xs
    → AllByRecursion (λ x. meets batch_table (row_of_batch x) (row_of_batch r) ≡ is_eq (batch_row_order r x)) xs
batch_ties r = all_weaker _ _ (λ x fresh.
    let one = one_text x.batch.id r.batch.id [] [] in
    let two = second_text x.batch.job r.batch.job [] [] x.batch.id r.batch.id in
    let both : meets batch_table (row_of_batch x) (row_of_batch r) ≡ (same x.batch.id r.batch.id || same x.batch.job r.batch.job) =
    rw (one, two, or_false) (rw (texts_ties x.batch.id r.batch.id, texts_ties x.batch.job r.batch.job) refl) in
    let tied : same x.batch.id r.batch.id ≡ is_eq (batch_row_order r x) = texts_ties x.batch.id r.batch.id ∙ (eq_by_cmp_equiv batch_total).symm x r in
    both ∙ (implied_or _ _ fresh ∙ tied))

events_apart : (r : BatchEvent) (xs : List BatchEvent) → AllByRecursion (λ e. (e.seq == r.seq) ≡ false) xs → AllByRecursion (λ x. meets batch_event_table (row_of_event x) (row_of_event r) ≡ false) xs
events_apart r = all_weaker _ _ (λ x fresh. or_false _ ∙ (one_number x.seq r.seq [] [] ∙ (sym (unsigned_ties x.seq r.seq) ∙ fresh)))

movements_apart : (r : Movement) (xs : List Movement) → AllByRecursion (λ m. (m.seq == r.seq && m.line == r.line) ≡ false) xs → AllByRecursion (λ x. meets movement_table (row_of_movement x) (row_of_movement r) ≡ false) xs
movements_apart r = all_weaker _ _ (λ x fresh. or_false _ ∙ (two_numbers x.seq r.seq x.line r.line [] [] ∙ rw (sym (unsigned_ties x.seq r.seq), sym (unsigned_ties x.line r.line)) fresh))

pub hold_taken : (lot hold : List ℕ) (hs : List Hold) → delete_by_key (1 ∷ 2 ∷ []) (Text lot ∷ Text hold ∷ []) (map row_of_hold hs) ≡ map row_of_hold (without_hold lot hold hs)
hold_taken lot hold [] = refl
hold_taken lot hold (h ∷ hs) = elim (cases_Bool (same h.lot lot && same h.id hold)) [
  | inl hit ↦ rw (holds_values h lot hold, hit) (hold_taken lot hold hs)
  | inr miss ↦ rw (holds_values h lot hold, miss) (ap (λ l. row_of_hold h ∷ l) (hold_taken lot hold hs))
]

pub mark_taken : (recall : List ℕ) (ms : List Mark) → delete_by_key (1 ∷ []) (Text recall ∷ []) (map row_of_mark ms) ≡ map row_of_mark (without_marks recall ms)
mark_taken recall [] = refl
mark_taken recall (m ∷ ms) = elim (cases_Bool (same m.recall recall)) [
  | inl hit ↦ rw (is_of_recall m recall, hit) (mark_taken recall ms)
  | inr miss ↦ rw (is_of_recall m recall, miss) (ap (λ l. row_of_mark m ∷ l) (mark_taken recall ms))
]

-- there is one row of meta
pub meta_put : (r : Meta) (t : Tables) → AreKeyed t → IsFresh (change.Meta r) t → IsPermutation (rows.put meta_table (row_of_meta r) (row_of_meta t.meta ∷ [])) (row_of_meta r ∷ [])
meta_put r t keyed fresh =
    let met : meets meta_table (row_of_meta t.meta) (row_of_meta r) ≡ true = or_false _ ∙ one_number 1 1 [] [] in
    rw met (IsPermutation-refl (row_of_meta r ∷ []))

pub batch_put : (r : BatchRow) (t : Tables) → AreKeyed t → IsFresh (change.Batch r) t → IsPermutation (rows.put batch_table (row_of_batch r) (map row_of_batch t.batches)) (map row_of_batch (put batch_row_order r t.batches))
batch_put r t keyed fresh = put_by_key row_of_batch batch_table r batch_row_order batch_total t.batches keyed.batches (batch_ties r t.batches fresh)

pub event_put : (r : BatchEvent) (t : Tables) → AreKeyed t → IsFresh (change.Event r) t → IsPermutation (rows.put batch_event_table (row_of_event r) (map row_of_event t.events)) (map row_of_event (t.events ++ r ∷ []))
event_put r t keyed fresh = put_at_end row_of_event batch_event_table r t.events (events_apart r t.events fresh)

pub movement_put : (r : Movement) (t : Tables) → AreKeyed t → IsFresh (change.Movement r) t → IsPermutation (rows.put movement_table (row_of_movement r) (map row_of_movement t.movements)) (map row_of_movement (t.movements ++ r ∷ []))
movement_put r t keyed fresh = put_at_end row_of_movement movement_table r t.movements (movements_apart r t.movements fresh)

-- ---- the same rows, changed alike

put_same : (table_def : TableDef) (row : Row) (xs ys : List Row) → IsPermutation xs ys → IsPermutation (rows.put table_def row xs) (rows.put table_def row ys)
put_same table_def row xs ys same = IsPermutation-cons row _ _ (IsPermutation-filter (λ r. not (meets table_def r row)) xs ys same)

pub changed_same : (place : ℕ) (table_def : TableDef) (row : Row) (a b : Contents) → SameRows a b → SameRows (changed_at place table_def row a) (changed_at place table_def row b)
changed_same place table_def row a b same i = elim (cases_Bool (i == place)) [
  | inl hit ↦ rw hit (put_same table_def row (a place) (b place) (same place))
  | inr miss ↦ rw miss (same i)
]

pub taken_same : (place : ℕ) (key : List ℕ) (values : Row) (a b : Contents) → SameRows a b → SameRows (taken_at place key values a) (taken_at place key values b)
taken_same place key values a b same i = elim (cases_Bool (i == place)) [
  | inl hit ↦ rw hit (IsPermutation-filter (λ r. not (has_values key values r)) (a place) (b place) (same place))
  | inr miss ↦ rw miss (same i)
]
