-- What a page finds among the tables of a valid state.
use Rattle.std.proofs.Common.{◌≡◌, ◌∙◌, ℕ, zero, suc, ◌+◌, Bool, true, false, ◌&&◌, ◌==◌, if◌then◌else◌, arith, nat_lt, List, [], ◌∷◌, Option, Some, None, refl, sym, ap, ap₂, codes, pos, is_eq, is_gt, nat_cmp, Ordering, Less, Equal, Greater}
use Rattle.std.specs.Cmp.{IsTotalOrder, unsigned_ties}
use Rattle.std.specs.Ordering.{ordering_then}
use Rattle.std.specs.Float.Ieee
use Rattle.std.proofs.lemmas.Bool.Decides.{nat_tests}
use Rattle.std.proofs.lemmas.Cmp.{nat_cmp_total, on_total}
use Rattle.sqlite.specs.Effect.{Database}
use Rattle.sqlite.specs.Order.{Row}
use Rattle.sqlite.specs.Values.{bound_value}
use Rattle.sqlite.specs.declared.types.Value.{Value}
use Rattle.sqlite.specs.declared.types.Value.TheVariants.{Text}
use Rattle.sqlite_sql.specs.Ops.{is_null}
use Rattle.sqlite_value.specs.Order.{value_cmp}
use Rattle.sqlite_value.proofs.OrderLemmas.{value_cmp-Int, value_cmp-Text}
use Rattle.plant_base.specs.{HasClassValues, HasDefinitionValues, HasLotValues, HasHoldValues, HasRecallValues, State, newest_schema, id_cmp, same, class_order, definition_order, recipe_order, job_order, lot_order, hold_order, recall_order, job_state_name, BatchRow, Class, Definition, Hold, Job, JobState, Lifting, Lot, Recall, Receipt, Recipe, Sublot}
use Rattle.plant_view.proofs.ListLemmas.{all_weaker}
use Rattle.plant_view.specs.{tables_of, batch_row_order, sublot_order}
use Rattle.plant_view.specs.TableRows.{Tables}
use Rattle.plant_invariant.specs.{AreApart}
use Rattle.plant_invariant.specs.StateInvariant.{StateInvariant}
use Rattle.plant_tables.specs.{class_table, definition_table, recipe_table, job_table, batch_table, lot_table, hold_table, receipt_table, recall_table, sublot_table, HoldsTables}
use Rattle.plant_tables_columns.specs.{number, flag, recall_state_name, RecallState, HasRecipeValues, HasJobValues, HasBatchRowValues, HasReceiptRowValues, HasSublotValues, HasValidValues, row_of_class, row_of_definition, row_of_recipe, row_of_job, row_of_batch, row_of_lot, row_of_hold, row_of_receipt, row_of_recall, row_of_sublot, class_from, definition_from, recipe_from, job_from, batch_from, lot_from, hold_from, receipt_from, recall_read, sublot_from}
use Rattle.plant_tables_columns.specs.declared.recalls.RecallState.TheVariants as state
use Rattle.plant_tables_columns.proofs.RowLaws.{class_reads, definition_reads, recipe_reads, job_reads, batch_reads, lot_reads, hold_reads, receipt_again, sublot_reads}
use Rattle.plant_tables.proofs.SortedRowsAreUnique.{int_cmp_pos}
use Rattle.plant_invariant_tables.proofs.TablesHaveValidValues.{in_order, valid_values, newest_known}
use Rattle.sql_queries.specs.{is_beyond, first_of}
use Rattle.plant_questions.specs.{page_size, page_of, text_after, is_after, is_order_in, orders_in, agree, is_batch_in, batches_in, is_lot_of, lots_of, is_hold_on, holds_on, is_recall_in, recalls_in, classes_after, is_definition_in, definitions_in, lots_after, sublots_after, sublots_in_stock, holds_after, definitions_after, orders_after, batches_after, recalls_after, recipes_after, number_after, number_order, is_number_after, receipts_by_number, Page}
use Rattle.plant_keyed.specs.{AreAbove, IsPaged, half, row_limit}
use Rattle.plant_keyed.proofs.SortedPermutationIsUnique.{AreApart as ArePlacesApart, apart_once}
use Rattle.plant_keyed.proofs.PageIsFirstRows.{page_again, page_in_order, whole_again}
use Rattle.plant_keyed.proofs.RowsShown.{recall_again}
use Rattle.plant_keyed.proofs.ComparisonTests.{text_is, number_is}

-- ---- keys as a store compares them

then_equal : (o : Ordering) → ordering_then o Equal ≡ o
then_equal Less = refl
then_equal Equal = refl
then_equal Greater = refl

by_text : (a b : List ℕ) → id_cmp a b ≡ ordering_then (value_cmp (Text a) (Text b)) Equal
by_text a b = sym (then_equal (value_cmp (Text a) (Text b)) ∙ value_cmp-Text a b)

pub by_two_texts : (a b c d : List ℕ) → ordering_then (id_cmp a b) (id_cmp c d) ≡ ordering_then (value_cmp (Text a) (Text b)) (ordering_then (value_cmp (Text c) (Text d)) Equal)
by_two_texts a b c d = λ i. ordering_then (sym (value_cmp-Text a b) i) (by_text c d i)

pub number_cmp : (m n : ℕ) → value_cmp (number m) (number n) ≡ nat_cmp m n
number_cmp m n = value_cmp-Int (pos m) (pos n) ∙ int_cmp_pos m n

pub by_number : (m n : ℕ) → nat_cmp m n ≡ ordering_then (value_cmp (number m) (number n)) Equal
by_number m n = sym (then_equal (value_cmp (number m) (number n)) ∙ number_cmp m n)

pub by_text_number : (a b : List ℕ) (m n : ℕ) → ordering_then (id_cmp a b) (nat_cmp m n) ≡ ordering_then (value_cmp (Text a) (Text b)) (ordering_then (value_cmp (number m) (number n)) Equal)
by_text_number a b m n = ap₂ ordering_then (sym (value_cmp-Text a b)) (by_number m n)

-- a number is above one half exactly where it isn't 0
above_half : (n : ℕ) → is_gt (value_cmp (number n) half) ≡ nat_lt 0 n
unfolding value_cmp Ieee.lt Ieee.is_nan
above_half zero = refl
above_half (suc n) = grind (arith, nat_tests)

-- ---- receipts, by their numbers

number_order_total : IsTotalOrder number_order
number_order_total = on_total (λ r. r.seq) nat_cmp_total

-- those of different numbers don't tie
places_apart : (rs : List Receipt) → AreApart rs → ArePlacesApart number_order number_order_total rs
places_apart [] apart = tt
places_apart (r ∷ rs) apart =
    (all_weaker (λ q. (r.seq == q.seq) ≡ false) (λ q. is_eq (number_order r q) ≡ false) (λ q other. sym (unsigned_ties r.seq q.seq) ∙ other) rs apart.0, places_apart rs apart.1)

-- ---- the value that a list is of, and the cursor to go on from

above_is : (cursor : Option (List ℕ)) (id : List ℕ) → is_gt (value_cmp (Text id) (Text (text_after cursor))) ≡ is_after cursor id
above_is cursor id = ap is_gt (value_cmp-Text id (text_after cursor))

of_text : (cursor : Option (List ℕ)) (a b id : List ℕ) → (is_eq (value_cmp (Text a) (Text b)) && is_gt (value_cmp (Text id) (Text (text_after cursor)))) ≡ (same a b && is_after cursor id)
of_text cursor a b id = ap₂ (λ x y. x && y) (text_is a b) (above_is cursor id)

flags_are : (a b : Bool) → is_eq (value_cmp (flag a) (flag b)) ≡ agree a b
flags_are true true = number_is 1 1
flags_are true false = number_is 1 0
flags_are false true = number_is 0 1
flags_are false false = number_is 0 0

pub flag_bound : (b : Bool) → bound_value (flag b) ≡ flag b
flag_bound true = refl
flag_bound false = refl

pub flag_given : (b : Bool) → is_null (bound_value (flag b)) ≡ false
flag_given true = refl
flag_given false = refl

-- the state of the recalls that are open, or of those that were lifted
abbrev pub recall_state : Bool → RecallState
recall_state are_open = if are_open then state.Open else state.Lifted

abbrev name_of : Bool → Value
name_of are_open = Text (recall_state_name (recall_state are_open))

-- what a page is asked for
abbrev pub asked_after : Option (List ℕ) → Row
asked_after cursor = Text (text_after cursor) ∷ number (page_size + 1) ∷ []

abbrev pub asked : Value → Option (List ℕ) → Row
asked value cursor = value ∷ asked_after cursor

-- ---- the tables of a valid state

module _ (db : Database) (s : State) (valid : StateInvariant s) (holds : HoldsTables db (tables_of newest_schema s)) where
  abbrev t : Tables
  t = tables_of newest_schema s

  values : HasValidValues t
  values = valid_values s valid newest_schema newest_known

  pub orders_are : (state : JobState) (cursor : Option (List ℕ)) (page : Page Job) → IsPaged db job_table (first_of job_table.keys) job_from (7 ∷ []) 1 (asked (Text (job_state_name state)) cursor) page → page ≡ page_of (orders_in s state cursor)
  orders_are state cursor =
      page_again job_from row_of_job HasJobValues (λ r h. job_reads.again r h tt) job_table (first_of job_table.keys) job_order (λ a b. by_text a.order.order b.order.order) db s.jobs (holds.each 5 job_table refl) (in_order newest_schema s valid).keyed.jobs values.jobs (7 ∷ []) 1 (asked (Text (job_state_name state)) cursor)
      (is_order_in state cursor) (λ r. of_text cursor (job_state_name r.state) (job_state_name state) r.order.order)

  pub batches_are : (closed : Bool) (cursor : Option (List ℕ)) (page : Page BatchRow) → IsPaged db batch_table (first_of batch_table.keys) batch_from (9 ∷ []) 1 (asked (flag closed) cursor) page → page ≡ page_of (batches_in s closed cursor)
  batches_are closed cursor =
      page_again batch_from row_of_batch HasBatchRowValues (λ r h. batch_reads.again r h tt) batch_table (first_of batch_table.keys) batch_row_order (λ a b. by_text a.batch.id b.batch.id) db t.batches (holds.each 6 batch_table refl) (in_order newest_schema s valid).keyed.batches values.batches (9 ∷ []) 1 (asked (flag closed) cursor)
      (is_batch_in closed cursor) (λ r. ap₂ (λ x y. x && y) (flags_are r.closed closed) (above_is cursor r.batch.id))

  pub lots_are : (def : List ℕ) (cursor : Option (List ℕ)) (page : Page Lot) → IsPaged db lot_table (first_of lot_table.keys) lot_from (2 ∷ []) 1 (asked (Text def) cursor) page → page ≡ page_of (lots_of s def cursor)
  lots_are def cursor =
      page_again lot_from row_of_lot HasLotValues (λ r h. lot_reads.again r h tt) lot_table (first_of lot_table.keys) lot_order (λ a b. by_text a.id b.id) db s.lots (holds.each 9 lot_table refl) (in_order newest_schema s valid).keyed.lots values.lots (2 ∷ []) 1 (asked (Text def) cursor)
      (is_lot_of def cursor) (λ r. of_text cursor r.def def r.id)

  pub holds_are : (lot : List ℕ) (cursor : Option (List ℕ)) (page : Page Hold) → IsPaged db hold_table (first_of hold_table.keys) hold_from (1 ∷ []) 2 (asked (Text lot) cursor) page → page ≡ page_of (holds_on s lot cursor)
  holds_are lot cursor =
      page_again hold_from row_of_hold HasHoldValues (λ r h. hold_reads.again r h tt) hold_table (first_of hold_table.keys) hold_order (λ a b. by_two_texts a.lot b.lot a.id b.id) db s.holds (holds.each 12 hold_table refl) (in_order newest_schema s valid).keyed.holds values.holds (1 ∷ []) 2 (asked (Text lot) cursor)
      (is_hold_on lot cursor) (λ r. of_text cursor r.lot lot r.id)

  pub recalls_are : (are_open : Bool) (cursor : Option (List ℕ)) (page : Page Recall) → IsPaged db recall_table (first_of recall_table.keys) recall_read (3 ∷ []) 1 (asked (name_of are_open) cursor) page → page ≡ page_of (recalls_in s are_open cursor)
  recalls_are are_open cursor =
      page_again recall_read row_of_recall HasRecallValues recall_again recall_table (first_of recall_table.keys) recall_order (λ a b. by_text a.id b.id) db s.recalls (holds.each 15 recall_table refl) (in_order newest_schema s valid).keyed.recalls values.recalls (3 ∷ []) 1 (asked (name_of are_open) cursor)
      (is_recall_in are_open cursor) (λ r. stated r r.lifting are_open)
    where
      stated : (r : Recall) (lifting : Option Lifting) (are : Bool) → is_beyond (3 ∷ []) 1 (asked (name_of are) cursor) (row_of_recall (record r { lifting = lifting })) ≡ is_recall_in are cursor (record r { lifting = lifting })
      stated r None true = ap₂ (λ x y. x && y) (text_is (codes "open") (codes "open")) (above_is cursor r.id)
      stated r None false = ap₂ (λ x y. x && y) (text_is (codes "open") (codes "lifted")) (above_is cursor r.id)
      stated r (Some l) true = ap₂ (λ x y. x && y) (text_is (codes "lifted") (codes "open")) (above_is cursor r.id)
      stated r (Some l) false = ap₂ (λ x y. x && y) (text_is (codes "lifted") (codes "lifted")) (above_is cursor r.id)

  pub classes_are : (cursor : Option (List ℕ)) (page : Page Class) → IsPaged db class_table (first_of class_table.keys) class_from [] 1 (asked_after cursor) page → page ≡ page_of (classes_after s cursor)
  classes_are cursor =
      page_again class_from row_of_class HasClassValues (λ r h. class_reads.again r h tt) class_table (first_of class_table.keys) class_order (λ a b. by_text a.id b.id) db s.classes (holds.each 1 class_table refl) (in_order newest_schema s valid).keyed.classes values.classes [] 1 (asked_after cursor)
      (λ r. is_after cursor r.id) (λ r. above_is cursor r.id)

  pub definitions_are : (class : List ℕ) (cursor : Option (List ℕ)) (page : Page Definition) → IsPaged db definition_table (first_of definition_table.keys) definition_from (2 ∷ []) 1 (asked (Text class) cursor) page → page ≡ page_of (definitions_in s class cursor)
  definitions_are class cursor =
      page_again definition_from row_of_definition HasDefinitionValues (λ r h. definition_reads.again r h tt) definition_table (first_of definition_table.keys) definition_order (λ a b. by_text a.id b.id) db s.definitions (holds.each 2 definition_table refl) (in_order newest_schema s valid).keyed.definitions values.definitions (2 ∷ []) 1 (asked (Text class) cursor)
      (is_definition_in class cursor) (λ r. of_text cursor r.class class r.id)

  -- ---- what is of the lots that come after one

  pub lots_after_are : (cursor : Option (List ℕ)) (page : Page Lot) → IsPaged db lot_table (first_of lot_table.keys) lot_from [] 1 (asked_after cursor) page → page ≡ page_of (lots_after s cursor)
  lots_after_are cursor =
      page_again lot_from row_of_lot HasLotValues (λ r h. lot_reads.again r h tt) lot_table (first_of lot_table.keys) lot_order (λ a b. by_text a.id b.id) db s.lots (holds.each 9 lot_table refl) (in_order newest_schema s valid).keyed.lots values.lots [] 1 (asked_after cursor)
      (λ r. is_after cursor r.id) (λ r. above_is cursor r.id)

  -- the stocks are those of the column
  pub sublots_after_are : (cursor : Option (List ℕ)) (page : Page Sublot) → IsPaged db sublot_table (first_of sublot_table.keys) sublot_from [] 1 (asked_after cursor) page → page ≡ page_of (sublots_after s cursor)
  sublots_after_are cursor =
      page_again sublot_from row_of_sublot HasSublotValues (λ r h. sublot_reads.again r h tt) sublot_table (first_of sublot_table.keys) sublot_order (λ a b. by_text_number a.lot b.lot a.number b.number) db t.sublots (holds.each 10 sublot_table refl) (in_order newest_schema s valid).keyed.sublots values.sublots [] 1 (asked_after cursor)
      (λ r. is_after cursor r.lot) (λ r. above_is cursor r.lot)

  pub sublots_in_stock_are : (rows : List Sublot) → AreAbove db sublot_table (first_of sublot_table.keys) sublot_from 4 (half ∷ number (row_limit + 1) ∷ []) rows → rows ≡ sublots_in_stock s
  sublots_in_stock_are rows is =
      whole_again sublot_from row_of_sublot HasSublotValues (λ r h. sublot_reads.again r h tt) sublot_table (first_of sublot_table.keys) sublot_order (λ a b. by_text_number a.lot b.lot a.number b.number) db t.sublots (holds.each 10 sublot_table refl) (in_order newest_schema s valid).keyed.sublots values.sublots [] 4 (half ∷ number (row_limit + 1) ∷ [])
      (λ r. nat_lt 0 r.stock) (λ r. above_half r.stock) row_limit is.stored rows is.all is.read

  pub holds_after_are : (cursor : Option (List ℕ)) (page : Page Hold) → IsPaged db hold_table (first_of hold_table.keys) hold_from [] 1 (asked_after cursor) page → page ≡ page_of (holds_after s cursor)
  holds_after_are cursor =
      page_again hold_from row_of_hold HasHoldValues (λ r h. hold_reads.again r h tt) hold_table (first_of hold_table.keys) hold_order (λ a b. by_two_texts a.lot b.lot a.id b.id) db s.holds (holds.each 12 hold_table refl) (in_order newest_schema s valid).keyed.holds values.holds [] 1 (asked_after cursor)
      (λ r. is_after cursor r.lot) (λ r. above_is cursor r.lot)

  -- ---- what comes after an id, whatever its state

  pub definitions_after_are : (cursor : Option (List ℕ)) (page : Page Definition) → IsPaged db definition_table (first_of definition_table.keys) definition_from [] 1 (asked_after cursor) page → page ≡ page_of (definitions_after s cursor)
  definitions_after_are cursor =
      page_again definition_from row_of_definition HasDefinitionValues (λ r h. definition_reads.again r h tt) definition_table (first_of definition_table.keys) definition_order (λ a b. by_text a.id b.id) db s.definitions (holds.each 2 definition_table refl) (in_order newest_schema s valid).keyed.definitions values.definitions [] 1 (asked_after cursor)
      (λ r. is_after cursor r.id) (λ r. above_is cursor r.id)

  pub orders_after_are : (cursor : Option (List ℕ)) (page : Page Job) → IsPaged db job_table (first_of job_table.keys) job_from [] 1 (asked_after cursor) page → page ≡ page_of (orders_after s cursor)
  orders_after_are cursor =
      page_again job_from row_of_job HasJobValues (λ r h. job_reads.again r h tt) job_table (first_of job_table.keys) job_order (λ a b. by_text a.order.order b.order.order) db s.jobs (holds.each 5 job_table refl) (in_order newest_schema s valid).keyed.jobs values.jobs [] 1 (asked_after cursor)
      (λ r. is_after cursor r.order.order) (λ r. above_is cursor r.order.order)

  pub batches_after_are : (cursor : Option (List ℕ)) (page : Page BatchRow) → IsPaged db batch_table (first_of batch_table.keys) batch_from [] 1 (asked_after cursor) page → page ≡ page_of (batches_after s cursor)
  batches_after_are cursor =
      page_again batch_from row_of_batch HasBatchRowValues (λ r h. batch_reads.again r h tt) batch_table (first_of batch_table.keys) batch_row_order (λ a b. by_text a.batch.id b.batch.id) db t.batches (holds.each 6 batch_table refl) (in_order newest_schema s valid).keyed.batches values.batches [] 1 (asked_after cursor)
      (λ r. is_after cursor r.batch.id) (λ r. above_is cursor r.batch.id)

  pub recalls_after_are : (cursor : Option (List ℕ)) (page : Page Recall) → IsPaged db recall_table (first_of recall_table.keys) recall_read [] 1 (asked_after cursor) page → page ≡ page_of (recalls_after s cursor)
  recalls_after_are cursor =
      page_again recall_read row_of_recall HasRecallValues recall_again recall_table (first_of recall_table.keys) recall_order (λ a b. by_text a.id b.id) db s.recalls (holds.each 15 recall_table refl) (in_order newest_schema s valid).keyed.recalls values.recalls [] 1 (asked_after cursor)
      (λ r. is_after cursor r.id) (λ r. above_is cursor r.id)

  pub recipes_after_are : (cursor : Option (List ℕ)) (page : Page Recipe) → IsPaged db recipe_table (first_of recipe_table.keys) recipe_from [] 1 (asked_after cursor) page → page ≡ page_of (recipes_after s cursor)
  recipes_after_are cursor =
      page_again recipe_from row_of_recipe HasRecipeValues (λ r h. recipe_reads.again r h tt) recipe_table (first_of recipe_table.keys) recipe_order (λ a b. by_text_number a.header.recipe b.header.recipe a.header.version b.header.version) db s.recipes (holds.each 3 recipe_table refl) (in_order newest_schema s valid).keyed.recipes values.recipes [] 1 (asked_after cursor)
      (λ r. is_after cursor r.header.recipe) (λ r. above_is cursor r.header.recipe)

  -- ---- in another order than that of a table's key

  -- no two receipts tie, since their numbers differ
  pub receipts_are : (cursor : Option ℕ) (page : Page Receipt) → IsPaged db receipt_table (2 ∷ []) receipt_from [] 2 (number (number_after cursor) ∷ number (page_size + 1) ∷ []) page → page ≡ page_of (receipts_by_number s cursor)
  receipts_are cursor =
      let once = apart_once number_order number_order_total s.receipts (places_apart s.receipts valid.receipts.apart) in
      page_in_order receipt_from row_of_receipt HasReceiptRowValues receipt_again receipt_table (2 ∷ []) number_order number_order_total (λ a b. by_number a.seq b.seq)
      db s.receipts (holds.each 14 receipt_table refl) once values.receipts [] 2 (number (number_after cursor) ∷ number (page_size + 1) ∷ [])
      (is_number_after cursor) (λ r. ap is_gt (number_cmp r.seq (number_after cursor)))
