-- What a lookup finds among the tables of a valid state.
use Rattle.std.proofs.Common.{◌≡◌, ◌∙◌, ℕ, Bool, true, false, cond, ◌&&◌, ◌==◌, List, [], ◌∷◌, map, filter, find, Option, Some, refl, sym, ap, subst, slice_get, option_map, IsPermutation, Ordering}
use Rattle.std.specs.List.{AllByRecursion}
use Rattle.std.specs.List.Sorted.{IsStrictlySortedBy}
use Rattle.std.proofs.lemmas.List.Kept.{IsStrictlySortedBy-filter}
use Rattle.std.proofs.lemmas.List.Sorted.{IsPermutation-sym, IsPermutation-trans}
use Rattle.sqlite.specs.Effect.{Database}
use Rattle.sqlite.specs.Order.{Row}
use Rattle.sqlite.specs.declared.types.Value.TheVariants.{Text}
use Rattle.sqlite_trees.proofs.ListLemmas.{IsPermutation-filter}
use Rattle.plant_base.specs.{edge_kind_number, edge_order, mark_kind_number, mark_order, State, newest_schema, same, recipe_at, master_lines_of, batch_at, batch_of, control_lines_of, place_at, hold_at}
use Rattle.plant_base.specs.RowValues.{HasHoldValues}
use Rattle.plant_tables_columns.specs.ValidValues.{HasMetaValues, HasRecipeValues, HasMasterLineValues, HasBatchRowValues, HasControlLineValues, HasEventRowValues, HasSublotValues, HasMovementRowValues, HasEdgeValues, HasMarkValues}
use Rattle.plant_tables_columns.specs.ValidRows.{HasValidValues}
use Rattle.plant_base.specs.PlantState.{recipe_order, master_line_order, control_line_order, event_order, movement_order, hold_order}
use Rattle.plant_base.specs.{BatchEvent, BatchRow, ControlLine, EdgeRow, Hold, Mark, MarkKind, MasterLine, Meta, Movement, Recipe, Sublot}
use Rattle.plant_view.specs.{edge_rows, edges_of, node_at, is_on, marks_on, holds_of, tables_of, batch_row, batch_row_order, sublot_order, sublot_row, sublots_of, events_of}
use Rattle.plant_view.specs.TableRows.{Tables}
use Rattle.plant_view.proofs.MarkChanges.{are_on_node}
use Rattle.plant_invariant.specs.StateInvariant.{StateInvariant}
use Rattle.sql_tables.specs.{TableDef, columns_of, HasStoredRows}
use Rattle.sql_queries.specs.{has_values, key_order, comes_before, first_of}
use Rattle.sql_queries.proofs.ValueOrder.{key_total}
use Rattle.sql_queries.proofs.RowsUpToOrder.{one_tree}
use Rattle.plant_tables_columns.specs.{number, all_from}
use Rattle.plant_tables_columns.specs.TableColumns.{row_of_meta, row_of_recipe, row_of_master_line, row_of_batch, row_of_control_line, row_of_event, row_of_sublot, row_of_movement, row_of_hold, row_of_edge, row_of_mark, meta_from, recipe_from, master_line_from, batch_from, control_line_from, batch_event_from, sublot_from, movement_read, hold_from, edge_from, mark_from}
use Rattle.plant_tables.specs.DeskTableDefs.{meta_table, recipe_table, recipe_line_table, batch_table, control_line_table, batch_event_table, sublot_table, movement_table, hold_table, edge_table, mark_table}
use Rattle.plant_tables.specs.{HoldsTables}
use Rattle.plant_tables.proofs.RowChangeIsTableChange.{all_filter}
use Rattle.plant_tables_columns.proofs.OptionalValues.{some_same}
use Rattle.plant_tables_columns.proofs.RowLaws.{meta_reads, recipe_reads, master_line_again, batch_reads, control_line_again, event_reads, sublot_reads, hold_reads, edge_reads, mark_reads}
use Rattle.plant_tables.proofs.KeysOfColumns.{by_text, by_number, by_text_number, by_two_texts, by_two_numbers, by_text_numbers, by_number_two_texts, by_text_number_text}
use Rattle.plant_tables.proofs.SortedRowsAreUnique.{same_sorted, strictly_sorted, sorted_keys}
use Rattle.plant_tables.proofs.AllRowsDecoded.{map_same, all_again}
use Rattle.plant_invariant_tables.proofs.TablesHaveValidValues.{in_order, valid_values, newest_known}
use Rattle.plant_questions.specs.{versions_of}
use Rattle.plant_questions.proofs.FoundRows.{first_is, of_mapped}
use Rattle.plant_keyed.specs.{AreFound, IsFirstFound}
use Rattle.plant_keyed.proofs.RowsShown.{batch_unread, movement_again}
use Rattle.plant_keyed.proofs.ComparisonTests.{one_text, text_number, number_text, two_texts}

-- ---- lists

-- of what is made of each, the first that passes is made of the first that does
module _ {X Y : Type 0} (f : X → Y) (p : Y → Bool) (q : X → Bool) (tests : (x : X) → p (f x) ≡ q x) where
  found_mapped : (xs : List X) → find p (map f xs) ≡ option_map f (find q xs)
  found_mapped [] = refl
  found_mapped (x ∷ xs) =
      ap (λ b. cond b (Some (f x)) (find p (map f xs))) (tests x)
      ∙ elim (q x) as (λ b. cond b (Some (f x)) (find p (map f xs)) ≡ option_map f (cond b (Some x) (find q xs))) [
        | true ↦ refl
        | false ↦ found_mapped xs
      ]

-- ---- one table

module _ {R : Type 0} (row_from : Row → Option R) (written : R → Row) (P : R → Type 0) (again : (r : R) → P r → row_from (written r) ≡ Some r) (table_def : TableDef) (order : R → R → Ordering) (by_key : (a b : R) → order a b ≡ key_order (first_of table_def.keys) (written a) (written b))
    (db : Database) (rs : List R) (represents : HasStoredRows db table_def (map written rs)) (sorted : IsStrictlySortedBy order rs) (all : AllByRecursion P rs)
    (places : List ℕ) (values : Row) (p : R → Bool) (tests : (r : R) → has_values places values (written r) ≡ p r) where
  -- the rows that a lookup finds are those that have the values, as they were written
  found_again : (rows : List R) → AreFound db table_def row_from places values rows → rows ≡ filter p rs
  found_again rows found =
      let key = key_order (first_of table_def.keys) in
      let total = key_total (first_of table_def.keys) in
      let here = map (columns_of table_def) (db.trees represents.tree) in
      let test = has_values places values in
      let there : IsPermutation found.stored (filter test here) = subst (λ tree. IsPermutation found.stored (filter test (map (columns_of table_def) (db.trees tree)))) (one_tree db.schema table_def found.finds.at found.finds.tree represents.at represents.tree found.finds.declared represents.declared) found.finds.same in
      let back : IsPermutation (filter test here) (filter test (map written rs)) = IsPermutation-filter test here (map written rs) (IsPermutation-sym (map written rs) here represents.same) in
      let moved : IsPermutation found.stored (map written (filter p rs)) = subst (IsPermutation found.stored) (of_mapped written test p tests rs) (IsPermutation-trans found.stored (filter test here) (filter test (map written rs)) there back) in
      let rising : IsStrictlySortedBy key found.stored = subst (IsStrictlySortedBy key) (map_same found.stored) (strictly_sorted (λ row. row) (comes_before table_def) key total (λ a b. refl) found.stored found.rising) in
      let one : found.stored ≡ map written (filter p rs) = same_sorted key total found.stored (map written (filter p rs)) rising (sorted_keys written order key by_key (filter p rs) (IsStrictlySortedBy-filter order p rs sorted)) moved in
      let reported : all_from row_from found.stored ≡ Some (map (λ r. r) (filter p rs)) = ap (all_from row_from) one ∙ all_again row_from written (λ r. r) P again (filter p rs) (all_filter P p rs all) in
      some_same rows (map (λ r. r) (filter p rs)) (sym found.read ∙ reported) ∙ map_same (filter p rs)

  -- and the first of them is the first that has the values
  pub first_again : (row : Option R) → IsFirstFound db table_def row_from places values row → row ≡ find p rs
  first_again row is = is.first ∙ ap (λ rows. slice_get rows 0) (found_again is.rows is.found) ∙ first_is p rs

-- ---- the tables of a valid state

module _ (db : Database) (s : State) (valid : StateInvariant s) (holds : HoldsTables db (tables_of newest_schema s)) where
  abbrev t : Tables
  t = tables_of newest_schema s

  values : HasValidValues t
  values = valid_values s valid newest_schema newest_known

  pub meta_is : (row : Option Meta) → IsFirstFound db meta_table meta_from [] [] row → row ≡ Some t.meta
  unfolding IsStrictlySortedBy
  meta_is = first_again meta_from row_of_meta HasMetaValues (λ r h. meta_reads.again r h tt) meta_table (λ a b. key_order (1 ∷ []) (row_of_meta a) (row_of_meta b)) (λ a b. refl) db (t.meta ∷ []) (holds.each 0 meta_table refl) (tt, tt) (values.meta, tt) [] [] (λ r. true) (λ r. refl)

  pub recipe_is : (id : List ℕ) (version : ℕ) (row : Option Recipe) → IsFirstFound db recipe_table recipe_from (1 ∷ 2 ∷ []) (Text id ∷ number version ∷ []) row → row ≡ recipe_at s id version
  recipe_is id version = first_again recipe_from row_of_recipe HasRecipeValues (λ r h. recipe_reads.again r h tt) recipe_table recipe_order (λ a b. by_text_number a.header.recipe b.header.recipe a.header.version b.header.version) db s.recipes (holds.each 3 recipe_table refl) (in_order newest_schema s valid).keyed.recipes values.recipes (1 ∷ 2 ∷ []) (Text id ∷ number version ∷ []) (λ r. same r.header.recipe id && r.header.version == version) (λ r. text_number r.header.recipe id r.header.version version)

  pub versions_are : (id : List ℕ) (rows : List Recipe) → AreFound db recipe_table recipe_from (1 ∷ []) (Text id ∷ []) rows → rows ≡ versions_of s id
  versions_are id = found_again recipe_from row_of_recipe HasRecipeValues (λ r h. recipe_reads.again r h tt) recipe_table recipe_order (λ a b. by_text_number a.header.recipe b.header.recipe a.header.version b.header.version) db s.recipes (holds.each 3 recipe_table refl) (in_order newest_schema s valid).keyed.recipes values.recipes (1 ∷ []) (Text id ∷ []) (λ r. same r.header.recipe id) (λ r. one_text r.header.recipe id)

  pub master_lines_are : (id : List ℕ) (version : ℕ) (rows : List MasterLine) → AreFound db recipe_line_table master_line_from (1 ∷ 2 ∷ []) (Text id ∷ number version ∷ []) rows → rows ≡ master_lines_of s id version
  master_lines_are id version = found_again master_line_from row_of_master_line HasMasterLineValues master_line_again recipe_line_table master_line_order (λ a b. by_text_numbers a.recipe b.recipe a.version b.version a.number b.number) db s.master_lines (holds.each 4 recipe_line_table refl) (in_order newest_schema s valid).keyed.master_lines values.master_lines (1 ∷ 2 ∷ []) (Text id ∷ number version ∷ []) (λ r. same r.recipe id && r.version == version) (λ r. text_number r.recipe id r.version version)

  pub batch_is : (id : List ℕ) (row : Option BatchRow) → IsFirstFound db batch_table batch_from (1 ∷ []) (Text id ∷ []) row → row ≡ option_map (batch_row s.control_lines s.events) (batch_at s id)
  batch_is id row is =
      first_again batch_from row_of_batch HasBatchRowValues (λ r h. batch_reads.again r h tt) batch_table batch_row_order (λ a b. by_text a.batch.id b.batch.id) db t.batches (holds.each 6 batch_table refl) (in_order newest_schema s valid).keyed.batches values.batches (1 ∷ []) (Text id ∷ []) (λ r. same r.batch.id id) (λ r. one_text r.batch.id id) row is
      ∙ found_mapped (batch_row s.control_lines s.events) (λ r. same r.batch.id id) (λ b. same b.id id) (λ b. refl) s.batches

  batch_for_is : (order : List ℕ) (row : Option BatchRow) → IsFirstFound db batch_table batch_from (2 ∷ []) (Text order ∷ []) row → row ≡ option_map (batch_row s.control_lines s.events) (batch_of s order)
  batch_for_is order row is =
      first_again batch_from row_of_batch HasBatchRowValues (λ r h. batch_reads.again r h tt) batch_table batch_row_order (λ a b. by_text a.batch.id b.batch.id) db t.batches (holds.each 6 batch_table refl) (in_order newest_schema s valid).keyed.batches values.batches (2 ∷ []) (Text order ∷ []) (λ r. same r.batch.job order) (λ r. one_text r.batch.job order) row is
      ∙ found_mapped (batch_row s.control_lines s.events) (λ r. same r.batch.job order) (λ b. same b.job order) (λ b. refl) s.batches

  -- the batch of that row
  pub batch_of_is : (order : List ℕ) (row : Option BatchRow) → IsFirstFound db batch_table batch_from (2 ∷ []) (Text order ∷ []) row → option_map (λ (r : BatchRow). r.batch) row ≡ batch_of s order
  batch_of_is order row is = ap (option_map (λ (r : BatchRow). r.batch)) (batch_for_is order row is) ∙ batch_unread _ _ (batch_of s order)

  pub control_lines_are : (batch : List ℕ) (rows : List ControlLine) → AreFound db control_line_table control_line_from (1 ∷ []) (Text batch ∷ []) rows → rows ≡ control_lines_of s batch
  control_lines_are batch = found_again control_line_from row_of_control_line HasControlLineValues control_line_again control_line_table control_line_order (λ a b. by_text_number a.batch b.batch a.number b.number) db s.control_lines (holds.each 7 control_line_table refl) (in_order newest_schema s valid).keyed.control_lines values.control_lines (1 ∷ []) (Text batch ∷ []) (λ r. same r.batch batch) (λ r. one_text r.batch batch)

  pub events_are : (batch : List ℕ) (rows : List BatchEvent) → AreFound db batch_event_table batch_event_from (2 ∷ []) (Text batch ∷ []) rows → rows ≡ events_of s batch
  events_are batch = found_again batch_event_from row_of_event HasEventRowValues (λ r h. event_reads.again r h tt) batch_event_table event_order (λ a b. by_number a.seq b.seq) db s.events (holds.each 8 batch_event_table refl) (in_order newest_schema s valid).events values.events (2 ∷ []) (Text batch ∷ []) (λ r. same r.batch batch) (λ r. one_text r.batch batch)

  -- the stocks are those of the column
  pub sublot_is : (lot : List ℕ) (n : ℕ) (row : Option Sublot) → IsFirstFound db sublot_table sublot_from (1 ∷ 2 ∷ []) (Text lot ∷ number n ∷ []) row → row ≡ option_map (sublot_row s.movements) (place_at s lot n)
  sublot_is lot n row is =
      first_again sublot_from row_of_sublot HasSublotValues (λ r h. sublot_reads.again r h tt) sublot_table sublot_order (λ a b. by_text_number a.lot b.lot a.number b.number) db t.sublots (holds.each 10 sublot_table refl) (in_order newest_schema s valid).keyed.sublots values.sublots (1 ∷ 2 ∷ []) (Text lot ∷ number n ∷ []) (λ r. same r.lot lot && r.number == n) (λ r. text_number r.lot lot r.number n) row is
      ∙ found_mapped (sublot_row s.movements) (λ r. same r.lot lot && r.number == n) (λ p. same p.lot lot && p.number == n) (λ p. refl) s.places

  pub sublots_are : (lot : List ℕ) (rows : List Sublot) → AreFound db sublot_table sublot_from (1 ∷ []) (Text lot ∷ []) rows → rows ≡ sublots_of s lot
  sublots_are lot rows found =
      found_again sublot_from row_of_sublot HasSublotValues (λ r h. sublot_reads.again r h tt) sublot_table sublot_order (λ a b. by_text_number a.lot b.lot a.number b.number) db t.sublots (holds.each 10 sublot_table refl) (in_order newest_schema s valid).keyed.sublots values.sublots (1 ∷ []) (Text lot ∷ []) (λ r. same r.lot lot) (λ r. one_text r.lot lot) rows found
      ∙ of_mapped (sublot_row s.movements) (λ r. same r.lot lot) (λ p. same p.lot lot) (λ p. refl) s.places

  -- the movements with these values in these columns
  pub movements_are : (places : List ℕ) (given : Row) (p : Movement → Bool) → ((m : Movement) → has_values places given (row_of_movement m) ≡ p m) → (rows : List Movement) → AreFound db movement_table movement_read places given rows → rows ≡ filter p s.movements
  movements_are places given p tests = found_again movement_read row_of_movement HasMovementRowValues movement_again movement_table movement_order (λ a b. by_two_numbers a.seq b.seq a.line b.line) db s.movements (holds.each 11 movement_table refl) (in_order newest_schema s valid).movements values.movements places given p tests

  pub hold_is : (lot id : List ℕ) (row : Option Hold) → IsFirstFound db hold_table hold_from (1 ∷ 2 ∷ []) (Text lot ∷ Text id ∷ []) row → row ≡ hold_at s lot id
  hold_is lot id = first_again hold_from row_of_hold HasHoldValues (λ r h. hold_reads.again r h tt) hold_table hold_order (λ a b. by_two_texts a.lot b.lot a.id b.id) db s.holds (holds.each 12 hold_table refl) (in_order newest_schema s valid).keyed.holds values.holds (1 ∷ 2 ∷ []) (Text lot ∷ Text id ∷ []) (λ r. same r.lot lot && same r.id id) (λ r. two_texts r.lot lot r.id id)

  pub holds_are : (lot : List ℕ) (rows : List Hold) → AreFound db hold_table hold_from (1 ∷ []) (Text lot ∷ []) rows → rows ≡ holds_of s lot
  holds_are lot = found_again hold_from row_of_hold HasHoldValues (λ r h. hold_reads.again r h tt) hold_table hold_order (λ a b. by_two_texts a.lot b.lot a.id b.id) db s.holds (holds.each 12 hold_table refl) (in_order newest_schema s valid).keyed.holds values.holds (1 ∷ []) (Text lot ∷ []) (λ r. same r.lot lot) (λ r. one_text r.lot lot)

  -- the edges with these values in these columns
  pub edges_are : (places : List ℕ) (given : Row) (p : EdgeRow → Bool) → ((e : EdgeRow) → has_values places given (row_of_edge e) ≡ p e) → (rows : List EdgeRow) → AreFound db edge_table edge_from places given rows → rows ≡ filter p (edge_rows s.movements)
  edges_are places given p tests = found_again edge_from row_of_edge HasEdgeValues (λ r h. edge_reads.again r h tt) edge_table edge_order (λ a b. by_number_two_texts (edge_kind_number a.kind) (edge_kind_number b.kind) a.from b.from a.to b.to) db t.edges (holds.each 13 edge_table refl) (in_order newest_schema s valid).keyed.edges values.edges places given p tests

  -- the marks of this kind and id are those of the open recalls that reach the node
  pub marks_are : (k : MarkKind) (id : List ℕ) (rows : List Mark) → AreFound db mark_table mark_from (2 ∷ 3 ∷ []) (number (mark_kind_number k) ∷ Text id ∷ []) rows → rows ≡ marks_on s (node_at k id)
  marks_are k id rows found =
      found_again mark_from row_of_mark HasMarkValues (λ r h. mark_reads.again r h tt) mark_table mark_order (λ a b. by_text_number_text a.recall b.recall (mark_kind_number a.kind) (mark_kind_number b.kind) a.id b.id) db t.marks (holds.each 16 mark_table refl) (in_order newest_schema s valid).keyed.marks values.marks (2 ∷ 3 ∷ []) (number (mark_kind_number k) ∷ Text id ∷ []) (is_on k id) (λ m. number_text (mark_kind_number m.kind) (mark_kind_number k) m.id id) rows found
      ∙ are_on_node s.recalls (edges_of s) k id (in_order newest_schema s valid).keyed.recalls
