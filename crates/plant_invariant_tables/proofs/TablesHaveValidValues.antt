-- The values of a valid state's tables, and the order of their rows.
use Rattle.std.proofs.Common.{◌≡◌, ◌∙◌, ℕ, ◌+◌, ◌≤◌, true, List, [], ◌∷◌, Option, Some, None, is_some, map, length, refl, sym, ap, subst, arith, Bool, false, if◌then◌else◌, option_map, IfSome, ◌&&◌, ◌==◌, nat_le, filter_map, flat_map, le-leb, leb-true, eq-eqb}
use Rattle.std.specs.List.{AllByRecursion, cons_option}
use Rattle.std.proofs.lemmas.Bool.{false≢true, and_from}
use Rattle.std.proofs.lemmas.List.{length-map}
use Rattle.plant_base.specs.{edge_order, edge_total, is_open, mark_order, mark_total, HasRecallValues, State, same, newest_schema, batch_at, is_id, greatest_amount, greatest_sublot, greatest_seq, Batch, BatchEvent, ControlLine, EdgeKind, EdgeRow, Header, Job, MasterLine, Movement, MovementKind, Place, Recall, Receipt, Recipe, RecipeLine, Sublot}
use Rattle.plant_base.specs.declared.rows.EdgeKind.TheVariants as edge
use Rattle.plant_base.specs.declared.rows.MovementKind.TheVariants as kind
use Rattle.plant_view.proofs.ListLemmas.{all_weaker, found_passes, found_keeps, same_id, same_key, same_itself, key_itself, all_two, all_mapped, all_unmapped, all_filtered, all_put_all, and_left, and_right}
use Rattle.plant_recipe.specs.{is_well_formed, greatest_lines}
use Rattle.plant_recipe.proofs.RecipeLines.{keeps_procedure}
use Rattle.plant_view.specs.{headers_of, header_among, orders_of, rows_among, lines_among, master_line, control_line, control_among, IsConsistentRecipe, HasValidOrder, IsConsistentBatch, is_batch_among, edge_row_by, edge_row_of, edge_rows, ends_by, ends_of, edge_of, edges_of, mark_on, nodes_from, marks_of, marks, numbered, tables_of, batch_row, sublot_row}
use Rattle.plant_trace.specs.{leads, Node}
use Rattle.plant_trace.specs.declared.node.Node.TheVariants as node
use Rattle.plant_rules_production.proofs.ControlIsWellFormed.{control_made}
use Rattle.plant_invariant.specs.RowValues as kept
use Rattle.plant_invariant.specs.{AreCounted, booked, HasProgressValues, IsValidRecall, HasReceiptValues}
use Rattle.plant_invariant.specs.StateInvariant.{StateInvariant}
use Rattle.plant_invariant.proofs.KeptColumns.{columns}
use Rattle.plant_invariant.proofs.AppendKeepsOrder.{all_append, all_swap, all_passing}
use Rattle.plant_invariant_tables.proofs.RowsInKeyOrder.{keyed}
use Rattle.plant_tables_columns.specs.{is_in, greatest_number, HasRecipeValues, IsLineNumber, HasMasterLineValues, HasBatchRowValues, HasControlLineValues, HasEventRowValues, HasSublotValues, HasKindRowValues, HasMovementRowValues, HasEdgeValues, HasReceiptRowValues, HasMarkValues, HasValidValues}
use Rattle.plant_tables.specs.{IsKnown, AreInOrder}

-- ---- order

pub in_order : (schema : ℕ) (s : State) → StateInvariant s → AreInOrder (tables_of schema s)
in_order schema s valid = record { keyed = keyed schema s valid; events = valid.numbers.events; movements = valid.numbers.movements }

pub newest_known : IsKnown newest_schema
newest_known = (omega arith, omega arith)

-- ---- numbers of lines

in_range : (low high n : ℕ) → low ≤ n → n ≤ high → is_in low high n ≡ true
in_range low high n l h = and_from (nat_le low n) (nat_le n high) (le-leb low n l) (le-leb n high h)

few_lines : (h : Header) (lines : List RecipeLine) → is_well_formed h lines ≡ true → length lines ≤ greatest_lines
few_lines h lines formed = leb-true (length lines) greatest_lines (and_right _ _ (and_left _ _ (and_left _ _ (and_left _ _ (and_left _ _ (and_left _ _ formed))))))

-- rows that are numbered from 1 on have numbers of lines
module _ {L R : Type 0} (f : ℕ → L → R) (number_of : R → ℕ) (is_numbered : (k : ℕ) (l : L) → number_of (f k l) ≡ k) where
  numbers_small : (k : ℕ) (ls : List L) → 1 ≤ k → k + length ls ≤ 65536 → AllByRecursion (λ r. IsLineNumber (number_of r)) (numbered f k ls)
  numbers_small k [] low high = tt
  numbers_small k (l ∷ ls) low high = (ap (is_in 1 65535) (is_numbered k l) ∙ in_range 1 65535 k low (omega (arith, high)), numbers_small (k + 1) ls (omega (arith, low)) (omega (arith, high)))

-- numbers that count from 1 on
counted_small : (k : ℕ) (ns : List ℕ) → AreCounted k ns → 1 ≤ k → k + length ns ≤ 65536 → AllByRecursion IsLineNumber ns
counted_small k [] counted low high = tt
counted_small k (n ∷ ns) counted low high = (ap (is_in 1 65535) counted.0 ∙ in_range 1 65535 k low (omega (arith, high)), counted_small (k + 1) ns counted.1 (omega (arith, low)) (omega (arith, high)))

-- ---- rows that are made of others

-- what holds of what each gives, where it gives something, holds of all that they give
with_made : {X : Type 0} (P : X → Type 0) (o : Option X) (xs : List X) → IfSome o P → AllByRecursion P xs → AllByRecursion P (cons_option o xs)
with_made P None xs one all = all
with_made P (Some x) xs one all = (one, all)

all_made : {X Y : Type 0} (P : Y → Type 0) (f : X → Option Y) (xs : List X) → AllByRecursion (λ x. IfSome (f x) P) xs → AllByRecursion P (filter_map f xs)
all_made P f [] all = tt
all_made P f (x ∷ xs) all = with_made P (f x) (filter_map f xs) all.0 (all_made P f xs all.1)

-- and so it is where each gives a list
all_joined : {X Y : Type 0} (P : Y → Type 0) (f : X → List Y) (xs : List X) → AllByRecursion (λ x. AllByRecursion P (f x)) xs → AllByRecursion P (flat_map f xs)
all_joined P f [] all = tt
all_joined P f (x ∷ xs) all = all_append P (f x) (flat_map f xs) all.0 (all_joined P f xs all.1)

-- the rows, or none where none are kept
all_kept : {X : Type 0} (P : X → Type 0) (keeps : Bool) (xs : List X) → AllByRecursion P xs → AllByRecursion P (if keeps then xs else [])
all_kept P true xs all = all
all_kept P false xs all = tt

-- ---- nodes and marks

abbrev HasNodeId : Node → Type 0
HasNodeId (node.Lot id) = is_id id ≡ true
HasNodeId (node.Batch id) = is_id id ≡ true

to_named : (k : EdgeKind) (from to : List ℕ) → is_id to ≡ true → HasNodeId (ends_by k from to).1
to_named edge.LotToBatch from to id = id
to_named edge.BatchToLot from to id = id
to_named edge.LotToLot from to id = id

end_named : (o : Option EdgeRow) → IfSome o HasEdgeValues → IfSome (option_map ends_of o) (λ p. HasNodeId p.1)
end_named None v = tt
end_named (Some e) v = to_named e.kind e.from e.to v.to

mark_named : (recall : List ℕ) (y : Node) → is_id recall ≡ true → HasNodeId y → HasMarkValues (mark_on recall y)
mark_named recall (node.Lot id) own named = record { recall = own; id = named }
mark_named recall (node.Batch id) own named = record { recall = own; id = named }

-- ---- rows

kind_values : (k : MovementKind) → kept.HasKindValues k → HasKindRowValues k
kind_values kind.Received h = tt
kind_values (kind.Consumed batch) h = h
kind_values (kind.Produced batch) h = h
kind_values kind.Scrapped h = tt
kind_values (kind.Divided to) h = le-leb to greatest_sublot h
kind_values (kind.Split to) h = h
kind_values (kind.Merged to) h = h

module _ (s : State) (valid : StateInvariant s) where
  seq_values : (n : ℕ) → n ≤ s.seq → nat_le n greatest_seq ≡ true
  seq_values n h = let limit : s.seq ≤ greatest_seq = valid.values.seq in le-leb n greatest_seq (omega (arith, h, limit))

  -- ---- recipes

  -- a recipe that is whole
  abbrev Whole : Type 0
  Whole = (h : Header) × IsConsistentRecipe s.definitions s.master_lines h

  recipe_numbers : (r : Whole) → AllByRecursion (λ l. IsLineNumber l.number) (rows_among s.master_lines r.0.recipe r.0.version)
  recipe_numbers r =
      let lines = lines_among s.master_lines r.0.recipe r.0.version in
      let few : length lines ≤ 128 = few_lines r.0 lines r.1.formed in
      subst (AllByRecursion (λ (l : MasterLine). IsLineNumber l.number)) (sym r.1.numbered) (numbers_small (master_line r.0) (λ l. l.number) (λ k l. refl) 1 lines (omega arith) (omega (arith, few)))

  numbered_by_recipe : AllByRecursion (λ l. (r : Whole) → (same l.recipe r.0.recipe && l.version == r.0.version) ≡ true → IsLineNumber l.number) s.master_lines
  numbered_by_recipe = all_swap (λ (r : Whole) (l : MasterLine). (same l.recipe r.0.recipe && l.version == r.0.version) ≡ true → IsLineNumber l.number) s.master_lines
      (λ r. all_passing (λ (l : MasterLine). IsLineNumber l.number) (λ (l : MasterLine). same l.recipe r.0.recipe && l.version == r.0.version) s.master_lines (recipe_numbers r))

  master_number : (l : MasterLine) → is_some (header_among (headers_of s.recipes) l.recipe l.version) ≡ true → ((r : Whole) → (same l.recipe r.0.recipe && l.version == r.0.version) ≡ true → IsLineNumber l.number) → IsLineNumber l.number
  master_number l listed small = by (header_among (headers_of s.recipes) l.recipe l.version) refl listed
    where
      by : (o : Option Header) → header_among (headers_of s.recipes) l.recipe l.version ≡ o → is_some o ≡ true → IsLineNumber l.number
      by None e there = absurd (false≢true there)
      by (Some h) e there =
          let own = λ (x : Header). same x.recipe l.recipe && x.version == l.version in
          let keys = same_key h.recipe l.recipe h.version l.version (found_passes own (headers_of s.recipes) h e) in
          let whole = found_keeps (IsConsistentRecipe s.definitions s.master_lines) own (headers_of s.recipes) h valid.sound.recipes.whole e in
          small (h, whole) ((λ i. same l.recipe (keys.0 i) && l.version == keys.1 i) ∙ key_itself l.recipe l.version)

  master_lines : AllByRecursion HasMasterLineValues s.master_lines
  master_lines = all_two _ _ HasMasterLineValues (λ (l : MasterLine) v n. record { recipe = v.recipe; version = v.version; number = n; line = v.line }) s.master_lines valid.values.master_lines
      (all_two _ _ _ master_number s.master_lines valid.sound.recipes.listed numbered_by_recipe)

  recipes : AllByRecursion HasRecipeValues s.recipes
  recipes = all_weaker (λ (r : Recipe). IsConsistentRecipe s.definitions s.master_lines r.header) HasRecipeValues (λ r w. record { header = w.values; version = w.version }) s.recipes
      (all_unmapped (IsConsistentRecipe s.definitions s.master_lines) (λ (r : Recipe). r.header) s.recipes valid.sound.recipes.whole)

  -- ---- batches

  -- a batch that is found by an id
  abbrev Released : Type 0
  Released = (id : List ℕ) × (b : Batch) × (batch_at s id ≡ Some b)

  abbrev ConsistentBatch : Batch → Type 0
  ConsistentBatch = IsConsistentBatch (headers_of s.recipes) s.master_lines (orders_of s.jobs) s.batches s.control_lines

  control_numbers : (r : Released) → AllByRecursion (λ l. IsLineNumber l.number) (control_among s.control_lines r.0)
  control_numbers r =
      let own = λ (x : Batch). same x.id r.0 in
      let key : r.1.id ≡ r.0 = same_id r.1.id r.0 (found_passes own s.batches r.1 r.2) in
      let its = found_keeps ConsistentBatch own s.batches r.1 valid.sound.production.batches.each r.2 in
      let lines = map (λ (l : ControlLine). l.line) (control_among s.control_lines r.0) in
      let made = control_made s valid.sound r.0 r.1 r.2 in
      let copied : length lines ≡ length made.lines = (keeps_procedure made.header made.lines lines made.size made.made).0 in
      let few : length made.lines ≤ 128 = few_lines made.header made.lines made.formed in
      let rows : control_among s.control_lines r.0 ≡ numbered (control_line r.0) 1 lines = subst (λ i. control_among s.control_lines i ≡ numbered (control_line i) 1 (map (λ (l : ControlLine). l.line) (control_among s.control_lines i))) key its.numbered in
      subst (AllByRecursion (λ (l : ControlLine). IsLineNumber l.number)) (sym rows) (numbers_small (control_line r.0) (λ l. l.number) (λ k l. refl) 1 lines (omega arith) (omega (arith, few, copied)))

  numbered_by_batch : AllByRecursion (λ l. (r : Released) → same l.batch r.0 ≡ true → IsLineNumber l.number) s.control_lines
  numbered_by_batch = all_swap (λ (r : Released) (l : ControlLine). same l.batch r.0 ≡ true → IsLineNumber l.number) s.control_lines
      (λ r. all_passing (λ (l : ControlLine). IsLineNumber l.number) (λ (l : ControlLine). same l.batch r.0) s.control_lines (control_numbers r))

  control_number : (l : ControlLine) → is_batch_among s.batches l.batch ≡ true → ((r : Released) → same l.batch r.0 ≡ true → IsLineNumber l.number) → IsLineNumber l.number
  control_number l known small = by (batch_at s l.batch) refl known
    where
      by : (o : Option Batch) → batch_at s l.batch ≡ o → is_some o ≡ true → IsLineNumber l.number
      by None e there = absurd (false≢true there)
      by (Some b) e there = small (l.batch, b, e) (same_itself l.batch)

  control_lines : AllByRecursion HasControlLineValues s.control_lines
  control_lines = all_two _ _ HasControlLineValues (λ (l : ControlLine) v n. record { batch = v.batch; number = n; line = v.line }) s.control_lines valid.values.control_lines
      (all_two _ _ _ control_number s.control_lines valid.sound.production.batches.controlled numbered_by_batch)

  batches : AllByRecursion HasBatchRowValues (map (batch_row s.control_lines s.events) s.batches)
  batches =
      let row = batch_row s.control_lines s.events in
      let progress = all_unmapped HasProgressValues row s.batches (columns s valid).progress in
      all_mapped HasBatchRowValues row s.batches
      (all_two ConsistentBatch (λ b. HasProgressValues (row b)) (λ b. HasBatchRowValues (row b)) (λ b w p. record {
        batch = w.values;
        attempt = in_range 1 99 (row b).attempt p.first_attempt p.last_attempt;
        next = in_range 1 128 (row b).next p.first_phase p.last_phase;
      }) s.batches valid.sound.production.batches.each progress)

  events : AllByRecursion HasEventRowValues s.events
  events = all_two _ _ HasEventRowValues (λ (e : BatchEvent) given v. record {
    seq = seq_values e.seq given.1;
    batch = v.batch;
    phase = v.phase;
    at = v.at;
    by = v.by;
    note = v.note;
  }) s.events valid.numbers.events_given valid.values.events

  -- ---- stocks

  sublots : AllByRecursion HasSublotValues (map (sublot_row s.movements) s.places)
  sublots =
      let row = sublot_row s.movements in
      let stocks = all_unmapped (λ (r : Sublot). r.stock ≤ greatest_amount) row s.places (columns s valid).stocks in
      all_mapped HasSublotValues row s.places
      (all_two kept.HasPlaceValues _ (λ (p : Place). HasSublotValues (row p)) (λ p v small. record {
        lot = v.lot;
        number = le-leb p.number greatest_sublot v.number;
        place = v.place;
        stock = le-leb (row p).stock greatest_amount small;
      }) s.places valid.values.places stocks)

  line_of_booking : (number : ℕ) → AllByRecursion (λ m. (m.seq == number) ≡ true → IsLineNumber m.line) s.movements
  line_of_booking number =
      let booking = valid.numbers.bookings number in
      let lines = booked s.movements number in
      let few : length lines ≤ 16 = booking.few in
      let long : length (map (λ (m : Movement). m.line) lines) ≡ length lines = length-map lines (λ (m : Movement). m.line) in
      all_passing (λ (m : Movement). IsLineNumber m.line) (λ (m : Movement). m.seq == number) s.movements
      (all_unmapped IsLineNumber (λ (m : Movement). m.line) lines (counted_small 1 (map (λ (m : Movement). m.line) lines) booking.numbered (omega arith) (omega (arith, few, long))))

  movement_lines : AllByRecursion (λ m. IsLineNumber m.line) s.movements
  movement_lines = all_weaker _ (λ (m : Movement). IsLineNumber m.line) (λ m small. small m.seq (eq-eqb m.seq m.seq refl)) s.movements
      (all_swap (λ (number : ℕ) (m : Movement). (m.seq == number) ≡ true → IsLineNumber m.line) s.movements line_of_booking)

  abbrev IsGivenLine : Movement → Type 0
  IsGivenLine m = (m.seq ≤ s.seq) × IsLineNumber m.line

  movements : AllByRecursion HasMovementRowValues s.movements
  movements = all_two IsGivenLine _ HasMovementRowValues (λ (m : Movement) given v. record {
    seq = seq_values m.seq given.0;
    line = given.1;
    kind = kind_values m.kind v.kind;
    lot = v.lot;
    sub = le-leb m.sub greatest_sublot v.sub;
    amount = v.amount;
    at = v.at;
    by = v.by;
    note = v.note;
  }) s.movements (all_two _ _ IsGivenLine (λ (m : Movement) given line. (given.1, line)) s.movements valid.numbers.movements_given movement_lines) valid.values.movements

  -- what of a kind of movement makes an edge are ids
  ends_good : (k : MovementKind) (lot : List ℕ) → is_id lot ≡ true → HasKindRowValues k → IfSome (edge_row_by k lot) HasEdgeValues
  ends_good kind.Received lot id named = tt
  ends_good (kind.Consumed batch) lot id named = record { from = id; to = named }
  ends_good (kind.Produced batch) lot id named = record { from = named; to = id }
  ends_good kind.Scrapped lot id named = tt
  ends_good (kind.Divided to) lot id named = tt
  ends_good (kind.Split to) lot id named = record { from = id; to = named }
  ends_good (kind.Merged to) lot id named = record { from = id; to = named }

  edges_valid : AllByRecursion (λ m. IfSome (edge_row_of m) HasEdgeValues) s.movements
  edges_valid = all_weaker HasMovementRowValues _ (λ (m : Movement) v. ends_good m.kind m.lot v.lot v.kind) s.movements movements

  edges : AllByRecursion HasEdgeValues (edge_rows s.movements)
  edges = all_put_all edge_order edge_total HasEdgeValues (filter_map edge_row_of s.movements) [] (all_made HasEdgeValues edge_row_of s.movements edges_valid) tt

  receipts : AllByRecursion HasReceiptRowValues s.receipts
  receipts = all_two HasReceiptValues _ HasReceiptRowValues (λ (r : Receipt) v given. record {
    reference = v.reference;
    seq = seq_values r.seq given.1;
    content = v.content;
  }) s.receipts valid.receipts.values valid.receipts.given

  -- ---- recalls

  recalls : AllByRecursion HasRecallValues s.recalls
  recalls = all_weaker (IsValidRecall s.at s.lots) HasRecallValues (λ (r : Recall) g. g.values) s.recalls valid.recalls

  -- what edges lead to has an id
  ends_named : AllByRecursion (λ (p : Node × Node). HasNodeId p.1) (edges_of s)
  ends_named = all_made (λ (p : Node × Node). HasNodeId p.1) edge_of s.movements
      (all_weaker (λ (m : Movement). IfSome (edge_row_of m) HasEdgeValues) _ (λ (m : Movement) v. end_named (edge_row_of m) v) s.movements edges_valid)

  nodes_named : (lot : List ℕ) → is_id lot ≡ true → AllByRecursion HasNodeId (nodes_from (edges_of s) lot)
  nodes_named lot id = (id, all_filtered HasNodeId (leads (edges_of s) (node.Lot lot)) (map (λ (p : Node × Node). p.1) (edges_of s)) (all_mapped HasNodeId (λ (p : Node × Node). p.1) (edges_of s) ends_named))

  marks_named : (r : Recall) → HasRecallValues r → AllByRecursion HasMarkValues (marks_of (edges_of s) r)
  marks_named r v = all_kept HasMarkValues (is_open r) (map (mark_on r.id) (nodes_from (edges_of s) r.lot))
      (all_mapped HasMarkValues (mark_on r.id) (nodes_from (edges_of s) r.lot) (all_weaker HasNodeId _ (λ (y : Node) named. mark_named r.id y v.id named) (nodes_from (edges_of s) r.lot) (nodes_named r.lot v.lot)))

  mark_rows : AllByRecursion HasMarkValues (marks s.recalls (edges_of s))
  unfolding marks
  mark_rows = all_put_all mark_order mark_total HasMarkValues (flat_map (marks_of (edges_of s)) s.recalls) []
      (all_joined HasMarkValues (marks_of (edges_of s)) s.recalls (all_weaker HasRecallValues _ (λ (r : Recall) v. marks_named r v) s.recalls recalls)) tt

  -- ---- all tables

  known_schema : (schema : ℕ) → IsKnown schema → is_in 1 greatest_number schema ≡ true
  known_schema schema known = in_range 1 greatest_number schema known.0 (omega (arith, known.1))

  pub valid_values : (schema : ℕ) → IsKnown schema → HasValidValues (tables_of schema s)
  valid_values schema known = record {
    meta = record { schema = known_schema schema known; seq = seq_values s.seq (omega arith); at = valid.values.at };
    classes = valid.values.classes;
    definitions = valid.values.definitions;
    recipes = recipes;
    master_lines = master_lines;
    jobs = all_unmapped HasValidOrder (λ (j : Job). j.order) s.jobs valid.sound.production.orders.values;
    batches = batches;
    control_lines = control_lines;
    events = events;
    lots = valid.values.lots;
    sublots = sublots;
    movements = movements;
    holds = valid.values.holds;
    edges = all_kept HasEdgeValues (nat_le 2 schema) (edge_rows s.movements) edges;
    receipts = all_kept HasReceiptRowValues (nat_le 3 schema) s.receipts receipts;
    recalls = all_kept HasRecallValues (nat_le 4 schema) s.recalls recalls;
    marks = all_kept HasMarkValues (nat_le 4 schema) (marks s.recalls (edges_of s)) mark_rows;
  }
