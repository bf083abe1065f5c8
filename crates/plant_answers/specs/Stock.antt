-- The stock of a definition, lot by lot, the oldest first.
use Rattle.std.specs.Prelude.{ℕ, Bool, true, not, ◌&&◌, ◌||◌, length, sum_by, if◌then◌else◌, List, [], Option, Some, None, filter, filter_map, fold, map, slice_get}
use Rattle.std.specs.Ordering.{is_gt, nat_cmp, ordering_then}
use Rattle.std.specs.BTreeSet.{insert_key}
use Rattle.std.specs.declared.cmp.Ordering.{Ordering}
use Rattle.plant_base.specs.{State, lot_at, id_cmp, same, Definition, Lot, Movement, Sublot}
use Rattle.plant_questions.specs.{definitions_in, ledger_of, page_of, sublots_in_stock, Cursor, DefinitionStock, Page, StandingLot, StockedLot}
use Rattle.plant_answers_genealogy.specs.{standing_lot, in_64_bits, stocked_at}
use Rattle.plant_answers.specs.StockOrder.{stock_order}
use Rattle.plant_answers.specs.declared.stock.AgedLot.{AgedLot}
use Rattle.plant_answers.specs.declared.stock.LotOf.{LotOf}
use Rattle.plant_answers.specs.declared.stocks.Part.{Part}
use Rattle.plant_answers.specs.declared.stocks.Part.TheVariants as part
use Rattle.plant_trace.specs.{node_cmp}
use Rattle.plant_trace.specs.declared.node.Node.TheVariants as node

-- the movement that made a lot: the first of its ledger
abbrev pub birth_of : State → List ℕ → Option Movement
birth_of s lot = slice_get (ledger_of s lot None) 0

-- the number of the command that booked it
abbrev pub number_born : Option Movement → ℕ
number_born None = 0
number_born (Some m) = m.seq

-- a lot of the definition with its age
abbrev pub aged_if : State → List ℕ → Option Lot → Option AgedLot
aged_if s def None = None
aged_if s def (Some l) = if same l.def def then Some (record { born = number_born (birth_of s l.id); lot = l }) else None

abbrev pub aged_at : State → LotOf → Option AgedLot
aged_at s it = aged_if s it.def (lot_at s it.lot)

abbrev pub lot_of : List ℕ → Sublot → LotOf
lot_of def r = record { lot = r.lot; def = def }

-- these in an order, each once
abbrev pub each_once : {X : Type 0} → (X → X → Ordering) → List X → List X
each_once order xs = fold (insert_key order) [] xs

-- the lots of the definition of which a sublot has stock, the oldest first
unfoldable pub lots_in_stock : State → List ℕ → List AgedLot
lots_in_stock s def = each_once stock_order (filter_map (aged_at s) (map (lot_of def) (sublots_in_stock s)))

-- the lot comes after this cursor; where none is given, each lot does
abbrev pub is_aged_after : Option (Cursor ℕ (List ℕ)) → AgedLot → Bool
is_aged_after None a = true
is_aged_after (Some place) a = is_gt (ordering_then (nat_cmp a.born place.first) (id_cmp a.lot.id place.second))

-- what is known of the lot, and what made it
abbrev pub stocked : State → AgedLot → StockedLot
stocked s a = record { standing = standing_lot s a.lot; born = birth_of s a.lot.id }

abbrev pub stock_rows : State → Page AgedLot → Page StockedLot
stock_rows s page = record { rows = filter_map (λ a. Some (stocked s a)) page.rows; has_more = page.has_more }

abbrev pub stock_page : State → List ℕ → Option (Cursor ℕ (List ℕ)) → Page StockedLot
stock_page s def cursor = stock_rows s (page_of (filter (is_aged_after cursor) (lots_in_stock s def)))

-- ---- what there is of each definition of a class

-- all lots that have stock, by their ids
unfoldable pub all_in_stock : State → List StandingLot
all_in_stock s = filter_map (stocked_at s) (each_once node_cmp (map (λ r. node.Lot r.lot) (sublots_in_stock s)))

-- what the lot counts for
abbrev pub is_counted : Part → StandingLot → Bool
is_counted part.Usable a = not (a.known.held || a.recalled)
is_counted part.Held a = a.known.held
is_counted part.Recalled a = a.recalled

abbrev pub is_lot_of : List ℕ → StandingLot → Bool
is_lot_of def a = same a.known.def def

-- the amount that the lot is counted with
abbrev pub counted_in : Part → List ℕ → StandingLot → ℕ
counted_in p def a = if is_lot_of def a && is_counted p a then a.known.stock else 0

abbrev pub total_in : List StandingLot → Part → List ℕ → ℕ
total_in lots p def = in_64_bits (sum_by (counted_in p def) lots)

-- what there is of a definition among these lots
abbrev pub stock_of : List StandingLot → Definition → DefinitionStock
stock_of lots d = record {
  definition = d;
  lots = length (filter (is_lot_of d.id) lots);
  usable = total_in lots part.Usable d.id;
  held = total_in lots part.Held d.id;
  recalled = total_in lots part.Recalled d.id;
}

abbrev pub stocks_rows : List StandingLot → Page Definition → Page DefinitionStock
stocks_rows lots page = record { rows = map (stock_of lots) page.rows; has_more = page.has_more }

abbrev pub stocks_page : State → List ℕ → Option (List ℕ) → Page DefinitionStock
stocks_page s class cursor = stocks_rows (all_in_stock s) (page_of (definitions_in s class cursor))
