-- What was read ahead of lots that are asked for one after another is of the state.
use Rattle.std.specs.Prelude.{◌≡◌, ℕ, true, false, if◌then◌else◌, List, Option, Some, None, IfSome}
use Rattle.plant_base.specs.{State, definition_at, lot_at, same, Definition, Lot}
use Rattle.plant_trace.specs.{Node}
use Rattle.plant_trace.specs.declared.node.Node.TheVariants as node
use Rattle.plant_questions.specs.{IsValidHoldPrefetch, IsValidLotPrefetch, IsValidSublotPrefetch, prefetched_holds, prefetched_lots, prefetched_sublots, unread}
use Rattle.plant_answers_genealogy.specs.declared.known_lots.KnownLots.{KnownLots}

pub record AreKnown (s : State) (known : KnownLots) : Type 0 where
  pub lots : IsValidLotPrefetch s known.lots
  pub sublots : IsValidSublotPrefetch s known.sublots
  pub holds : IsValidHoldPrefetch s known.holds
  pub definition : IfSome known.definition (λ d. definition_at s d.id ≡ Some d)

-- nothing yet: the first page of holds is due at once, those of lots and sublots where something speaks for them
abbrev pub nothing_known : KnownLots
nothing_known = record { lots = unread false; sublots = unread false; holds = unread true; definition = None }

-- the definition that was looked up last, where it is of this id
abbrev pub last_one : List ℕ → Option Definition → Option Definition
last_one id None = None
last_one id (Some d) = if same d.id id then Some d else None

-- ---- what is known next

-- once a lot was asked for by its id
abbrev pub after_row : State → List ℕ → KnownLots → KnownLots
after_row s id known = record known { lots = prefetched_lots s id known.lots }

-- once it was asked what the lot has
abbrev pub after_lot : State → Lot → KnownLots → KnownLots
after_lot s l known = record known { sublots = prefetched_sublots s l.id known.sublots; holds = prefetched_holds s l.id known.holds }

-- once a definition was asked for
abbrev pub after_definition : State → List ℕ → KnownLots → KnownLots
after_definition s id known = record known { definition = definition_at s id }

-- ---- item by item

-- after a lot, of which it was asked what it has
abbrev pub after_stocked : State → KnownLots → Lot → KnownLots
after_stocked s known l = after_lot s l known

abbrev pub after_stocked_if : State → KnownLots → Option Lot → KnownLots
after_stocked_if s known None = known
after_stocked_if s known (Some l) = after_lot s l known

-- after a node, whose goods were asked for
abbrev pub after_stocked_at : State → KnownLots → Node → KnownLots
after_stocked_at s known (node.Lot id) = after_stocked_if s (after_row s id known) (lot_at s id)
after_stocked_at s known (node.Batch id) = known

-- after a lot of a genealogy, with its definition
abbrev pub after_node_if : State → KnownLots → Option Lot → KnownLots
after_node_if s known None = known
after_node_if s known (Some l) = after_lot s l (after_definition s l.def known)

abbrev pub after_node : State → KnownLots → Node → KnownLots
after_node s known (node.Lot id) = after_node_if s (after_row s id known) (lot_at s id)
after_node s known (node.Batch id) = known
