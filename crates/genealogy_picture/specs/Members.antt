-- The nodes and the edges of an answer. An object has a name once: where a text has it twice, the last one counts.
use Rattle.std.specs.Prelude.{ℕ, suc, ◌==◌, List, Bool, false, if◌then◌else◌, codes, Option, Some, None, option_map, option_and_then, is_some}
use Rattle.serde_json.specs.Data.{Data, Members, no_members, member}
use Rattle.serde_json.specs.Find.{get, as_bool, as_number, as_u64, as_str, as_object}
use Rattle.plant_base.specs.{is_id, is_unit, only}
use Rattle.genealogy_svg.specs.{PictureLot, ReportedEdge}
use Rattle.plant_trace.specs.{Node}
use Rattle.plant_trace.specs.declared.node.Node.TheVariants as node
use Rattle.genealogy_picture.specs.declared.members.ReportedNode.{ReportedNode}
use Rattle.genealogy_picture.specs.declared.members.ReportedNode.TheVariants as reported

-- ---- members

abbrev pub count_of : Members → ℕ
count_of no_members = 0
count_of (member name d ms) = suc (count_of ms)

abbrev pub is_count : ℕ → Option Members → Bool
is_count count None = false
is_count count (Some ms) = count_of ms == count

-- an object of so many members
abbrev pub has_members : ℕ → Data → Bool
has_members count d = is_count count (as_object d)

-- the one, and then the other, where each is there
infixl 10 ◌>>=◌
abbrev pub ◌>>=◌ : {A B : Type 0} → Option A → (A → Option B) → Option B
o >>= f = option_and_then f o

abbrev pub id_at : List ℕ → Data → Option (List ℕ)
id_at name d = get name d >>= as_str >>= only is_id

abbrev pub unit_at : List ℕ → Data → Option (List ℕ)
unit_at name d = get name d >>= as_str >>= only is_unit

-- a whole number from 0 to 2^64 - 1, written with no sign, fraction or exponent
abbrev pub number_at : List ℕ → Data → Option ℕ
number_at name d = get name d >>= (λ v. option_and_then as_u64 (as_number v))

abbrev pub flag_at : List ℕ → Data → Option Bool
flag_at name d = get name d >>= as_bool

-- ---- nodes

abbrev pub lot_in : Data → Option PictureLot
lot_in d =
    id_at (codes "lot") d >>= (λ id.
    id_at (codes "def") d >>= (λ definition.
    unit_at (codes "unit") d >>= (λ unit.
    number_at (codes "stock") d >>= (λ stock.
    flag_at (codes "held") d >>= (λ held.
    flag_at (codes "recalled") d >>= (λ recalled.
    Some (record { id = id; definition = definition; unit = unit; stock = stock; is_held = held; is_recalled = recalled })))))))

-- a lot has these six members and no more
abbrev pub lot_of : Data → Option PictureLot
lot_of d = if has_members 6 d then lot_in d else None

abbrev pub batch_of : Data → Option (List ℕ)
batch_of d = if has_members 1 d then id_at (codes "batch") d else None

-- an object with `lot` is a lot or nothing, and another a batch or nothing
abbrev pub node_of : Data → Option ReportedNode
node_of d = if is_some (get (codes "lot") d) then option_map reported.Lot (lot_of d) else option_map reported.Batch (batch_of d)

-- ---- edges

abbrev pub end_in : Data → Option Node
end_in d = if is_some (get (codes "lot") d) then option_map node.Lot (id_at (codes "lot") d) else option_map node.Batch (id_at (codes "batch") d)

-- an end has one member and no more
abbrev pub end_of : Data → Option Node
end_of d = if has_members 1 d then end_in d else None

abbrev pub end_at : List ℕ → Data → Option Node
end_at name d = get name d >>= end_of

abbrev pub edge_in : Data → Option ReportedEdge
edge_in d =
    end_at (codes "from") d >>= (λ from.
    end_at (codes "to") d >>= (λ to.
    number_at (codes "amount") d >>= (λ amount.
    Some (record { from = from; to = to; amount = amount }))))

-- an edge has these three members and no more
abbrev pub edge_of : Data → Option ReportedEdge
edge_of d = if has_members 3 d then edge_in d else None
