-- What is reported, put together: the maps and the set that it makes, and the picture of these.
use Rattle.std.specs.Prelude.{◌≡◌, ℕ, ◌==◌, List, [], ◌∷◌, ◌++◌, Bool, if◌then◌else◌, Option, Some, None, Result, Ok, Err, ⊤}
use Rattle.std.specs.List.{list_any}
use Rattle.std.specs.Ordering.{nat_cmp, ordering_then}
use Rattle.std.specs.Cmp.Lexicographic.{slice_cmp}
use Rattle.std.specs.declared.cmp.Ordering.{Ordering}
use Rattle.std.specs.BTreeMap.{insert_entry, is_at}
use Rattle.std.specs.BTreeSet.{insert_key}
use Rattle.std.specs.Map.{lookup, values_of}
use Rattle.plant_trace.specs.{node_cmp, Node}
use Rattle.plant_trace.specs.declared.node.Node.TheVariants.{Lot, Batch}
use Rattle.genealogy_svg.specs.contracts.model.PictureLotPartialEq.TheImpl.{ghosts as equal}
use Rattle.genealogy_svg.specs.declared.model.Picture.{Picture}
use Rattle.genealogy_svg.specs.declared.model.PictureEdge.{PictureEdge}
use Rattle.genealogy_svg.specs.declared.model.PictureLot.{PictureLot}
use Rattle.genealogy_svg.specs.declared.reported.GraphError.{GraphError}
use Rattle.genealogy_svg.specs.declared.reported.GraphError.TheVariants as graph_error
use Rattle.genealogy_svg.specs.declared.reported.Reported.{Reported}
use Rattle.genealogy_svg.specs.declared.reported.ReportedEdge.{ReportedEdge}
use Rattle.genealogy_svg.specs.declared.reported.UnitedFault.{UnitedFault}
use Rattle.genealogy_svg.specs.declared.reported.UnitedFault.TheVariants as fault

-- the one, and then the other, where nothing is wrong
infixl 10 ◌>>=◌
abbrev pub ◌>>=◌ : {A B E : Type 0} → Result A E → (A → Result B E) → Result B E
Ok a >>= f = f a
Err e >>= f = Err e

-- what was made is seen as this, or else this is wrong; nothing is said where memory was refused
abbrev pub ReportsAs : {A B : Type 0} → (A → B) → Result A UnitedFault → Result B GraphError → Type 0
ReportsAs seen (Ok a) r = r ≡ Ok (seen a)
ReportsAs seen (Err (fault.Reported p)) r = r ≡ Err p
ReportsAs seen (Err fault.Memory) r = ⊤

-- ---- what is reported more than once

abbrev pub noted_where : {K X : Type 0} → (K → K → Ordering) → (X → X → Bool) → List (K × X) → K → X → Option X → Option (List (K × X))
noted_where cmp eq es key value None = Some (insert_entry cmp es key value)
noted_where cmp eq es key value (Some known) = if eq known value then Some es else None

-- the entries of a map with this one; none where its key has another value
abbrev pub noted : {K X : Type 0} → (K → K → Ordering) → (X → X → Bool) → List (K × X) → K → X → Option (List (K × X))
noted cmp eq es key value = noted_where cmp eq es key value (lookup (is_at (cmp key)) es)

-- or else this is wrong
abbrev pub or_else : {A : Type 0} → GraphError → Option A → Result A GraphError
or_else p None = Err p
or_else p (Some a) = Ok a

-- ---- lots, batches and edges, each once

abbrev pub LotMap : Type 0
LotMap = List (List ℕ × PictureLot)

abbrev pub Edges : Type 0
Edges = List ((Node × Node) × ℕ)

abbrev pub id_cmp : List ℕ → List ℕ → Ordering
id_cmp = slice_cmp nat_cmp

-- edges ascend by where they begin, and those of one beginning by where they end
abbrev pub ends_cmp : Node × Node → Node × Node → Ordering
ends_cmp x y = ordering_then (node_cmp x.0 y.0) (node_cmp x.1 y.1)

abbrev pub lot_noted : LotMap → PictureLot → Result LotMap GraphError
lot_noted lots lot = or_else (graph_error.Lot lot.id) (noted id_cmp equal.eq lots lot.id lot)

abbrev pub lots_from : LotMap → List PictureLot → Result LotMap GraphError
lots_from lots [] = Ok lots
lots_from lots (lot ∷ more) = lot_noted lots lot >>= (λ now. lots_from now more)

abbrev pub batches_from : List (List ℕ) → List (List ℕ) → List (List ℕ)
batches_from batches [] = batches
batches_from batches (batch ∷ more) = batches_from (insert_key id_cmp batches batch) more

abbrev pub edge_noted : Edges → ReportedEdge → Result Edges GraphError
edge_noted edges e = or_else (graph_error.Amounts e.from e.to) (noted ends_cmp (λ m n. m == n) edges (e.from, e.to) e.amount)

abbrev pub edges_from : Edges → List ReportedEdge → Result Edges GraphError
edges_from edges [] = Ok edges
edges_from edges (e ∷ more) = edge_noted edges e >>= (λ now. edges_from now more)

-- ---- the units of edges

abbrev pub lot_unit : Node → Option PictureLot → Result (Option (List ℕ)) GraphError
lot_unit node None = Err (graph_error.Lost node)
lot_unit node (Some lot) = Ok (Some lot.unit)

-- the unit of a lot, none of a batch; each has to be reported
abbrev pub unit_at : LotMap → List (List ℕ) → Node → Result (Option (List ℕ)) GraphError
unit_at lots batches (Lot id) = lot_unit (Lot id) (lookup (is_at (id_cmp id)) lots)
unit_at lots batches (Batch id) = if list_any (is_at (id_cmp id)) batches then Ok None else Err (graph_error.Lost (Batch id))

abbrev pub id_of : Node → List ℕ
id_of (Lot id) = id
id_of (Batch id) = id

-- the unit of an edge is that of the lot at its beginning, else of that at its end
abbrev pub measured : Node × Node → ℕ → Option (List ℕ) → Option (List ℕ) → Result PictureEdge GraphError
measured ends amount (Some unit) other = Ok (record { from = ends.0; to = ends.1; amount = amount; unit = unit })
measured ends amount None (Some unit) = Ok (record { from = ends.0; to = ends.1; amount = amount; unit = unit })
measured ends amount None None = Err (graph_error.Batches (id_of ends.0) (id_of ends.1))

abbrev pub edge_in : LotMap → List (List ℕ) → (Node × Node) × ℕ → Result PictureEdge GraphError
edge_in lots batches e =
    unit_at lots batches e.0.0 >>= (λ first.
    unit_at lots batches e.0.1 >>= (λ last.
    measured e.0 e.1 first last))

-- the edges with their units, after these
abbrev pub edges_in : LotMap → List (List ℕ) → List PictureEdge → Edges → Result (List PictureEdge) GraphError
edges_in lots batches done [] = Ok done
edges_in lots batches done (e ∷ more) = edge_in lots batches e >>= (λ edge. edges_in lots batches (done ++ edge ∷ []) more)

-- ---- the picture

abbrev pub picture_with : LotMap → List (List ℕ) → Edges → Result Picture GraphError
picture_with lots batches edges =
    edges_in lots batches [] edges >>= (λ drawn. Ok (record { lots = values_of lots; batches = batches; edges = drawn }))

-- the picture of what is reported, or the first thing that is wrong with it: lots before edges, and an edge's amounts before its ends
unfoldable pub picture_of : Reported → Result Picture GraphError
picture_of reported =
    lots_from [] reported.lots >>= (λ lots.
    edges_from [] reported.edges >>= (λ edges.
    picture_with lots (batches_from [] reported.batches) edges))
