-- The layout of a picture: its nodes and edges at their positions.
use Rattle.std.specs.Prelude.{◌≡◌, ◌<◌, ◌⊎◌, ℕ, List, [], ◌∷◌, ◌++◌, map, Any, Contains, Option, Some, None, Result, Ok, Err, ⊤}
use Rattle.std.specs.BTreeMap.{BTreeMap, get}
use Rattle.genealogy_svg.specs.declared.model.Picture.{Picture}
use Rattle.genealogy_svg.specs.declared.model.PictureEdge.{PictureEdge}
use Rattle.genealogy_svg.specs.declared.model.PictureLot.{PictureLot}
use Rattle.genealogy_svg.specs.Layers.{AreSettled, IsLayered}
use Rattle.genealogy_svg.specs.Positions.{ArePositioned}
use Rattle.genealogy_svg.specs.Rows.{HasAmounts}
use Rattle.genealogy_svg.specs.United.{◌>>=◌}
use Rattle.genealogy_svg.specs.declared.drawing.Drawing.{Drawing}
use Rattle.genealogy_svg.specs.declared.drawing.DrawnBatch.{DrawnBatch}
use Rattle.genealogy_svg.specs.declared.drawing.DrawnEdge.{DrawnEdge}
use Rattle.genealogy_svg.specs.declared.drawing.DrawnLot.{DrawnLot}
use Rattle.genealogy_svg.specs.declared.drawing.LayoutFault.{LayoutFault}
use Rattle.genealogy_svg.specs.declared.drawing.LayoutFault.TheVariants as fault
use Rattle.genealogy_svg.specs.declared.drawing.BoxPosition.{BoxPosition}
use Rattle.plant_trace.specs.{node_cmp, Node}
use Rattle.plant_trace.specs.declared.node.Node.TheVariants.{Lot, Batch}

-- the nodes of a picture, lots before batches
abbrev pub nodes_of : Picture → List Node
nodes_of p = map (λ lot. Lot lot.id) p.lots ++ map Batch p.batches

abbrev pub placed : Node → Option BoxPosition → Result BoxPosition LayoutFault
placed node None = Err (fault.Lost node)
placed node (Some position) = Ok position

-- the position of a node
abbrev pub position_at : BTreeMap Node BoxPosition → Node → Result BoxPosition LayoutFault
position_at positions node = placed node (get node_cmp positions node)

-- why the drawing of a picture isn't made: a node has none of these positions, or memory was refused
abbrev pub IsUnpositioned : BTreeMap Node BoxPosition → LayoutFault → Type 0
IsUnpositioned positions fault.Circle = ⊥
IsUnpositioned positions (fault.Lost node) = get node_cmp positions node ≡ None
IsUnpositioned positions fault.Memory = ⊤

-- a node that is reported as lost is none of these
abbrev pub IsOutside : List Node → LayoutFault → Type 0
IsOutside nodes fault.Circle = ⊤
IsOutside nodes (fault.Lost node) = ¬ Contains nodes node
IsOutside nodes fault.Memory = ⊤

-- an edge begins or ends at the node
abbrev pub IsEndOf : List PictureEdge → Node → Type 0
IsEndOf edges node = Any (λ e. (e.from ≡ node) ⊎ (e.to ≡ node)) edges

-- an edge begins or ends at a node that is reported as lost
abbrev pub IsLostEnd : List PictureEdge → LayoutFault → Type 0
IsLostEnd edges fault.Circle = ⊤
IsLostEnd edges (fault.Lost node) = IsEndOf edges node
IsLostEnd edges fault.Memory = ⊤

-- the fault is this one's; nothing is said where memory was refused
abbrev pub IsErrorOf : {A : Type 0} → Result A LayoutFault → LayoutFault → Type 0
IsErrorOf r fault.Circle = r ≡ Err fault.Circle
IsErrorOf r (fault.Lost node) = r ≡ Err (fault.Lost node)
IsErrorOf r fault.Memory = ⊤

-- ---- lots, batches and edges at their positions, after these

abbrev pub lots_in : BTreeMap Node BoxPosition → List DrawnLot → List PictureLot → Result (List DrawnLot) LayoutFault
lots_in positions done [] = Ok done
lots_in positions done (lot ∷ more) = position_at positions (Lot lot.id) >>= (λ position. lots_in positions (done ++ record { lot = lot; position = position } ∷ []) more)

abbrev pub batches_in : BTreeMap Node BoxPosition → List DrawnBatch → List (List ℕ) → Result (List DrawnBatch) LayoutFault
batches_in positions done [] = Ok done
batches_in positions done (batch ∷ more) = position_at positions (Batch batch) >>= (λ position. batches_in positions (done ++ record { batch = batch; position = position } ∷ []) more)

abbrev pub drawn_edges_in : BTreeMap Node BoxPosition → List DrawnEdge → List PictureEdge → Result (List DrawnEdge) LayoutFault
drawn_edges_in positions done [] = Ok done
drawn_edges_in positions done (e ∷ more) =
    position_at positions e.from >>= (λ from.
    position_at positions e.to >>= (λ to.
    drawn_edges_in positions (done ++ record { from = from; to = to; amount = e.amount; unit = e.unit; row = None } ∷ []) more))

-- the picture, with its nodes at these positions, and without its amounts
abbrev pub drawing_in : BTreeMap Node BoxPosition → Picture → Result Drawing LayoutFault
drawing_in positions p =
    lots_in positions [] p.lots >>= (λ lots.
    batches_in positions [] p.batches >>= (λ batches.
    drawn_edges_in positions [] p.edges >>= (λ edges.
    Ok (record { lots = lots; batches = batches; edges = edges }))))

-- the edge ends in a column to the right of that in which it begins
abbrev pub LeadsRight : DrawnEdge → Type 0
LeadsRight e = e.from.layer < e.to.layer

-- ---- the layout

-- the nodes are in layers, and each at a position of its own there; the drawing is the picture with these positions and with
-- its amounts, each in a row of its own, where it is small enough
pub record IsLaidOut (picture : Picture) (drawing : Drawing) : Type 0 where
  pub layers : BTreeMap Node ℕ
  pub positions : BTreeMap Node BoxPosition
  pub layered : (v : Node) → Contains (nodes_of picture) v → IsLayered layers v
  pub settled : AreSettled picture.edges layers
  pub placed : ArePositioned layers (nodes_of picture) positions
  pub bare : Drawing
  pub drawn : drawing_in positions picture ≡ Ok bare
  pub amounts : HasAmounts picture bare drawing
