-- What is reported, one after the other.
use Rattle.std.specs.Prelude.{ℕ, List, [], ◌∷◌, ◌++◌}
use Rattle.genealogy_svg.specs.{PictureLot, ReportedEdge}
use Rattle.genealogy_svg.specs.declared.reported.Reported.{Reported}
use Rattle.genealogy_picture.specs.declared.members.ReportedNode.{ReportedNode}
use Rattle.genealogy_picture.specs.declared.members.ReportedNode.TheVariants as node

abbrev pub nothing : Reported
nothing = record { lots = []; batches = []; edges = [] }

abbrev pub with_lot : Reported → PictureLot → Reported
with_lot reported lot = record { lots = reported.lots ++ lot ∷ []; batches = reported.batches; edges = reported.edges }

abbrev pub with_batch : Reported → List ℕ → Reported
with_batch reported batch = record { lots = reported.lots; batches = reported.batches ++ batch ∷ []; edges = reported.edges }

abbrev pub with_node : Reported → ReportedNode → Reported
with_node t (node.Lot lot) = with_lot t lot
with_node t (node.Batch batch) = with_batch t batch

abbrev pub with_edge : Reported → ReportedEdge → Reported
with_edge reported edge = record { lots = reported.lots; batches = reported.batches; edges = reported.edges ++ edge ∷ [] }
