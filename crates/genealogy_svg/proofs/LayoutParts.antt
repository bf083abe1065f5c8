-- A layout, of its parts.
use Rattle.std.proofs.Common.{◌≡◌, ℕ, List, Ok, subst, sym, Contains, IsSome, All, BTreeMap}
use Rattle.std.proofs.lemmas.Bool.{false≢true}
use Rattle.std.proofs.lemmas.List.Elements.{All-contains}
use Rattle.genealogy_svg.specs.{Picture, PictureEdge}
use Rattle.plant_trace.specs.{Node}
use Rattle.genealogy_svg.specs.declared.drawing.Drawing.{Drawing}
use Rattle.genealogy_svg.specs.declared.drawing.BoxPosition.{BoxPosition}
use Rattle.genealogy_svg.specs.declared.drawing.LayoutFault.{LayoutFault}
use Rattle.genealogy_svg.specs.declared.drawing.LayoutFault.TheVariants as fault
use Rattle.genealogy_svg.specs.{nodes_of, drawing_in, IsLaidOut, IsOutside, IsUnpositioned, AreSettled, IsLayered, ArePositioned, HasAmounts}

pub laid_out : (p : Picture) (bare d : Drawing) (layers : BTreeMap Node ℕ) (positions : BTreeMap Node BoxPosition) (nodes named : List Node) (edges : List PictureEdge)
    → nodes ≡ nodes_of p → named ≡ nodes_of p → edges ≡ p.edges → All (IsLayered layers) nodes → AreSettled edges layers → ArePositioned layers named positions
    → drawing_in positions p ≡ Ok bare → HasAmounts p bare d → IsLaidOut p d
laid_out p bare d layers positions nodes named edges is same of all settled placed drawn amounts = record {
  layers = layers;
  positions = positions;
  layered = λ v h. let every : All (IsLayered layers) (nodes_of p) = subst (All (IsLayered layers)) is all in All-contains (IsLayered layers) (nodes_of p) v every h;
  settled = let P : List PictureEdge → Type 0 = λ es. AreSettled es layers in subst P of settled;
  placed = let P : List Node → Type 0 = λ ns. ArePositioned layers ns positions in subst P same placed;
  bare = bare;
  drawn = drawn;
  amounts = amounts;
}

-- a node that has no position is none of these
pub outside : (layers : BTreeMap Node ℕ) (positions : BTreeMap Node BoxPosition) (nodes named : List Node) (f : LayoutFault) → named ≡ nodes
    → ArePositioned layers named positions → IsUnpositioned positions f → IsOutside nodes f
outside layers positions nodes named fault.Circle same placed none = tt
outside layers positions nodes named (fault.Lost node) same placed none =
    λ h. false≢true (subst IsSome none (placed.each node (subst (λ ns. Contains ns node) (sym same) h)))
outside layers positions nodes named fault.Memory same placed none = tt
