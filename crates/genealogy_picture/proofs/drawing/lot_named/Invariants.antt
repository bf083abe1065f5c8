use Rattle.std.proofs.Common.{◌≡◌, false, take, bytes_eq}
use Rattle.std.specs.List.{list_any}
use Rattle.genealogy_svg.specs.{PictureLot}
use Rattle.genealogy_picture.proofs.drawing.lot_named.Given as goal

abbrev pub invariant-loop-lot : goal.invariant-loop-lot
invariant-loop-lot l = list_any (λ (lot : PictureLot). bytes_eq lot.id l.id) (take l.lot-index l.picture.lots) ≡ false
