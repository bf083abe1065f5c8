-- A node that is none of a picture.
use Rattle.std.proofs.Common.{◌≡◌, ℕ, List, Some, false, refl}
use Rattle.genealogy_svg.specs.{Picture}
use Rattle.plant_trace.specs.declared.node.Node.TheVariants.{Lot, Batch}
use Rattle.genealogy_picture.specs.{IsAbsent, has_batch, has_lot}
use Rattle.genealogy_picture.specs.declared.ending.DrawError.TheVariants as stop
use Rattle.genealogy_picture.specs.declared.ending.InputError.TheVariants as refusal

pub absent_lot : (p : Picture) (id : List ℕ) → has_lot p id ≡ false → IsAbsent p (Some (Lot id)) (stop.Refused refusal.Absent)
absent_lot p id h = (Lot id, refl, h, refl)

pub absent_batch : (p : Picture) (id : List ℕ) → has_batch p id ≡ false → IsAbsent p (Some (Batch id)) (stop.Refused refusal.Absent)
absent_batch p id h = (Batch id, refl, h, refl)
