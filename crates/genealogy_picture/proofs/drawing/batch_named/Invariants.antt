use Rattle.std.proofs.Common.{◌≡◌, ℕ, List, false, take, bytes_eq}
use Rattle.std.specs.List.{list_any}
use Rattle.genealogy_picture.proofs.drawing.batch_named.Given as goal

abbrev pub invariant-loop-batch : goal.invariant-loop-batch
invariant-loop-batch l = list_any (λ (batch : List ℕ). bytes_eq batch l.id) (take l.batch-index l.picture.batches) ≡ false
