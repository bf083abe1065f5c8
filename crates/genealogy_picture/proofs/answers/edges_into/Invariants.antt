use Rattle.std.proofs.Common.{◌≡◌, ◌+◌, drop}
use Rattle.serde_json.specs.View.{items_view}
use Rattle.genealogy_picture.specs.{edges_into}
use Rattle.genealogy_picture.proofs.answers.edges_into.Given as goal

abbrev pub invariant-loop-index : goal.invariant-loop-index
invariant-loop-index l = edges_into l.fn.gathered 1 (items_view l.values) ≡ edges_into l.gathered (l.index + 1) (items_view (drop l.index l.values))
