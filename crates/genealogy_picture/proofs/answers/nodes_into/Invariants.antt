use Rattle.std.proofs.Common.{◌≡◌, ◌+◌, drop}
use Rattle.serde_json.specs.View.{items_view}
use Rattle.genealogy_picture.specs.{nodes_into}
use Rattle.genealogy_picture.proofs.answers.nodes_into.Given as goal

abbrev pub invariant-loop-index : goal.invariant-loop-index
invariant-loop-index l = nodes_into l.fn.gathered 1 (items_view l.values) ≡ nodes_into l.gathered (l.index + 1) (items_view (drop l.index l.values))
