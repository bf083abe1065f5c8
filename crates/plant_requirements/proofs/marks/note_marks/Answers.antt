use Rattle.std.proofs.Common.{◌≡◌, ◌∙◌, ◌+◌, ◌∷◌, [], ◌++◌, List, map, take, ap, sym, rules}
use Rattle.std.proofs.lemmas.List.{take_more, map-append}
use Rattle.std.specs.BTreeSet.{insert_key}
use Rattle.plant_base.specs.{mark_order, Mark}
use Rattle.plant_view.specs.{mark_on, put_all}
use Rattle.plant_view.proofs.MarkChanges.{mark_exact}
use Rattle.plant_requirements.proofs.SetsOfKeys.{put_last}
use Rattle.plant_requirements.proofs.marks.note_marks.Goals as goal

pub loop-node-preserved : goal.loop-node-preserved
loop-node-preserved c =
    let prefix = take c.loop-node.node-index c.args.nodes.now in
    let node = c.node-item.result in
    let was = c.args.all.now.keys in
    let mark = mark_on c.args.recall node in
    let more : take (c.loop-node.node-index + 1) c.args.nodes.now ≡ prefix ++ node ∷ [] = search (rules, take_more) in
    let mapped : map (mark_on c.args.recall) (take (c.loop-node.node-index + 1) c.args.nodes.now) ≡ map (mark_on c.args.recall) prefix ++ mark ∷ [] = ap (map (mark_on c.args.recall)) more ∙ map-append (mark_on c.args.recall) prefix (node ∷ []) in
    record {
      first = rw c.mark_on.ensures at c.in_ok-insert.ensures.keys
          ∙ ap (λ (rows : List Mark). insert_key mark_order rows mark) c.loop-node.invariant.first
          ∙ put_last mark_order mark_exact (map (mark_on c.args.recall) prefix) mark was
          ∙ ap (λ (ms : List Mark). put_all mark_order ms was) (sym mapped);
    }
