use Rattle.std.proofs.Common.{◌∙◌, ap, Option, unwrap_or, BTreeSet}
use Rattle.plant_trace.specs.declared.node.Node.{Node}
use Rattle.plant_trace.proofs.IndexOfPairs.{linked}
use Rattle.plant_trace.proofs.indexed.link.Goals as goal

pub returns : goal.returns
returns c =
    let had = c.unwrap_or-nodes.ensures ∙ ap (λ (o : Option (BTreeSet Node)). unwrap_or o c.new.result) c.remove.ensures.value in
    linked c.args.index.now c.remove.new.self c.insert-2.new.self c.args.near c.args.far c.new.result c.unwrap_or-nodes.result c.insert.new.self c.new.ensures.empty had c.in_ok-insert.ensures.updates c.remove.ensures.updates c.in_ok-insert-2.ensures.updates
