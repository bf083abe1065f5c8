use Rattle.std.proofs.Common.{refl, Vec, Global}
use Rattle.std.proofs.lemmas.Result.{IfOk-weaker}
use Rattle.plant_trace.specs.declared.direction.Direction.TheVariants.{Forward}
use Rattle.plant_trace.specs.declared.node.Node.{Node}
use Rattle.plant_trace.proofs.IndexOfPairs.{listed_next}
use Rattle.plant_trace.proofs.indexed.IndexedEdges.succ.Goals as goal

pub returns : goal.returns
returns c = record {
  always = tt;
  before = λ h. h;
  same = λ h. refl;
  holds = λ h. IfOk-weaker _ _ _ (λ (nodes : Vec Node Global) l. listed_next Forward c.args.self.now.pairs.now c.args.self.now.after c.args.node nodes.items c.args.self.now.forward l) c.list_at.ensures;
}
