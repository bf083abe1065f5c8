use Rattle.std.proofs.Common.{refl, Vec, Global}
use Rattle.std.proofs.lemmas.Result.{IfOk-weaker}
use Rattle.plant_trace.specs.declared.direction.Direction.TheVariants.{Back}
use Rattle.plant_trace.specs.declared.node.Node.{Node}
use Rattle.plant_trace.proofs.IndexOfPairs.{listed_next}
use Rattle.plant_trace.proofs.indexed.IndexedEdges.pred.Goals as goal

pub returns : goal.returns
returns c = record {
  always = tt;
  before = λ h. h;
  same = λ h. refl;
  holds = λ h. IfOk-weaker _ _ _ (λ (nodes : Vec Node Global) l. listed_next Back c.args.self.now.pairs.now c.args.self.now.before c.args.node nodes.items c.args.self.now.back l) c.list_at.ensures;
}
