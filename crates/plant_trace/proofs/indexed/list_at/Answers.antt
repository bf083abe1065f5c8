use Rattle.std.proofs.Common.{sym, subst, IsTrue}
use Rattle.std.proofs.lemmas.Result.{IfOk-weaker}
use Rattle.plant_trace.specs.{index_has, Lists}
use Rattle.plant_trace.proofs.IndexOfPairs.{listed_some, listed_none}
use Rattle.plant_trace.proofs.indexed.list_at.Goals as goal

pub returns-in-Some : goal.returns-in-Some
returns-in-Some c =
    let listed = listed_some c.args.index.now c.args.node c.in-Some.nodes.now (sym c.in-Some.ensures.value) c.list_of.ensures.ascending in
    IfOk-weaker _ _ _ (λ nodes e. subst (Lists (λ y. IsTrue (index_has c.args.index.now c.args.node y))) (sym e) listed) c.list_of.ensures.items

pub returns-in-None : goal.returns-in-None
returns-in-None c =
    subst (Lists (λ y. IsTrue (index_has c.args.index.now c.args.node y))) (sym c.new.ensures.items) (listed_none c.args.index.now c.args.node (sym c.in-None.ensures.value))
