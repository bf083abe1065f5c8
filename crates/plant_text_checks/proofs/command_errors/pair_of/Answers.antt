use Rattle.std.proofs.Common.{◌∙◌, ◌+◌, ap, sym, arith}
use Rattle.plant_text_checks.specs.{index_of}
use Rattle.plant_text_checks.proofs.IndexesInLists.{pair_first, pair_met, pair_passed, pair_none_left, rest_all}
use Rattle.plant_text_checks.proofs.command_errors.pair_of.Goals as goal

pub loop-index-init : goal.loop-index-init
loop-index-init g c = pair_first _

pub returns-in-Some-clause-pair : goal.returns-in-Some-clause-pair
returns-in-Some-clause-pair g c =
    pair_met g.T.Once.again c.args.items.now c.loop-index.index c.index-items-index.result c.in-Some.between c.loop-index-test.true c.index-items-index.is (c.in-Some.ensures.place ∙ ap (index_of (g.T.Once.again c.index-items-index.result)) (rest_all c.args.items.now (c.loop-index.index + 1))) ∙ sym c.loop-index.invariant

pub loop-index-preserved : goal.loop-index-preserved
loop-index-preserved g c =
    c.loop-index.invariant ∙ pair_passed g.T.Once.again c.args.items.now c.loop-index.index c.index-items-index.result c.loop-index-test.true c.index-items-index.is (c.in_default.ensures.place ∙ ap (index_of (g.T.Once.again c.index-items-index.result)) (rest_all c.args.items.now (c.loop-index.index + 1)))

pub returns-clause-pair : goal.returns-clause-pair
returns-clause-pair g c = pair_none_left g.T.Once.again c.args.items.now c.loop-index.index (omega arith) ∙ sym c.loop-index.invariant
