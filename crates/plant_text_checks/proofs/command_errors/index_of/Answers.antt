use Rattle.std.proofs.Common.{◌∙◌, sym, arith}
use Rattle.plant_text_checks.proofs.IndexesInLists.{index_first, index_met, index_passed, index_none_left}
use Rattle.plant_text_checks.proofs.command_errors.index_of.Goals as goal

pub loop-index-init : goal.loop-index-init
loop-index-init g c = index_first _

pub returns-then-is_again-clause-place : goal.returns-then-is_again-clause-place
returns-then-is_again-clause-place g c =
    index_met _ c.args.others.now c.loop-index.index c.index-others-index.result c.loop-index-test.true c.index-others-index.is c.if-is_again.ensures ∙ sym c.loop-index.invariant

pub loop-index-preserved : goal.loop-index-preserved
loop-index-preserved g c =
    c.loop-index.invariant ∙ index_passed _ c.args.others.now c.loop-index.index c.index-others-index.result c.loop-index-test.true c.index-others-index.is c.if-is_again.ensures

pub returns-clause-place : goal.returns-clause-place
returns-clause-place g c = index_none_left _ c.args.others.now c.loop-index.index (omega arith) ∙ sym c.loop-index.invariant
