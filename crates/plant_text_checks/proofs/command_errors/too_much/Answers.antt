use Rattle.std.proofs.Common.{◌∙◌, ap, sym, arith, not}
use Rattle.plant_text_checks.proofs.IndexesInLists.{index_first, index_met, index_passed, index_none_left}
use Rattle.plant_text_checks.proofs.command_errors.too_much.Goals as goal

pub loop-index-init : goal.loop-index-init
loop-index-init c = index_first _

pub returns-then-not-scales_within-clause-place : goal.returns-then-not-scales_within-clause-place
returns-then-not-scales_within-clause-place c =
    index_met _ c.args.lines.now c.loop-index.index c.index-lines-index.result c.loop-index-test.true c.index-lines-index.is (ap not c.if-not-scales_within.ensures) ∙ sym c.loop-index.invariant

pub loop-index-preserved : goal.loop-index-preserved
loop-index-preserved c =
    c.loop-index.invariant ∙ index_passed _ c.args.lines.now c.loop-index.index c.index-lines-index.result c.loop-index-test.true c.index-lines-index.is (ap not c.if-not-scales_within.ensures)

pub returns-clause-place : goal.returns-clause-place
returns-clause-place c = index_none_left _ c.args.lines.now c.loop-index.index (omega arith) ∙ sym c.loop-index.invariant
