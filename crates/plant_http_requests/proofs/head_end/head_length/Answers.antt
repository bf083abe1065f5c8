use Rattle.std.proofs.Common.{◌∙◌, sym, arith, rules}
use Rattle.plant_http_requests.proofs.HeadEnds.{found_here, found_later, found_nowhere}
use Rattle.plant_http_requests.proofs.head_end.head_length.Goals as goal

pub returns-in-Some-clause-value : goal.returns-in-Some-clause-value
returns-in-Some-clause-value c = sym (c.loop-at.invariant ∙ found_here c.args.bytes.now c.loop-at.at c.in-Some.n c.loop-at-test.true (search rules))

pub loop-at-preserved : goal.loop-at-preserved
loop-at-preserved c = c.loop-at.invariant ∙ found_later c.args.bytes.now c.loop-at.at c.loop-at-test.true (search rules)

pub returns-clause-value : goal.returns-clause-value
returns-clause-value c = sym (c.loop-at.invariant ∙ found_nowhere c.args.bytes.now c.loop-at.at (omega arith))
