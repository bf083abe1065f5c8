use Rattle.std.proofs.Common.{◌≤◌, length, arith}
use Rattle.plant_text.specs.{longest_line}
use Rattle.plant_text.proofs.LineMeaning.{at_value, at_refusal, too_long}
use Rattle.plant_text.proofs.read.value_of.Goals as goal

pub returns-then-bytes-gt-LONGEST_LINE-clause-problem : goal.returns-then-bytes-gt-LONGEST_LINE-clause-problem
returns-then-bytes-gt-LONGEST_LINE-clause-problem c = too_long c.args.bytes.now (omega arith)

pub returns-in-Ok-clause-value : goal.returns-in-Ok-clause-value
returns-in-Ok-clause-value c =
    let short : length c.args.bytes.now ≤ longest_line = omega arith in
    at_value c.args.bytes.now _ short c.in-Ok.ensures.ok.0 c.in-Ok.ensures.ok.1

pub returns-then-is_refusal-clause-problem : goal.returns-then-is_refusal-clause-problem
returns-then-is_refusal-clause-problem c =
    let short : length c.args.bytes.now ≤ longest_line = omega arith in
    at_refusal c.args.bytes.now short (c.in-Err.ensures.err (c.is_refusal.ensures.refusal c.if-is_refusal.true))
