use Rattle.std.proofs.Common.{◌≡◌, ◌<◌, length, Ok, sym, ap, ◌∙◌, arith}
use Rattle.std.proofs.lemmas.Bool.Decides.{nat_tests}
use Rattle.line_check.proofs.VerdictOfLine.{verdict_empty, verdict_said}
use Rattle.line_check.proofs.judge.judge.Goals as goal

pub returns-then-is_empty-clause-verdict : goal.returns-then-is_empty-clause-verdict
returns-then-is_empty-clause-verdict c =
    let empty : length c.args.line.now ≡ 0 = grind (arith, nat_tests) in
    sym (verdict_empty c.args.line.now empty)

pub returns-in-Ok-Command-clause-verdict : goal.returns-in-Ok-Command-clause-verdict
returns-in-Ok-Command-clause-verdict c =
    let some : 0 < length c.args.line.now = grind (arith, nat_tests) in
    c.judge_command.ensures ∙ sym (verdict_said c.args.line.now _ some (c.in-Ok-Command.ensures.reads ∙ ap Ok c.in-Ok-Command.field-0-is))

pub returns-in-Ok-Question-clause-verdict : goal.returns-in-Ok-Question-clause-verdict
returns-in-Ok-Question-clause-verdict c =
    let some : 0 < length c.args.line.now = grind (arith, nat_tests) in
    sym (verdict_said c.args.line.now _ some (c.in-Ok-Question.ensures.reads ∙ ap Ok c.in-Ok-Question.field-0-is))

pub returns-in-Ok-Check-clause-verdict : goal.returns-in-Ok-Check-clause-verdict
returns-in-Ok-Check-clause-verdict c =
    let some : 0 < length c.args.line.now = grind (arith, nat_tests) in
    sym (verdict_said c.args.line.now _ some (c.in-Ok-Check.ensures.reads ∙ ap Ok c.in-Ok-Check.field-0-is))

pub returns-in-Err-Reported-clause-verdict : goal.returns-in-Err-Reported-clause-verdict
returns-in-Err-Reported-clause-verdict c =
    let some : 0 < length c.args.line.now = grind (arith, nat_tests) in
    sym (verdict_said c.args.line.now _ some (rw c.in-Err-Reported.field-0-is at c.in-Err-Reported.ensures.reads))
