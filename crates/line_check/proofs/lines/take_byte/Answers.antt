use Rattle.std.proofs.Common.{◌≡◌, true, false, nat_eq, refl, sym, ◌∙◌, arith}
use Rattle.std.proofs.lemmas.Bool.Decides.{nat_tests}
use Rattle.std.proofs.lemmas.Result.{on_ok_weaker}
use Rattle.plant_text.proofs.BufferSuffices.{held_after_lf, held_after_byte, each_lf, each_byte}
use Rattle.line_check.specs.{verdict_of}
use Rattle.line_check.proofs.ReportedLines.{reported_same}
use Rattle.line_check.proofs.lines.take_byte.Goals as goal

pub returns-then-b-eq10-clause-held : goal.returns-then-b-eq10-clause-held
returns-then-b-eq10-clause-held g c =
    let lf : nat_eq c.args.b 10 ≡ true = grind (arith, nat_tests) in
    on_ok_weaker c.end_line.result (λ e. e ∙ sym (held_after_lf c.args.held.now.items c.args.b lf)) c.end_line.ensures.held

pub returns-then-b-eq10-clause-reported : goal.returns-then-b-eq10-clause-reported
returns-then-b-eq10-clause-reported g c =
    let lf : nat_eq c.args.b 10 ≡ true = grind (arith, nat_tests) in
    rw (each_lf verdict_of c.args.held.now.items c.args.b lf) c.end_line.ensures.reported

pub returns-in-Ok-clause-held : goal.returns-in-Ok-clause-held
returns-in-Ok-clause-held g c =
    let other : nat_eq c.args.b 10 ≡ false = grind (arith, nat_tests) in
    rw (held_after_byte c.args.held.now.items c.args.b other) c.in-Ok.ensures.held

pub returns-in-Ok-clause-reported : goal.returns-in-Ok-clause-reported
returns-in-Ok-clause-reported g c =
    let other : nat_eq c.args.b 10 ≡ false = grind (arith, nat_tests) in
    reported_same _ _ _ _ (each_byte verdict_of c.args.held.now.items c.args.b other) refl

pub returns-then-b-eq10-clause-early : goal.returns-then-b-eq10-clause-early
returns-then-b-eq10-clause-early g c =
    let lf : nat_eq c.args.b 10 ≡ true = grind (arith, nat_tests) in
    rw (each_lf verdict_of c.args.held.now.items c.args.b lf) c.end_line.ensures.early
