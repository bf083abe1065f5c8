use Rattle.std.proofs.Common.{◌≡◌, true, false, nat_eq, sym, ◌∙◌, arith}
use Rattle.std.proofs.lemmas.Bool.Decides.{nat_tests}
use Rattle.std.proofs.lemmas.Result.{on_ok_weaker}
use Rattle.plant_text.specs.{entry_of}
use Rattle.plant_text.proofs.BufferSuffices.{held_after_lf, held_after_byte, each_lf, each_byte}
use Rattle.plant_text.proofs.RepliesConcatenate.{reported_same, memory_stops_at}
use Rattle.plant_text.proofs.run.take_byte.Goals as goal

pub returns-then-b-eq10-clause-held : goal.returns-then-b-eq10-clause-held
returns-then-b-eq10-clause-held g c =
    let lf : nat_eq c.args.b 10 ≡ true = grind (arith, nat_tests) in
    on_ok_weaker c.end_line.result (λ e. e ∙ sym (held_after_lf c.args.held.now.items c.args.b lf)) c.end_line.ensures.held

pub returns-then-b-eq10-clause-ends : goal.returns-then-b-eq10-clause-ends
returns-then-b-eq10-clause-ends g c = λ honest s represented.
    let lf : nat_eq c.args.b 10 ≡ true = grind (arith, nat_tests) in
    rw (each_lf entry_of c.args.held.now.items c.args.b lf) (c.end_line.ensures.ends honest s represented)

pub returns-in-Ok-clause-held : goal.returns-in-Ok-clause-held
returns-in-Ok-clause-held g c =
    let other : nat_eq c.args.b 10 ≡ false = grind (arith, nat_tests) in
    rw (held_after_byte c.args.held.now.items c.args.b other) c.in-Ok.ensures.held

pub returns-in-Ok-clause-ends : goal.returns-in-Ok-clause-ends
returns-in-Ok-clause-ends g c = λ honest s represented.
    let other : nat_eq c.args.b 10 ≡ false = grind (arith, nat_tests) in
    reported_same _ _ _ _ _ _ c.args.refused (each_byte entry_of c.args.held.now.items c.args.b other) c.in-Ok.ensures.same represented

pub returns-in-Err-clause-ends : goal.returns-in-Err-clause-ends
returns-in-Err-clause-ends g c = λ honest s represented e.
    let other : nat_eq c.args.b 10 ≡ false = grind (arith, nat_tests) in
    memory_stops_at _ _ _ e _ _ _ _ _ c.in-Err.stop (each_byte entry_of c.args.held.now.items c.args.b other) c.in-Err.ensures.stops represented c.requires
