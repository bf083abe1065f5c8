use Rattle.std.proofs.Common.{◌≡◌, ◌<◌, length, Err, None, Some, ap, ◌∙◌, arith}
use Rattle.std.proofs.lemmas.Bool.Decides.{nat_tests}
use Rattle.plant_questions.specs.declared.reply.DeskFault.TheVariants.{Memory}
use Rattle.plant_text.specs.declared.read.Line.TheVariants as L
use Rattle.plant_text.specs.{line_of, entry_of}
use Rattle.plant_text.proofs.TurnEnds.{nothing_ends, bad_ends, stops_by_fault, entry_empty, entry_read}
use Rattle.plant_text.proofs.turns.take_line.Goals as goal

pub returns-then-is_empty-clause-ends : goal.returns-then-is_empty-clause-ends
returns-then-is_empty-clause-ends g c = λ honest s represented.
    let keeper = g.K.Keeper in
    let same = c.args.keeper.now in
    let empty : length c.args.line.now ≡ 0 = grind (arith, nat_tests) in
    rw (entry_empty c.args.line.now empty) (nothing_ends (keeper.schema same) s _ (keeper.represents same) (keeper.shut same) (keeper.crash_states same) represented)

pub returns-in-Ok-Command-clause-ends : goal.returns-in-Ok-Command-clause-ends
returns-in-Ok-Command-clause-ends g c = λ honest s represented.
    let some : 0 < length c.args.line.now = grind (arith, nat_tests) in
    let says : line_of c.args.line.now ≡ Some (L.Command c.in-Ok-Command.envelope) = c.in-Ok-Command.ensures.ok ∙ ap Some c.in-Ok-Command.field-0-is in
    rw (entry_read c.args.line.now _ some says) (c.take_command.ensures.ends honest s represented)

pub returns-in-Ok-Question-clause-ends : goal.returns-in-Ok-Question-clause-ends
returns-in-Ok-Question-clause-ends g c = λ honest s represented.
    let some : 0 < length c.args.line.now = grind (arith, nat_tests) in
    let says : line_of c.args.line.now ≡ Some (L.Question c.in-Ok-Question.question) = c.in-Ok-Question.ensures.ok ∙ ap Some c.in-Ok-Question.field-0-is in
    rw (entry_read c.args.line.now _ some says) (c.take_question.ensures.ends honest s represented)

pub returns-in-Ok-Check-clause-ends : goal.returns-in-Ok-Check-clause-ends
returns-in-Ok-Check-clause-ends g c = λ honest s represented.
    let some : 0 < length c.args.line.now = grind (arith, nat_tests) in
    let says : line_of c.args.line.now ≡ Some (L.Check c.in-Ok-Check.to_check) = c.in-Ok-Check.ensures.ok ∙ ap Some c.in-Ok-Check.field-0-is in
    rw (entry_read c.args.line.now _ some says) (c.take_check.ensures.ends honest s represented)

pub returns-in-Err-BadForm-clause-ends : goal.returns-in-Err-BadForm-clause-ends
returns-in-Err-BadForm-clause-ends g c = λ honest s represented.
    let keeper = g.K.Keeper in
    let same = c.args.keeper.now in
    let some : 0 < length c.args.line.now = grind (arith, nat_tests) in
    let says : line_of c.args.line.now ≡ None = c.in-Err-BadForm.ensures.bad_form (ap Err c.in-Err-BadForm.field-0-is) in
    let reported = c.write_bad_form in
    rw (entry_read c.args.line.now _ some says)
    (bad_ends (keeper.schema same) s _ _ (keeper.represents same) (keeper.shut same) (keeper.crash_states same) reported.result reported.ensures represented c.requires)

pub returns-in-Err-Memory-clause-ends : goal.returns-in-Err-Memory-clause-ends
returns-in-Err-Memory-clause-ends g c = λ honest s represented.
    let keeper = g.K.Keeper in
    let same = c.args.keeper.now in
    stops_by_fault (keeper.schema same) s (entry_of c.args.line.now) _ _ (keeper.represents same) (keeper.shut same) (keeper.crash_states same) Memory _ c.write_fault.ensures (represented, c.requires)
