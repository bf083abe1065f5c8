use Rattle.std.proofs.Common.{◌∙◌, sym}
use Rattle.genealogy_picture.proofs.LineMeaning.{at_value, at_refusal}
use Rattle.genealogy_picture.proofs.answers.line_into.Goals as goal

pub returns-in-Ok : goal.returns-in-Ok
returns-in-Ok c =
    rw (at_value c.args.gathered.now c.args.line.now _ (sym c.is_blank.ensures ∙ c.if-is_blank.false) c.in-Ok.ensures.ok.0 c.in-Ok.ensures.ok.1) c.answer_into.ensures

pub returns-then-is_refusal : goal.returns-then-is_refusal
returns-then-is_refusal c =
    at_refusal c.args.gathered.now c.args.line.now (sym c.is_blank.ensures ∙ c.if-is_blank.false) (c.in-Err.ensures.err (c.is_refusal.ensures.refusal c.if-is_refusal.true))
