use Rattle.std.proofs.Common.{◌∙◌, ℕ, Ok, subst}
use Rattle.plant_keeper.specs.{Asks}
use Rattle.plant_keeper.proofs.SameDesk.{same_after}
use Rattle.plant_questions.specs.declared.question.Question.TheVariants as Q
use Rattle.plant_http.proofs.ConditionPerforms.{answers_tell}
use Rattle.plant_http.proofs.perform.ask_position.Goals as goal

pub returns-clause-same : goal.returns-clause-same
returns-clause-same g c =
    same_after g.K.Keeper.honest g.K.Keeper.schema g.K.Keeper.foreign_tables c.args.keeper.now c.ask.new.self c.ask-2.new.self c.ask.ensures.same c.ask-2.ensures.same

pub returns-clause-tells : goal.returns-clause-tells
returns-clause-tells g c = λ honest is_live s represented.
    let keeper = g.K.Keeper in
    let was = c.args.keeper.now in
    let now = c.ask-2.new.self in
    let before = c.ask-2.ensures.same.honest honest in
    let first = c.in_ok-desk.ensures.asks before is_live s represented in
    let second = c.in_ok-moment.ensures.asks honest (c.ask.ensures.open ∙ is_live) s first.1 in
    rw c.position_in.ensures (answers_tell (keeper.schema was) s (keeper.represents now) c.in_ok-desk.desk c.in_ok-moment.moment first.0
    (subst (λ (n : ℕ). Asks n s (keeper.represents now) Q.Moment (Ok c.in_ok-moment.moment)) (c.ask.ensures.same.schema before) second))
