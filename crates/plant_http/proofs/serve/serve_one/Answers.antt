use Rattle.std.proofs.Common.{Some, Err, ap, ◌∙◌}
use Rattle.plant_http.proofs.RequestOfInput.{serves_by_task, shut_by_task, serves_nothing, shut_nothing, fault_whole, fault_serves, fault_shut}
use Rattle.plant_http.proofs.serve.serve_one.Goals as goal

pub returns-in-Ok-None-clause-serves : goal.returns-in-Ok-None-clause-serves
returns-in-Ok-None-clause-serves g c =
    let (whole, agrees, asks) = rw c.in-Ok-None.field-0-is at c.in-Ok-None.ensures.asks in
    let keeper = g.K.Keeper in
    let same = c.args.keeper.now in (
      whole,
      agrees,
      λ honest is_live s represented. serves_nothing _ (keeper.schema same) s whole _ (keeper.represents same) (keeper.shut same) (keeper.crash_states same)
          (represented, g.met.K.Keeper.open_crash_state same s honest is_live represented) is_live asks,
      λ closed. shut_nothing _ whole _ asks,
    )

pub returns-in-Ok-Some-clause-serves : goal.returns-in-Ok-Some-clause-serves
returns-in-Ok-Some-clause-serves g c =
    let (whole, agrees, asks) = rw (c.in-Ok-Some.field-0-is ∙ ap Some c.in-Ok-Some.task-is) at c.in-Ok-Some.ensures.asks in
    let keeper = g.K.Keeper in
    let now = c.answer_task.new.keeper in (
      whole,
      agrees,
      λ honest is_live s represented. serves_by_task _ (keeper.schema c.args.keeper.now) s whole c.in-Ok-Some.task _ _ (keeper.represents now) (keeper.shut now) (keeper.crash_states now) c.answer_task.result
          asks (rw c.dated.ensures at (c.answer_task.ensures.answers honest is_live s represented)),
      λ closed. shut_by_task _ whole c.in-Ok-Some.task _ _ c.answer_task.result asks (rw c.dated.ensures at (c.answer_task.ensures.shut closed)),
    )

pub returns-in-Err-clause-serves : goal.returns-in-Err-clause-serves
returns-in-Err-clause-serves g c =
    let fault = c.in-Err.fault in
    let (whole, agrees, fits) = fault_whole _ _ fault (λ e. c.in-Err.ensures.endless (ap Err e)) in
    let keeper = g.K.Keeper in
    let same = c.args.keeper.now in (
      whole,
      agrees,
      λ honest is_live s represented. rw c.end_of.ensures (fault_serves _ (keeper.schema same) s whole _ (keeper.represents same) (keeper.shut same) (keeper.crash_states same) fault
          (represented, g.met.K.Keeper.open_crash_state same s honest is_live represented) is_live fits),
      λ closed. rw c.end_of.ensures (fault_shut _ whole _ fault fits),
    )
