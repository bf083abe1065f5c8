use Rattle.std.proofs.Common.{false, refl}
use Rattle.sqlite.specs.Held.{state}
use Rattle.plant_desk_store.specs.{AdoptedFrom, Adopts, IsDurablyAt, KeepsForeignTables}
use Rattle.desk_program.proofs.AdoptedState.{adopted_so, as_represented, as_open, foreign_at, honest_before}
use Rattle.desk_program.proofs.FaultOrigins.{reported_write_error}
use Rattle.desk_program.proofs.adopting.adopt.Goals as goal

pub returns-in-Err-clause-refused : goal.returns-in-Err-clause-refused
returns-in-Err-clause-refused g c =
    (c.in-Err.refused.fault, c.task_error.ensures.fault, rw c.task_error.ensures.store c.in-Err.ensures.refused)

pub returns-in-Err-clause-honest : goal.returns-in-Err-clause-honest
returns-in-Err-clause-honest g c =
    let old = state g.S.Store c.args.connection in
    rw c.task_error.ensures.store (honest_before old (state g.S.Store c.in-Err.refused.connection) (Adopts old) c.in-Err.ensures.refused.crash)

pub returns-in-Err-clause-write_error : goal.returns-in-Err-clause-write_error
returns-in-Err-clause-write_error g c = reported_write_error c.in-Err.refused.fault _ c.task_error.ensures.fault

pub returns-in-Ok-clause-honest : goal.returns-in-Ok-clause-honest
returns-in-Ok-clause-honest g c = λ clean.
    let old = state g.S.Store c.args.connection in
    honest_before old (state g.S.Store c.in-Ok.desk.connection) (Adopts old) c.in-Ok.ensures.adopted.crash (c.with_indexes.ensures.honest clean)

pub returns-in-Ok-clause-adopted : goal.returns-in-Ok-clause-adopted
returns-in-Ok-clause-adopted g c clean newly =
    let old = state g.S.Store c.args.connection in
    let mid = state g.S.Store c.in-Ok.desk.connection in
    let new = state g.S.Store c.with_indexes.result.connection in
    let did = c.with_indexes.ensures in
    let was : AdoptedFrom old (IsDurablyAt mid) × KeepsForeignTables old.now mid = (c.in-Ok.ensures.adopted.adopted (did.honest clean) newly, c.in-Ok.ensures.adopted.others (did.honest clean) newly) in (
      adopted_so old newly (IsDurablyAt mid) (IsDurablyAt new) (λ s at. as_open new false s refl (did.represents clean s (as_represented mid false s at))) was.0,
      (did.others clean old.now (foreign_at old mid false newly was)).others,
    )
