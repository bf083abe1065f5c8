use Rattle.std.proofs.Common.{inl, inr}
use Rattle.desk_program.proofs.AdoptedState.{adopted_so, foreign_at}
use Rattle.desk.proofs.working.serve_store.Goals as goal

pub returns-in-Ok-clause-gives : goal.returns-in-Ok-clause-gives
returns-in-Ok-clause-gives g c =
    let did = c.serve_desk.ensures in
    inl (
      did.served.0,
      did.served.1,
      did.served.2,
      did.served.3,
      (
        did.served.4.0,
        did.served.4.1,
        λ clean opened.
            let was = c.in-Ok.ensures.adopted (did.honest clean) opened in
            (adopted_so _ opened _ _ (λ s at. did.served.4.2 clean s at) was.0, did.others clean _ (foreign_at _ _ _ opened was)),
      ),
    )

pub returns-in-Ok-clause-honest : goal.returns-in-Ok-clause-honest
returns-in-Ok-clause-honest g c = λ clean. c.in-Ok.ensures.honest (c.serve_desk.ensures.honest clean)

pub returns-in-Err-clause-gives : goal.returns-in-Err-clause-gives
returns-in-Err-clause-gives g c =
    inr (c.in-Err.stopped.fault, c.performed_of.ensures.outcome, rw c.performed_of.ensures.store c.in-Err.ensures.refused)

pub returns-in-Err-clause-honest : goal.returns-in-Err-clause-honest
returns-in-Err-clause-honest g c = rw c.performed_of.ensures.store c.in-Err.ensures.honest
