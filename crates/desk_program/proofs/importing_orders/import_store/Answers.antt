use Rattle.std.proofs.Common.{inl, inr, refl}
use Rattle.desk_program.proofs.AdoptedState.{adopted_so, foreign_at}
use Rattle.desk_program.proofs.importing_orders.import_store.Goals as goal

pub returns-in-Ok-clause-gives : goal.returns-in-Ok-clause-gives
returns-in-Ok-clause-gives g c = inl (λ clean opened.
    let was = c.in-Ok.ensures.adopted (c.import_into.ensures.honest clean) opened in
    (adopted_so _ opened _ _ (λ s at. c.import_into.ensures.taken clean s at) was.0, c.import_into.ensures.others clean _ (foreign_at _ _ _ opened was)))

pub returns-in-Ok-clause-honest : goal.returns-in-Ok-clause-honest
returns-in-Ok-clause-honest g c = λ clean. c.in-Ok.ensures.honest (c.import_into.ensures.honest clean)

pub returns-in-Err-clause-gives : goal.returns-in-Err-clause-gives
returns-in-Err-clause-gives g c =
    inr ((c.in-Err.stopped.fault, c.performed_of.ensures.outcome, rw c.performed_of.ensures.store c.in-Err.ensures.refused), refl)

pub returns-in-Err-clause-honest : goal.returns-in-Err-clause-honest
returns-in-Err-clause-honest g c = rw c.performed_of.ensures.store c.in-Err.ensures.honest
