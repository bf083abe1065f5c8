use Rattle.std.proofs.Common.{refl}
use Rattle.desk_program.proofs.AdoptedState.{adopted_so}
use Rattle.desk_program.proofs.performing.perform_init.Goals as goal

pub returns-in-Ok-clause-gives : goal.returns-in-Ok-clause-gives
returns-in-Ok-clause-gives g c = rw c.close.ensures (
  refl,
  λ clean opened.
      let was = c.in-Ok.ensures.adopted clean opened in
      (adopted_so _ opened _ _ (λ s at. (at, c.in-Ok.ensures.ready clean opened)) was.0, was.1),
)

pub returns-in-Ok-clause-honest : goal.returns-in-Ok-clause-honest
returns-in-Ok-clause-honest g c = rw c.close.ensures c.in-Ok.ensures.honest

pub returns-in-Err-clause-gives : goal.returns-in-Err-clause-gives
returns-in-Err-clause-gives g c = rw (c.performed_of.ensures.outcome, c.performed_of.ensures.store) c.in-Err.ensures.stopped

pub returns-in-Err-clause-honest : goal.returns-in-Err-clause-honest
returns-in-Err-clause-honest g c = rw c.performed_of.ensures.store c.in-Err.ensures.honest
