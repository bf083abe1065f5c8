use Rattle.std.proofs.Common.{inl}
use Rattle.desk_program.proofs.AdoptedState.{adopted_so, as_represented, as_open, foreign_at}
use Rattle.desk_program.proofs.verification.verify.Goals as goal

pub returns-in-Ok-clause-valid : goal.returns-in-Ok-clause-valid
returns-in-Ok-clause-valid g c = λ h opened.
    let before = c.in_ok-desk.ensures.adopted (c.write_good.ensures.same.honest h) opened in (
      adopted_so _ opened _ _ (λ s at.
          let represented = as_represented _ _ s at in
          (as_open _ _ s c.write_good.ensures.open (c.write_good.ensures.stays h s represented), c.in-Ok.ensures.reported h s represented)) before.0,
      (c.write_good.ensures.same.foreign_tables h _ (foreign_at _ _ _ opened before)).others,
    )

pub returns-in-Ok-clause-honest : goal.returns-in-Ok-clause-honest
returns-in-Ok-clause-honest g c = λ h. c.in_ok-desk.ensures.honest (c.write_good.ensures.same.honest h)

pub returns-in-Err-clause-stopped : goal.returns-in-Err-clause-stopped
returns-in-Err-clause-stopped g c = rw c.close.ensures (inl (
  c.in-Err.ensures.fault,
  λ h opened.
      let before = c.in_ok-desk.ensures.adopted (c.write_good.ensures.same.honest h) opened in (
        adopted_so _ opened _ _ (λ s at.
            let represented = as_represented _ _ s at in
            (as_open _ _ s c.write_good.ensures.open (c.write_good.ensures.stays h s represented), c.in-Err.ensures.stopped h s represented)) before.0,
        (c.write_good.ensures.same.foreign_tables h _ (foreign_at _ _ _ opened before)).others,
      ),
))

pub returns-in-Err-clause-honest : goal.returns-in-Err-clause-honest
returns-in-Err-clause-honest g c = rw c.close.ensures (λ h. c.in_ok-desk.ensures.honest (c.write_good.ensures.same.honest h))
