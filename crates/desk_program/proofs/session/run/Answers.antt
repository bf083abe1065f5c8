use Rattle.desk_program.proofs.AdoptedState.{adopted_so, as_represented, foreign_at}
use Rattle.desk_program.proofs.session.run.Goals as goal

pub returns-clause-ends : goal.returns-clause-ends
returns-clause-ends g c =
    let ran = c.run_lines-end.ensures.ends in
    let same = c.run_lines-end.ensures.same in (
      ran.0,
      ran.1,
      λ h opened.
          let was = c.in_ok-desk.ensures.adopted (same.honest h) opened in
          (adopted_so _ opened _ _ (λ s at. ran.2 h s (as_represented _ _ s at)) was.0, (same.foreign_tables h _ (foreign_at _ _ _ opened was)).others),
    )

pub returns-clause-honest : goal.returns-clause-honest
returns-clause-honest g c = λ h. c.in_ok-desk.ensures.honest (c.run_lines-end.ensures.same.honest h)
