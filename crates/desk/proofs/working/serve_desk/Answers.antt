use Rattle.desk_program.proofs.AdoptedState.{as_represented}
use Rattle.desk.proofs.working.serve_desk.Goals as goal

pub returns-clause-served : goal.returns-clause-served
returns-clause-served g c =
    let did = c.serve_at-served in
    let serves = did.ensures.serves in
    rw c.close.ensures (
      serves.0,
      serves.1,
      did.result,
      c.outcome_of.ensures,
      (
        did.new.desk.is_shut,
        did.ensures.ends,
        λ clean s at.
            serves.2 clean s (as_represented _ _ s at),
      ),
    )

pub returns-clause-honest : goal.returns-clause-honest
returns-clause-honest g c = rw c.close.ensures c.serve_at-served.ensures.honest

pub returns-clause-others : goal.returns-clause-others
returns-clause-others g c = rw c.close.ensures (λ clean before at. (c.serve_at-served.ensures.same.foreign_tables clean before at).others)
