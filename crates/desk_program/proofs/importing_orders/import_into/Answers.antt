use Rattle.desk_program.proofs.AdoptedState.{as_represented}
use Rattle.desk_program.proofs.importing_orders.import_into.Goals as goal

pub returns-clause-taken : goal.returns-clause-taken
returns-clause-taken g c = rw c.close.ensures (λ clean s at.
    (c.take_file-outcome.new.keeper.is_shut, c.take_file-outcome.ensures.ends clean s (as_represented _ _ s at)))

pub returns-clause-others : goal.returns-clause-others
returns-clause-others g c = rw c.close.ensures (λ clean before at. (c.take_file-outcome.ensures.same.foreign_tables clean before at).others)
