use Rattle.std.proofs.Common.{inl, refl}
use Rattle.sql_queries.proofs.OpenedFileOrder.{file_opened}
use Rattle.sql_queries.proofs.opening.open_file.Goals as goal

pub returns-in-Ok-clause-newly : goal.returns-in-Ok-clause-newly
returns-in-Ok-clause-newly g c =
    rw c.set_clock.ensures (λ clean. file_opened c.in-Ok.connection _ (λ _. inl refl) (c.in-Ok.ensures.opened clean) (c.in-Ok.ensures.found clean).reads)
