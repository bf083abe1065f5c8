use Rattle.desk_program.proofs.performing.perform.Goals as goal

pub returns : goal.returns
returns g c =
    let performed = c.perform_task-performed in
    (performed.result.outcome, c.write_outcome.ensures, (performed.result.connection, performed.ensures.gives))
