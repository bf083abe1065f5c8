use Rattle.desk_program.proofs.importing_orders.take_orders.Goals as goal

pub returns-in-Ok-clause-taken : goal.returns-in-Ok-clause-taken
returns-in-Ok-clause-taken g c = λ h s represents.
    let ends = c.take_command.ensures.ends h s represents in
    let made = c.import.ensures in
    rw c.in-Ok.is (c.take_command.result, rw made at ends, c.outcome_of_turn.ensures)
