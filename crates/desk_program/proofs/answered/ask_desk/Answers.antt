use Rattle.desk_program.proofs.answered.ask_desk.Goals as goal

pub returns-clause-others : goal.returns-clause-others
returns-clause-others g c = rw c.close.ensures (λ clean before at. (c.write_answer-outcome.ensures.same.foreign_tables clean before at).others)
