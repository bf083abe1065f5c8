use Rattle.desk_program.proofs.ReadKeepsState.{asked_stays, asked_answer}
use Rattle.desk_program.proofs.answered.write_answer.Goals as goal

pub returns-clause-stays : goal.returns-clause-stays
returns-clause-stays g c = λ h s represents. asked_stays _ s (g.K.Keeper.represents c.ask.new.self) _ c.ask.result (c.ask.ensures.asks h c.requires s represents)

pub returns-clause-reported : goal.returns-clause-reported
returns-clause-reported g c = λ h s represents.
    (c.ask.result, asked_answer _ s (g.K.Keeper.represents c.ask.new.self) _ c.ask.result (c.ask.ensures.asks h c.requires s represents), c.print_asked.ensures)
