use Rattle.desk_program.proofs.ReadKeepsState.{asked_stays, asked_summary}
use Rattle.desk_program.proofs.summary.ask_summary.Goals as goal

pub returns-clause-stays : goal.returns-clause-stays
returns-clause-stays g c = λ h s represents. asked_stays _ s (g.K.Keeper.represents c.ask.new.self) _ c.ask.result (c.ask.ensures.asks h c.requires s represents)

pub returns-clause-asked : goal.returns-clause-asked
returns-clause-asked g c = λ h s represents.
    asked_summary _ s (g.K.Keeper.represents c.ask.new.self) c.ask.result c.summary_of.result (c.ask.ensures.asks h c.requires s represents) c.summary_of.ensures.is
