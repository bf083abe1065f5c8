use Rattle.std.proofs.Common.{Bool, sym, subst, ◌∙◌}
use Rattle.sqlite.specs.Held.{state}
use Rattle.plant_base.specs.{newest_schema}
use Rattle.plant_keeper.specs.{Asks}
use Rattle.plant_desk_store.specs.{Represents}
use Rattle.plant_desk_store.proofs.laws.ask_with_outcome.Goals as goal

pub returns-clause-reported : goal.returns-clause-reported
returns-clause-reported g c =
    let old = state g.S.Store c.args.desk.now.connection in
    let did = c.ask.ensures in
    let new = state g.S.Store c.ask.new.self.connection in
    let is_live = c.requires in
    record {
      honest = did.same.honest;
      asks = λ clean s represented. subst (λ (b : Bool). Asks newest_schema s (Represents new b) c.args.question.now c.ask.result) (did.open ∙ is_live) (did.asks clean is_live s (subst (λ (b : Bool). Represents old b s) (sym is_live) represented));
    }
