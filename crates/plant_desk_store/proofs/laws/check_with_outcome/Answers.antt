use Rattle.std.proofs.Common.{Bool, sym, subst, ◌∙◌}
use Rattle.sqlite.specs.Held.{state}
use Rattle.plant_keeper.specs.{Checks}
use Rattle.plant_desk_store.specs.{Represents}
use Rattle.plant_desk_store.proofs.laws.check_with_outcome.Goals as goal

pub returns-clause-reported : goal.returns-clause-reported
returns-clause-reported g c =
    let old = state g.S.Store c.args.desk.now.connection in
    let did = c.check.ensures in
    let new = state g.S.Store c.check.new.self.connection in
    let is_live = c.requires in
    record {
      honest = did.same.honest;
      no_crash_state_added = did.no_crash_state_added;
      checks = λ clean s represented. subst (λ (b : Bool). Checks s (Represents new b) c.args.envelope.now c.check.result) (did.open ∙ is_live) (did.checks clean is_live s (subst (λ (b : Bool). Represents old b s) (sym is_live) represented));
    }
