use Rattle.std.proofs.Common.{Bool, sym, subst}
use Rattle.sqlite.specs.Held.{state}
use Rattle.plant_desk_store.specs.{Represents}
use Rattle.plant_desk_store.proofs.laws.execute_with_outcome.Goals as goal

pub returns : goal.returns
returns g c =
    let old = state g.S.Store c.args.desk.now.connection in
    let did = c.execute.ensures in
    let is_live = c.requires in
    record {
      honest = did.same.honest;
      executes = λ clean s represented. did.executes clean is_live s (subst (λ (b : Bool). Represents old b s) (sym is_live) represented);
      is_shut = did.open is_live;
      no_crash_state_added = did.no_crash_state_added;
      repeated = λ clean s represented. did.repeated clean is_live s (subst (λ (b : Bool). Represents old b s) (sym is_live) represented);
    }
