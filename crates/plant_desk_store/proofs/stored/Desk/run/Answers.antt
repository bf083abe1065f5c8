use Rattle.std.proofs.Common.{Bool, false, sym, subst}
use Rattle.sqlite.specs.Held.{state}
use Rattle.sqlite.specs.State.{HasCleanDisk}
use Rattle.plant_base.specs.{State}
use Rattle.plant_desk_store.specs.{Ran, Represents, HasCrashStates, HasForeignTables}
use Rattle.plant_desk_store.proofs.RunsPreserveInvariant.{accounted}
use Rattle.plant_desk_store.proofs.stored.Desk.run.Goals as goal

pub returns-clause-ran : goal.returns-clause-ran
returns-clause-ran g c is_live =
    let old = state g.S.Store c.args.self.now.connection in
    let desk = c.run_over.new.keeper in
    let new = state g.S.Store desk.connection in
    let ran : HasCleanDisk new → (s : State) → Represents old false s → Ran s c.args.list.now c.run_over.result.replies c.run_over.result.end (Represents new desk.is_shut) (HasCrashStates new) desk.is_shut = λ clean s represented. c.run_over.ensures.ran clean s (subst (λ (b : Bool). Represents old b s) (sym is_live) represented) in
    record {
      honest = c.run_over.ensures.same.honest;
      within = c.run_over.ensures.within;
      is_live = c.run_over.ensures.is_live;
      ran = ran;
      accounted = λ clean s represented. accounted new s c.args.list.now c.run_over.result.replies c.run_over.result.end desk.is_shut (ran clean s represented);
      others = λ clean before represented. c.run_over.ensures.same.foreign_tables clean before (subst (λ (b : Bool). HasForeignTables old b before) (sym is_live) represented);
    }
