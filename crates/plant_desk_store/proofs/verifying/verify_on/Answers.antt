use Rattle.std.proofs.Common.{◌≢◌, ◌∙◌, sym, subst}
use Rattle.std.proofs.lemmas.Result.{IfOk-weaker, IfErr-weaker}
use Rattle.sqlite.specs.Held.{state}
use Rattle.sqlite.specs.State.{HasCleanDisk, IsUnchanged}
use Rattle.plant_base.specs.{newest_schema}
use Rattle.sql_tables.specs.declared.fault.StoreFault.TheVariants as fault
use Rattle.plant_tables.specs.{AreLoaded}
use Rattle.plant_questions.specs.declared.reply.DeskFault.TheVariants.{Shut}
use Rattle.plant_check_laws.proofs.InvariantImpliesChecksPass.{read_valid}
use Rattle.plant_invariant_tables.proofs.TablesHaveValidValues.{newest_known}
use Rattle.plant_desk_store.proofs.FaultsOfCalls.{tested_rows, unshut}
use Rattle.plant_desk_store.proofs.verifying.verify_on.Goals as goal

pub returns : goal.returns
returns g c =
    let old = state g.S.Store c.args.connection.now in
    let new = state g.S.Store c.read.new.conn in
    let x = c.in_ok-loaded.loaded in
    let is = c.in_ok-loaded.ensures in
    let did = c.broken_rule in
    let loaded : HasCleanDisk new → AreLoaded newest_schema old.now x = λ clean. tested_rows (AreLoaded newest_schema old.now) c.read.result x is (c.read.ensures.rows clean) in
    record {
      reads = record { rests = c.read.ensures.mode; kept = c.read.ensures.kept; crash = c.read.ensures.crash };
      tested = λ clean. IfOk-weaker did.result _ _ (λ broken reported. (x, loaded clean, reported)) did.ensures.broken;
      unbroken = λ clean s represents.
          let same : IsUnchanged old new = tested_rows (λ _. IsUnchanged old new) c.read.result x is (c.read.ensures.same clean) in
          let holds = (represents.shows same.0.was_open).holds in
          let none = (read_valid newest_schema old.now s x newest_known represents.valid holds (loaded clean)).1 in
          IfOk-weaker did.result _ _ (λ broken reported. reported ∙ none) did.ensures.broken;
      unshut = IfErr-weaker did.result _ _ (λ f memory. subst (λ x. x ≢ Shut) (sym memory) (unshut fault.Memory)) did.ensures.memory;
    }
