use Rattle.std.proofs.Common.{◌≡◌, Bool, false, refl, sym, subst, rules}
use Rattle.sqlite.specs.Held.{state}
use Rattle.plant_desk_store.specs.{HasForeignTables, IsDurablyAt}
use Rattle.plant_desk_store.proofs.ForeignTablesKept.{executed_foreign_tables}
use Rattle.plant_desk_store.proofs.stored.DeskKeeper.execute.Goals as goal

pub returns-clause-same : goal.returns-clause-same
returns-clause-same g c =
    let old = state g.S.Store c.args.self.now.connection in
    let ran = c.execute_on-answer in
    let new = state g.S.Store ran.new.connection in
    let is_live : c.args.self.now.is_shut ≡ false = search rules in
    record {
      honest = ran.ensures.clean;
      schema = λ clean. refl;
      foreign_tables = λ clean before represented.
          let at : IsDurablyAt old represented.state = record { represents = represented.represents.0; crash_states = represented.represents.1 is_live } in
          subst (λ (shut : Bool). HasForeignTables new shut before) (sym c.is_store_fault-self.ensures)
          (executed_foreign_tables before new represented.state c.args.envelope.now ran.result (ran.ensures.executed clean represented.state at) (ran.ensures.others clean represented.state at before represented.others));
    }

pub returns-clause-repeated : goal.returns-clause-repeated
returns-clause-repeated g c clean is_live s represented again = c.execute_on-answer.ensures.repeated clean s represented.0 again
