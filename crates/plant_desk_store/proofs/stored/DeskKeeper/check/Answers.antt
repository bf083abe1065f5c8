use Rattle.std.proofs.Common.{refl, arith}
use Rattle.sqlite.specs.Held.{state}
use Rattle.sql_tables.proofs.TransactionEnds.{IsStore}
use Rattle.plant_desk_store.proofs.ReadKeepsState.{checked_stands, asked_foreign_tables}
use Rattle.plant_desk_store.proofs.stored.DeskKeeper.check.Goals as goal

pub returns-clause-same : goal.returns-clause-same
returns-clause-same g c =
    let old = state g.S.Store c.args.self.now.connection in
    let end = c.check_on.new.connection in
    let reads = c.check_on.ensures.reads in
    let laws : IsStore (state g.S.Store end) = record { settled = g.met.S.Store.settled end.store; stays = g.met.S.Store.stays end.store; something = g.met.S.Store.survives end.store } in
    record {
      honest = λ clean. omega (arith, reads.crash.clean, clean);
      schema = λ clean. refl;
      foreign_tables = λ clean before represented. asked_foreign_tables before old (state g.S.Store end) c.args.self.now.is_shut reads laws clean represented;
    }

pub returns-clause-checks : goal.returns-clause-checks
returns-clause-checks g c clean is_live s represented =
    let end = c.check_on.new.connection in
    let did = c.check_on.ensures in
    let laws : IsStore (state g.S.Store end) = record { settled = g.met.S.Store.settled end.store; stays = g.met.S.Store.stays end.store; something = g.met.S.Store.survives end.store } in
    checked_stands (state g.S.Store c.args.self.now.connection) (state g.S.Store end) c.args.self.now.is_shut s c.args.envelope.now c.check_on.result did laws clean represented
