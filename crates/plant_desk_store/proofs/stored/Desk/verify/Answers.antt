use Rattle.std.proofs.Common.{false, arith}
use Rattle.sqlite.specs.Held.{state}
use Rattle.sql_tables.proofs.TransactionEnds.{IsStore}
use Rattle.plant_desk_store.proofs.ReadKeepsState.{read_represents}
use Rattle.plant_desk_store.proofs.stored.Desk.verify.Goals as goal

pub returns-clause-verified : goal.returns-clause-verified
returns-clause-verified g c is_live =
    let old = state g.S.Store c.args.self.now.connection in
    let end = c.verify_on.new.connection in
    let new = state g.S.Store end in
    let did = c.verify_on.ensures in
    let store : IsStore new = record { settled = g.met.S.Store.settled end.store; stays = g.met.S.Store.stays end.store; something = g.met.S.Store.survives end.store } in
    record {
      honest = λ clean. omega (arith, did.reads.crash.clean, clean);
      is_live = did.unshut;
      tested = did.tested;
      unbroken = λ clean s represented. (did.unbroken clean s represented.0, read_represents old new false s did.reads store clean represented);
      crash = did.reads.crash;
    }
