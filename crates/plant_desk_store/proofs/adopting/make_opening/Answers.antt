use Rattle.std.proofs.Common.{refl, rules}
use Rattle.sqlite.specs.Held.{state}
use Rattle.plant_base.specs.{opening}
use Rattle.plant_invariant.proofs.StepPreservesInvariant.{opening_is_valid}
use Rattle.sql_tables.proofs.TransactionEnds.{IsStore}
use Rattle.plant_tables.specs.{opening_tables}
use Rattle.plant_desk_store.proofs.CheckedStore.{unopened_keeps}
use Rattle.plant_desk_store.proofs.ForeignTablesKept.{others_at}
use Rattle.plant_desk_store.proofs.ReadingKeepsState.{open_at}
use Rattle.plant_desk_store.proofs.adopting.make_opening.Goals as goal

pub returns-in-Ok : goal.returns-in-Ok
returns-in-Ok g c =
    let old = state g.S.Store c.args.connection.now in
    let end = c.commit_opening.new.conn in
    let new = state g.S.Store end in
    let laws : IsStore new = record { settled = g.met.S.Store.settled end.store; stays = g.met.S.Store.stays end.store; something = g.met.S.Store.survives end.store } in
    record {
      rests = search rules;
      made = λ clean settled sound free.
          let done = c.in-Ok.ensures.made clean settled sound free in
          (open_at new opening opening_is_valid done.0 clean laws, others_at old.now new opening_tables done.0 done.1);
      reported = tt;
      crash = search rules;
    }

pub returns-in-Err : goal.returns-in-Err
returns-in-Err g c = record {
  rests = search rules;
  made = λ clean settled sound free. unopened_keeps (state g.S.Store c.args.connection.now) (state g.S.Store c.commit_opening.new.conn) settled (c.in-Err.ensures.after_failure clean settled sound free);
  reported = refl;
  crash = search rules;
}
