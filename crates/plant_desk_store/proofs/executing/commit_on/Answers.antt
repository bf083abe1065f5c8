use Rattle.std.proofs.Common.{refl, rules, subst}
use Rattle.sqlite.specs.Held.{state}
use Rattle.plant_base.specs.{newest_schema}
use Rattle.plant_view.specs.{tables_of, changed_all}
use Rattle.plant_view.specs.TableRows.{Tables}
use Rattle.sql_tables.proofs.TransactionEnds.{IsStore}
use Rattle.plant_tables.specs.{IsAt, FailureLeaves}
use Rattle.plant_invariant_tables.proofs.RowsInKeyOrder.{keyed}
use Rattle.plant_desk_store.proofs.ForeignTablesKept.{others_committed, others_cut}
use Rattle.plant_desk_store.proofs.ReadingKeepsState.{open_at, cut_at}
use Rattle.plant_desk_store.proofs.executing.commit_on.Goals as goal

pub returns-in-Ok-clause-committed : goal.returns-in-Ok-clause-committed
returns-in-Ok-clause-committed g c =
    let old = state g.S.Store c.args.connection.now in
    let end = c.commit_changes.new.conn in
    let new = state g.S.Store end in
    let laws : IsStore new = record { settled = g.met.S.Store.settled end.store; stays = g.met.S.Store.stays end.store; something = g.met.S.Store.survives end.store } in
    record {
      rests = search rules;
      clean = search rules;
      answered = search rules;
      committed = λ clean s next at is_live lead. open_at new next lead.valid (subst (λ (t : Tables). IsAt new t) lead.leads (c.in-Ok.ensures.accepted clean (tables_of newest_schema s) (at.represents.shows is_live) (keyed newest_schema s at.represents.valid) lead.fresh).0) clean laws;
      others = λ clean s next at is_live lead before others.
          let done = c.in-Ok.ensures.accepted clean (tables_of newest_schema s) (at.represents.shows is_live) (keyed newest_schema s at.represents.valid) lead.fresh in
          others_committed before old new (changed_all c.args.changes.now (tables_of newest_schema s)) others is_live done.0 done.1;
    }

pub returns-in-Err-clause-committed : goal.returns-in-Err-clause-committed
returns-in-Err-clause-committed g c =
    let old = state g.S.Store c.args.connection.now in
    let new = state g.S.Store c.commit_changes.new.conn in
    record {
      rests = search rules;
      clean = search rules;
      answered = refl;
      committed = λ clean s next at is_live lead.
          cut_at old new s next at.represents.valid lead.valid (subst (λ (t : Tables). FailureLeaves old new (tables_of newest_schema s) t) lead.leads (c.in-Err.ensures.after_failure clean (tables_of newest_schema s) (at.represents.shows is_live) (keyed newest_schema s at.represents.valid) lead.fresh));
      others = λ clean s next at is_live lead before others.
          others_cut before old new (tables_of newest_schema s) (changed_all c.args.changes.now (tables_of newest_schema s)) others is_live (c.in-Err.ensures.after_failure clean (tables_of newest_schema s) (at.represents.shows is_live) (keyed newest_schema s at.represents.valid) lead.fresh);
    }
