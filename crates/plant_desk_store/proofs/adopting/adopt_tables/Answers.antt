use Rattle.std.proofs.Common.{◌≡◌, ◌<◌, Err, sym, subst, rules, arith}
use Rattle.sqlite.specs.Held.{state}
use Rattle.sqlite.specs.State.{IsUnchanged}
use Rattle.sqlite.proofs.StateLemmas.{survives_weaker}
use Rattle.sql_tables.proofs.TransactionEnds.{IsStore}
use Rattle.plant_base.specs.{newest_schema}
use Rattle.plant_view.specs.{tables_of}
use Rattle.plant_tables.specs.{HoldsTablesOf}
use Rattle.plant_desk_store.specs.{HasTaken}
use Rattle.plant_desk_store.proofs.CheckedStore.{still_new, opens_new, others_unchanged}
use Rattle.plant_desk_store.proofs.TablesTested.{migrated_or_not, unread}
use Rattle.plant_desk_store.proofs.adopting.adopt_tables.Goals as goal

-- the rows weren't read, or break a rule
pub returns-in_err-rows : goal.returns-in_err-rows
returns-in_err-rows g c =
    let old = state g.S.Store c.args.connection.now in
    let end = c.check_tables.new.connection in
    let new = state g.S.Store end in
    let laws : IsStore new = record { settled = g.met.S.Store.settled end.store; stays = g.met.S.Store.stays end.store; something = g.met.S.Store.survives end.store } in
    let is : c.from_residual.result ≡ Err c.in_err-rows.field-0.0 = search rules in
    subst (HasTaken c.args.schema old new) (sym is) (unread c.args.schema old new c.in_err-rows.field-0.0 laws c.requires c.in_err-rows.ensures)

-- they are valid, and the tables are migrated
pub returns-then-schema-lt-NEWEST_SCHEMA : goal.returns-then-schema-lt-NEWEST_SCHEMA
returns-then-schema-lt-NEWEST_SCHEMA g c =
    let held = c.check_tables.new.connection in
    let mid = state g.S.Store held in
    let first : IsStore mid = record { settled = g.met.S.Store.settled held.store; stays = g.met.S.Store.stays held.store; something = g.met.S.Store.survives held.store } in
    let older : c.args.schema < newest_schema = search rules in
    migrated_or_not c.args.schema older c.in_ok-rows.rows (state g.S.Store c.args.connection.now) mid (state g.S.Store c.migrate_tables.new.connection) first c.in_ok-rows.ensures
    c.migrate_tables.result c.migrate_tables.ensures

-- they are valid, and of the newest schema
pub returns : goal.returns
returns g c =
    let old = state g.S.Store c.args.connection.now in
    let end = c.check_tables.new.connection in
    let new = state g.S.Store end in
    let laws : IsStore new = record { settled = g.met.S.Store.settled end.store; stays = g.met.S.Store.stays end.store; something = g.met.S.Store.survives end.store } in
    let did = c.check_tables.ensures in
    let rows = c.in_ok-rows.ensures in
    record {
      rests = did.reads.rests c.requires;
      valid = λ clean newly known.
          let valid = rows.valid clean newly known in
          let newest : c.args.schema ≡ newest_schema = search (rules, arith, known.1) in
          let same : IsUnchanged old new = rows.unchanged clean in
          (valid.0, valid.1, opens_new old new newly clean same (did.reads.kept clean) laws valid.0 valid.1.valid (subst (λ k. HoldsTablesOf k old.now (tables_of k valid.0)) newest valid.1.holds), others_unchanged old new (still_new old new newly same laws) same.0.now_is valid.1.holds.sound);
      again = λ clean newly s at.
          let newest : c.args.schema ≡ newest_schema = search (rules, arith, at.known.1) in
          opens_new old new newly clean (rows.unchanged clean) (did.reads.kept clean) laws s at.valid (subst (λ k. HoldsTablesOf k old.now (tables_of k s)) newest at.holds);
      named = λ clean reported. tt;
      unmade = tt;
      newest = λ _. did.reads.crash;
      crash = survives_weaker _ _ _ _ (λ clean db none. absurd none) did.reads.crash;
    }
