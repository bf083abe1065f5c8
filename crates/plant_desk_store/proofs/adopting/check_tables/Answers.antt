use Rattle.std.proofs.Common.{pos, refl, inl, inr, rules}
use Rattle.std.proofs.lemmas.Result.{IfOk-weaker, IfErr-weaker}
use Rattle.sqlite.specs.Held.{state}
use Rattle.sqlite.specs.State.{HasCleanDisk, IsUnchanged}
use Rattle.sql_tables.specs.{HaveStoredRows}
use Rattle.plant_tables.specs.{table_defs_of}
use Rattle.plant_tables.specs.{AreLoaded, AreRising, contents_loaded, HasTablesOf, IsVersion}
use Rattle.plant_desk_store.specs.{NamesFirst}
use Rattle.plant_desk_store.proofs.CheckedRows.{numbered}
use Rattle.plant_desk_store.proofs.CheckedStore.{valid_rows, rows_of_valid, broken_tables}
use Rattle.plant_desk_store.proofs.FaultsOfCalls.{adopted_rows, unread_rows}
use Rattle.plant_desk_store.proofs.adopting.check_tables.Goals as goal

pub returns : goal.returns
returns g c =
    let old = state g.S.Store c.args.connection.now in
    let new = state g.S.Store c.read.new.conn in
    let version = c.args.schema in
    let read = c.read.result in
    let x = c.in_ok-loaded.loaded in
    let is = c.in_ok-loaded.ensures in
    let checked = c.check_loaded.result in
    let loaded : HasCleanDisk new → AreLoaded version old.now x = λ clean. adopted_rows (AreLoaded version old.now) read x is (c.read.ensures.rows clean) in
    record {
      reads = record { rests = c.read.ensures.mode; kept = c.read.ensures.kept; crash = c.read.ensures.crash };
      valid = λ clean newly known. valid_rows version old.now x known (loaded clean) checked (adopted_rows (AreRising version) read x is c.read.ensures.ordered)
          (adopted_rows (λ x. HaveStoredRows (table_defs_of version) old.now (contents_loaded x)) read x is (c.read.ensures.has_rows clean newly.rising)) c.check_loaded.ensures.fit;
      reported = λ clean s held. IfOk-weaker checked _ _ (λ rows. rows_of_valid version old.now x held.known (loaded clean) s rows held) c.check_loaded.ensures.fit;
      numbered = IfOk-weaker checked _ _ (numbered x version) c.check_loaded.ensures.fit;
      unchanged = λ clean. IfOk-weaker checked _ _ (λ _ _. adopted_rows (λ _. IsUnchanged old new) read x is (c.read.ensures.same clean)) c.check_loaded.ensures.fit;
      named = λ clean reported. IfErr-weaker checked _ _ (λ f. broken_tables version old.now x f reported (adopted_rows (λ _. HasTablesOf version old.now.schema) read x is c.read.ensures.whole) (loaded clean)) c.check_loaded.ensures.broken;
    }

pub returns-in_err-loaded : goal.returns-in_err-loaded
returns-in_err-loaded g c =
    let old = state g.S.Store c.args.connection.now in
    let named : IsVersion old.now (pos c.args.schema) → NamesFirst old.now c.in_err-loaded.field-0.0 = λ reported.
    unread_rows (NamesFirst old.now) c.read.result c.in_err-loaded.field-0.0 c.in_err-loaded.ensures (λ none. inl (refl, inr (c.args.schema, reported, (rw none at c.read.ensures.missing) refl))) tt tt in
    search rules
