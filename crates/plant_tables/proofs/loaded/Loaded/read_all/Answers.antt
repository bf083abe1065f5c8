use Rattle.std.proofs.Common.{rules, refl, ◌≡◌, ◌∙◌, sym, ap, subst, length, length-append, List, slice_get, Some, arith, option_map, [], ◌∷◌, ◌++◌, ◌<◌}
use Rattle.std.proofs.lemmas.List.{length-map}
use Rattle.std.proofs.lemmas.Option.{slice_get_read, slice_get-map}
use Rattle.sqlite.proofs.Callers.{unchanged_then}
use Rattle.sqlite.specs.Held.{state}
use Rattle.sqlite.specs.State.{HasCleanDisk}
use Rattle.sql_tables.proofs.StatementSequence.{survives_on}
use Rattle.sql_tables.specs.{TableDef}
use Rattle.sql_queries.specs.{comes_before, Lists}
use Rattle.sql_queries.specs.Rises.{Rises}
use Rattle.plant_tables.specs.{table_defs_of}
use Rattle.plant_tables.proofs.FirstTablesRead.{prefix_more, all_loaded, all_rising}
use Rattle.plant_tables.proofs.loaded.Loaded.read_all.Goals as goal

pub loop-reading-preserved : goal.loop-reading-preserved
loop-reading-preserved g c =
    let old = state g.S.Store c.args.conn.now in
    let mid = state g.S.Store c.loop-reading.conn in
    let new = state g.S.Store c.read_table.new.conn in
    let was = c.loop-reading.invariant in
    let readings = c.readings_of-reading-items.result.now in
    let table_defs = table_defs_of c.args.schema in
    let at = c.loop-reading.reading-index in
    let reading = c.reading-item.result in
    let table_def = reading.table_def in
    let within : at < length readings = search rules in
    let item : slice_get readings at ≡ Some reading = slice_get_read readings (length readings) at reading refl within c.reading-item.is in
    let this : slice_get table_defs at ≡ Some table_def =
    ap (λ (fs : List TableDef). slice_get fs at) (sym c.readings_of-reading-items.ensures.table_defs) ∙ slice_get-map (λ reading. reading.table_def) readings at ∙ ap (option_map (λ reading. reading.table_def)) item in
    let pushed : c.keep.new.tables.items ≡ c.loop-reading.tables.items ++ c.in_ok-rows.rows ∷ [] = c.in_ok-keep.ensures.kept in
    rw pushed (
      omega (arith, length-append c.loop-reading.tables.items (c.in_ok-rows.rows ∷ []), was.0),
      prefix_more (λ f rows. Rises (comes_before f) rows) table_defs at c.loop-reading.tables.items c.in_ok-rows.rows table_def was.0 this c.in_ok-rows.ensures.rising was.1,
      λ mode. c.read_table.ensures.mode (was.2 mode),
      survives_on old mid new was.3 c.read_table.ensures.crash,
      λ clean.
          let early : HasCleanDisk mid = omega (arith, c.read_table.ensures.crash.clean) in
          let before = was.4 early in
          let same = c.in_ok-rows.ensures.same clean in
          let all = before.1 same.0.was_open in
          let lists : Lists old.now table_def c.in_ok-rows.rows.items = subst (λ db. Lists db table_def c.in_ok-rows.rows.items) all.0.now_is (c.in_ok-rows.ensures.rows clean) in
          (prefix_more (Lists old.now) table_defs at c.loop-reading.tables.items c.in_ok-rows.rows table_def was.0 this lists before.0, λ _. unchanged_then old mid new all same, λ _. same.0.is_open),
    )

pub returns-clause-rows : goal.returns-clause-rows
returns-clause-rows g c clean =
    let table_defs = table_defs_of c.args.schema in
    let was = c.loop-reading.invariant in
    let all : c.loop-reading.reading-index ≡ length c.readings_of-reading-items.result.now = search rules in
    let many : c.loop-reading.reading-index ≡ length table_defs = all ∙ sym (length-map c.readings_of-reading-items.result.now (λ reading. reading.table_def)) ∙ ap (λ (fs : List TableDef). length fs) c.readings_of-reading-items.ensures.table_defs in
    all_loaded c.args.schema (state g.S.Store c.args.conn.now).now _ c.loop-reading.reading-index many was.0 (was.4 clean).0 was.1

pub returns-clause-rising : goal.returns-clause-rising
returns-clause-rising g c =
    let table_defs = table_defs_of c.args.schema in
    let was = c.loop-reading.invariant in
    let all : c.loop-reading.reading-index ≡ length c.readings_of-reading-items.result.now = search rules in
    let many : c.loop-reading.reading-index ≡ length table_defs = all ∙ sym (length-map c.readings_of-reading-items.result.now (λ reading. reading.table_def)) ∙ ap (λ (fs : List TableDef). length fs) c.readings_of-reading-items.ensures.table_defs in
    all_rising c.args.schema _ c.loop-reading.reading-index many was.0 was.1
