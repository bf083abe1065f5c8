use Rattle.std.proofs.Common.{rules, ◌≡◌, ◌∙◌, true, false, sym, subst}
use Rattle.sqlite.specs.Held.{state}
use Rattle.sql_queries.proofs.AllErrors.{if_error}
use Rattle.plant_tables.specs.{HasTablesOf}
use Rattle.plant_tables.proofs.LoadedIsStored.{loaded_is_stored}
use Rattle.plant_tables.proofs.loaded.Loaded.read.Goals as goal

pub returns-clause-has_rows : goal.returns-clause-has_rows
returns-clause-has_rows g c clean rising =
    let same = c.in_ok-read_all.ensures.same clean in
    let sound = (c.schema.ensures.live same.0.was_open).0 in
    loaded_is_stored c.args.schema (state g.S.Store c.args.conn.now).now c.in_ok-read_all.field-0 sound rising (c.in_ok-read_all.ensures.rows clean)

pub returns-then-not-has_tables-clause-missing : goal.returns-then-not-has_tables-clause-missing
returns-then-not-has_tables-clause-missing g c none all =
    let had_rows : c.has_tables.result ≡ true = c.has_tables.ensures.1 (subst (HasTablesOf c.args.schema) (sym c.schema.ensures.value) all) in
    let failed : c.has_tables.result ≡ false = search rules in
    absurd (let both = sym had_rows ∙ failed in cc)

pub returns-in_err-read_all-clause-lacking : goal.returns-in_err-read_all-clause-lacking
returns-in_err-read_all-clause-lacking g c known lacks =
    let had_rows : c.has_tables.result ≡ true = search rules in
    absurd (lacks (subst (HasTablesOf c.args.schema) c.schema.ensures.value (c.has_tables.ensures.0 had_rows)))

pub returns-in_err-read_all-clause-memory : goal.returns-in_err-read_all-clause-memory
returns-in_err-read_all-clause-memory g c =
    if_error c.from_residual.result _ (λ fault memory.
    let had_rows : c.has_tables.result ≡ true = search rules in
    subst (HasTablesOf c.args.schema) c.schema.ensures.value (c.has_tables.ensures.0 had_rows))

pub returns-clause-whole : goal.returns-clause-whole
returns-clause-whole g c =
    let had_rows : c.has_tables.result ≡ true = search rules in
    subst (HasTablesOf c.args.schema) c.schema.ensures.value (c.has_tables.ensures.0 had_rows)
