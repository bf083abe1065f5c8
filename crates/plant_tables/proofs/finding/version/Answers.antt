use Rattle.std.proofs.Common.{◌∙◌, subst, sym}
use Rattle.std.proofs.lemmas.Option.{IfSome_then}
use Rattle.sqlite.specs.Held.{state}
use Rattle.sql_queries.specs.{Lists}
use Rattle.plant_tables.specs.{meta_table}
use Rattle.plant_tables.proofs.TextsSelectAll.{meta_selected}
use Rattle.plant_tables.proofs.OneVersion.{no_version}
use Rattle.plant_tables.proofs.finding.version.Goals as goal

pub read_table-requires : goal.read_table-requires
read_table-requires g c = meta_selected

pub returns-clause-some : goal.returns-clause-some
returns-clause-some g c clean =
    let db = (state g.S.Store c.args.conn.now).now in
    IfSome_then c.version_in.result c.version_in.ensures.some
    (λ n reported.
    let alone = sym c.as_slice.ensures.value ∙ reported.1 in
    record { row = reported.0; alone = subst (Lists db meta_table) alone (c.in_ok-list.ensures.rows clean); valid = reported.2; reports = reported.3 })

pub returns-clause-none : goal.returns-clause-none
returns-clause-none g c clean none = no_version (state g.S.Store c.args.conn.now).now c.in_ok-list.list.items (c.in_ok-list.ensures.rows clean)
    (λ row one. c.version_in.ensures.none none row (c.as_slice.ensures.value ∙ one))
