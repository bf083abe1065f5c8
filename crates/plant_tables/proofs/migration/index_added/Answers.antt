use Rattle.std.proofs.Common.{rules, refl, sym, subst, OnOk, ◌≡◌}
use Rattle.sqlite.specs.Held.{state}
use Rattle.plant_tables.specs.{table_defs_of, added_indexes}
use Rattle.sql_tables.specs.{AddsIndexes}
use Rattle.plant_tables.proofs.StatementsOnDesk.{indexed_so, indexed_later}
use Rattle.plant_tables.proofs.migration.index_added.Goals as goal

pub returns-then-schema-eq2-clause-indexed : goal.returns-then-schema-eq2-clause-indexed
returns-then-schema-eq2-clause-indexed g c clean =
    let second : c.args.schema ≡ 2 = search rules in
    let old = state g.S.Store c.args.tx.now.conn.now in
    let new = state g.S.Store c.run_create_indexes.new.tx.conn.now in
    subst (λ schema. OnOk c.run_create_indexes.result (AddsIndexes (table_defs_of schema) (added_indexes schema) old new)) (sym second)
    (indexed_so 2 c.indexes_in.result c.indexes_in.ensures.own _ c.split_at.result.0.now c.split_at.ensures.front refl old new c.run_create_indexes.result (c.run_create_indexes.ensures.made clean))

pub returns-then-schema-eq4-clause-indexed : goal.returns-then-schema-eq4-clause-indexed
returns-then-schema-eq4-clause-indexed g c clean =
    let fourth : c.args.schema ≡ 4 = search rules in
    let old = state g.S.Store c.args.tx.now.conn.now in
    let made = c.run_create_indexes-then-schema-eq4 in
    let new = state g.S.Store made.new.tx.conn.now in
    subst (λ schema. OnOk made.result (AddsIndexes (table_defs_of schema) (added_indexes schema) old new)) (sym fourth)
    (indexed_later c.indexes_in.result c.indexes_in.ensures.later _ c.split_at.result.1.now c.split_at.ensures.back refl old new made.result (made.ensures.made clean))
