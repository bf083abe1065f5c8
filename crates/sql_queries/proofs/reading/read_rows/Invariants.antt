use Rattle.std.proofs.Common.{◌≡◌, false}
use Rattle.sqlite.specs.State.{HasCleanDisk, IsUnchanged, Survives}
use Rattle.sqlite.specs.Values.{bound}
use Rattle.sqlite.specs.Held.{state}
use Rattle.sqlite.specs.Given.{HasGiven}
use Rattle.sql_queries.specs.{is_before}
use Rattle.sql_queries.specs.Rises.{Rises}
use Rattle.sql_queries.proofs.reading.read_rows.Given as goal

abbrev pub invariant-rows : goal.invariant-rows
invariant-rows g l =
    let old = state g.S.Store l.fn.conn in
    let now = state g.S.Store l.rows.conn.now in
    Rises (is_before l.by) l.list.items × (l.rows.conn.ghost_name ≡ l.initial.rows.conn.ghost_name) × (l.rows.conn.now.in_transaction ≡ false) × Survives old now (λ _. ⊥) × (HasCleanDisk now → HasGiven g.S.Store l.sql (bound l.params) l.rows.conn.now l.list.items × IsUnchanged old now)
