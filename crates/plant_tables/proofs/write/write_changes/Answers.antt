use Rattle.std.proofs.Common.{take_all, ◌+◌, ◌≡◌, ◌∷◌, [], ◌++◌, take, sym, ap, subst, ◌∙◌, arith, rules}
use Rattle.std.proofs.lemmas.List.{take_more}
use Rattle.sqlite.specs.Held.{state}
use Rattle.sqlite.specs.State.{HasCleanDisk}
use Rattle.sql_tables.specs.Moves.{Moves}
use Rattle.sql_tables.specs.{Contents}
use Rattle.sql_tables.proofs.StatementSequence.{survives_on, kept_then, moves_then, moves_as}
use Rattle.std.proofs.lemmas.List.Elements.{All-from_recursion}
use Rattle.plant_tables.specs.{table_defs_of, rows_changed, all_rows_changed, IsOfSchema, MovesTablesOf}
use Rattle.plant_tables.proofs.WritingEnds.{tables_moved}
use Rattle.plant_tables.proofs.StatementsOnDesk.{one_more_change}
use Rattle.plant_tables.proofs.write.write_changes.Goals as goal

pub loop-change-preserved : goal.loop-change-preserved
loop-change-preserved g c =
    let first = state g.S.Store c.args.tx.now.conn.now in
    let mid = state g.S.Store c.loop-change.tx.conn.now in
    let last = state g.S.Store c.write_among.new.tx.conn.now in
    let prefix = take c.loop-change.change-index c.args.changes.now in
    record {
      same = c.write_among.ensures.same_reference ∙ c.loop-change.invariant.same;
      wrote = survives_on first mid last c.loop-change.invariant.wrote c.write_among.ensures.survives;
      kept = λ clean. kept_then first mid last (c.loop-change.invariant.kept (omega (arith, c.write_among.ensures.survives.clean))) (c.write_among.ensures.kept clean);
      moved = λ clean schema of.
          let was : HasCleanDisk mid = omega (arith, c.write_among.ensures.survives.clean) in
          let more : take (c.loop-change.change-index + 1) c.args.changes.now ≡ prefix ++ c.change-item.result ∷ [] = search (rules, take_more) in
          let item : IsOfSchema schema c.change-item.result = search (rules, All-from_recursion (IsOfSchema schema) c.args.changes.now of) in
          let both = moves_then (table_defs_of schema) first mid last (all_rows_changed prefix) (rows_changed c.change-item.result) (c.loop-change.invariant.moved was schema of) (c.in_ok-write_among.ensures.moved clean schema item) in
          moves_as (table_defs_of schema) first last _ _ (λ (t : Contents). one_more_change prefix c.change-item.result t ∙ ap (λ cs. all_rows_changed cs t) (sym more)) both;
    }

pub returns-clause-moved : goal.returns-clause-moved
returns-clause-moved g c clean schema of =
    let all : take c.loop-change.change-index c.args.changes.now ≡ c.args.changes.now = search (rules, take_all) in
    subst (λ cs. Moves (table_defs_of schema) (state g.S.Store c.args.tx.now.conn.now) (state g.S.Store c.loop-change.tx.conn.now) (all_rows_changed cs)) all (c.loop-change.invariant.moved clean schema of)

pub returns-clause-tables : goal.returns-clause-tables
returns-clause-tables g c clean schema of =
    let all : take c.loop-change.change-index c.args.changes.now ≡ c.args.changes.now = search (rules, take_all) in
    subst (λ cs. MovesTablesOf schema cs (state g.S.Store c.args.tx.now.conn.now).now (state g.S.Store c.loop-change.tx.conn.now).now) all
    (tables_moved schema (take c.loop-change.change-index c.args.changes.now) (state g.S.Store c.args.tx.now.conn.now) (state g.S.Store c.loop-change.tx.conn.now) (c.loop-change.invariant.moved clean schema of))
