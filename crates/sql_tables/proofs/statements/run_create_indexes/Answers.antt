use Rattle.std.proofs.Common.{rules, refl, ◌≤◌, ℕ, List, length, arith, ◌∙◌}
use Rattle.sqlite.specs.Held.{state}
use Rattle.sql_tables.specs.declared.table_def.CreateIndexStatement.{CreateIndexStatement}
use Rattle.sql_tables.proofs.CreateIndexes.{none_indexed, next_indexed, all_indexed}
use Rattle.sql_tables.proofs.StatementSequence.{survives_none, survives_on, kept_none, kept_then, shown_then}
use Rattle.sql_tables.proofs.statements.run_create_indexes.Goals as goal

abbrev sql_of : CreateIndexStatement → List ℕ
sql_of text = text.sql.now

pub loop-text-init : goal.loop-text-init
loop-text-init g c = record {
  same = search rules;
  wrote = survives_none (state g.S.Store c.args.tx.now.conn.now);
  kept = λ clean. kept_none (state g.S.Store c.args.tx.now.conn.now);
  inside = λ clean live inside. record { was_open = live; is_open = live; now_is = refl; committed_is = refl; mode = inside };
  indexing = λ clean table_defs indexes of_these says. none_indexed table_defs indexes (state g.S.Store c.args.tx.now.conn.now);
}

pub loop-text-preserved : goal.loop-text-preserved
loop-text-preserved g c =
    let first = state g.S.Store c.args.tx.now.conn.now in
    let mid = state g.S.Store c.loop-text.tx.conn.now in
    let last = state g.S.Store c.run_plain.new.tx.conn.now in
    let before = c.loop-text.invariant in
    record {
      same = c.run_plain.ensures.same_reference ∙ before.same;
      wrote = survives_on first mid last before.wrote c.run_plain.ensures.survives;
      kept = λ clean. kept_then first mid last (before.kept (omega (arith, c.run_plain.ensures.survives.clean))) (c.run_plain.ensures.kept clean);
      inside = λ clean. shown_then first mid last (before.inside (omega (arith, c.run_plain.ensures.survives.clean))) (λ _ _. (c.in_ok-run_plain.ensures.runs clean).1.shown);
      indexing = λ clean table_defs indexes of_these says.
          next_indexed sql_of c.args.texts.now table_defs indexes of_these says c.loop-text.text-index _ c.loop-text-test.true first mid last (c.in_ok-run_plain.ensures.runs clean)
          (before.indexing (omega (arith, c.run_plain.ensures.survives.clean)) table_defs indexes of_these says);
    }

pub returns-clause-made : goal.returns-clause-made
returns-clause-made g c clean table_defs indexes of_these says =
    let whole : length c.args.texts.now ≤ c.loop-text.text-index = omega (arith, c.loop-text-test.false) in
    all_indexed sql_of c.args.texts.now table_defs indexes says (state g.S.Store c.args.tx.now.conn.now) (state g.S.Store c.loop-text.tx.conn.now) c.loop-text.text-index whole
    (c.loop-text.invariant.indexing clean table_defs indexes of_these says) (c.loop-text.invariant.inside clean)

pub returns-clause-inside : goal.returns-clause-inside
returns-clause-inside g c clean live inside = (c.loop-text.invariant.inside clean live inside).mode
