use Rattle.std.proofs.Common.{rules, ◌≤◌, length, arith, ◌∙◌, refl}
use Rattle.sqlite.specs.Held.{state}
use Rattle.sql_tables.proofs.CreateTables.{none_made, next_made, all_made, all_names_kept_free}
use Rattle.sql_tables.proofs.StatementSequence.{survives_none, survives_on, kept_none, kept_then, shown_then}
use Rattle.sql_tables.proofs.statements.create_tables.Goals as goal

pub loop-text-init : goal.loop-text-init
loop-text-init g c = record {
  same = search rules;
  wrote = survives_none (state g.S.Store c.args.tx.now.conn.now);
  kept = λ clean. kept_none (state g.S.Store c.args.tx.now.conn.now);
  inside = λ clean live inside. record { was_open = live; is_open = live; now_is = refl; committed_is = refl; mode = inside };
  founding = λ clean table_defs apart says. none_made table_defs (state g.S.Store c.args.tx.now.conn.now);
}

pub loop-text-preserved : goal.loop-text-preserved
loop-text-preserved g c =
    let first = state g.S.Store c.args.tx.now.conn.now in
    let mid = state g.S.Store c.loop-text.tx.conn.now in
    let last = state g.S.Store c.run_plain.new.tx.conn.now in
    let before = c.loop-text.invariant in
    record {
      same = c.run_plain.ensures.same_reference ∙ before.same;
      wrote = survives_on first mid last before.wrote c.run_plain.ensures.survives;
      kept = λ clean. kept_then first mid last (before.kept (omega (arith, c.run_plain.ensures.survives.clean))) (c.run_plain.ensures.kept clean);
      inside = λ clean. shown_then first mid last (before.inside (omega (arith, c.run_plain.ensures.survives.clean))) (λ _ _. (c.in_ok-run_plain.ensures.runs clean).1.shown);
      founding = λ clean table_defs apart says.
          next_made _ c.args.texts.now table_defs apart says c.loop-text.text-index _ c.loop-text-test.true first mid last (c.in_ok-run_plain.ensures.runs clean)
          (before.founding (omega (arith, c.run_plain.ensures.survives.clean)) table_defs apart says);
    }

pub returns-clause-made : goal.returns-clause-made
returns-clause-made g c clean table_defs apart says =
    let whole : length c.args.texts.now ≤ c.loop-text.text-index = omega (arith, c.loop-text-test.false) in
    all_made _ c.args.texts.now table_defs says (state g.S.Store c.args.tx.now.conn.now) (state g.S.Store c.loop-text.tx.conn.now) c.loop-text.text-index whole (c.loop-text.invariant.founding clean table_defs apart says) (c.loop-text.invariant.inside clean)

pub returns-clause-no_crash_state_added : goal.returns-clause-no_crash_state_added
returns-clause-no_crash_state_added g c clean table_defs apart says =
    all_names_kept_free table_defs (state g.S.Store c.args.tx.now.conn.now) (state g.S.Store c.loop-text.tx.conn.now) c.loop-text.text-index (c.loop-text.invariant.founding clean table_defs apart says)
