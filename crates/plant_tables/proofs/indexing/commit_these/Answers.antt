use Rattle.std.proofs.Common.{◌≡◌, [], rules, arith}
use Rattle.std.proofs.lemmas.List.{nil_from_length}
use Rattle.sqlite.specs.Held.{state}
use Rattle.sqlite.proofs.StateLemmas.{survives_weaker}
use Rattle.sql_tables.proofs.StatementSequence.{survives_none}
use Rattle.plant_tables.proofs.MissingIndexes.{creates_missing_indexes, nothing_missing, created_at, none_lacking}
use Rattle.plant_tables.proofs.indexing.commit_these.Goals as goal

pub returns-then-is_empty-clause-gained : goal.returns-then-is_empty-clause-gained
returns-then-is_empty-clause-gained g c =
    let old = state g.S.Store c.args.conn.now in
    let none : c.args.missing.now ≡ [] = nil_from_length c.args.missing.now (search rules) in
    record {
      honest = λ clean. clean;
      gained = λ clean t at. (at, (nothing_missing old.now c.args.missing.now c.requires.lacked none t at.holds).1);
      no_crash_state_added = λ taken. survives_none old;
      unmade = tt;
      survives = survives_weaker _ _ _ _ (λ clean db none. absurd none) (survives_none old);
    }

pub returns-clause-gained : goal.returns-clause-gained
returns-clause-gained g c =
    let old = state g.S.Store c.args.conn.now in
    let new = state g.S.Store c.in_one.new.conn in
    let done = c.in_one.ensures in
    record {
      honest = λ clean. omega (arith, done.crash.clean, clean);
      gained = λ clean t at. created_at old new c.args.missing.now c.requires.lacked t at c.in_one.result (done.done clean at.settled) (done.undone clean at.settled);
      no_crash_state_added = λ taken. absurd (let none = none_lacking old.now.schema c.args.missing.now c.requires.lacked taken in search rules);
      unmade = search rules;
      survives = survives_weaker _ _ _ _ (λ clean trees made. (made.0, creates_missing_indexes old.now made.0 c.args.missing.now c.requires.lacked made.1, made.2)) done.crash;
    }
