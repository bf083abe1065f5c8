use Rattle.std.proofs.Common.{subst, sym}
use Rattle.sqlite.specs.Held.{state}
use Rattle.sqlite.proofs.StateLemmas.{survives_weaker}
use Rattle.sql_tables.proofs.StatementSequence.{survives_none}
use Rattle.plant_tables.specs.{CreateLacking}
use Rattle.plant_tables.proofs.MissingIndexes.{cut_at_rest}
use Rattle.plant_tables.proofs.indexing.commit_missing.Goals as goal

pub returns-in-Err-clause-gained : goal.returns-in-Err-clause-gained
returns-in-Err-clause-gained g c =
    let old = state g.S.Store c.args.conn.now in
    record {
      honest = λ clean. clean;
      gained = λ clean t at. cut_at_rest old t at;
      no_crash_state_added = λ taken. survives_none old;
      unmade = λ other. survives_none old;
      survives = survives_weaker _ _ _ _ (λ clean db none. absurd none) (survives_none old);
    }

pub commit_these-requires-clause-lacked : goal.commit_these-requires-clause-lacked
commit_these-requires-clause-lacked g c =
    let found = subst (λ s. CreateLacking s c.in-Ok.missing.items) c.schema.ensures.value c.in-Ok.ensures in
    subst (CreateLacking c.args.conn.now.schema) (sym c.as_slice.ensures.value) found
