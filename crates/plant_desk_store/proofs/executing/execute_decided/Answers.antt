use Rattle.std.proofs.Common.{◌≡◌, ◌+◌, List, MatchResult, true, subst, rules}
use Rattle.std.proofs.lemmas.Result.{MatchResult-weaker}
use Rattle.sqlite.specs.Held.{state}
use Rattle.plant_base.specs.{State, newest_schema}
use Rattle.plant_view.specs.{puts_one_batch, tables_of, changed_all, RowChange}
use Rattle.plant_rules.specs.{step}
use Rattle.plant_questions.specs.declared.reply.DeskFault.TheVariants.{Store}
use Rattle.plant_questions.specs.declared.reply.Reply.TheVariants.{Accepted}
use Rattle.plant_invariant.proofs.StepPreservesInvariant.{step_preserves_validity}
use Rattle.plant_invariant_tables.proofs.AddedRowsAreFresh.{fresh}
use Rattle.plant_desk_store.specs.{IsDecidedAt, PossibleOutcomes, IsDurablyAt}
use Rattle.plant_desk_store.proofs.ExecutedCommand.{refused, repeats, committed}
use Rattle.plant_desk_store.proofs.executing.execute_decided.Goals as goal

pub returns-in-Refused-clause-written : goal.returns-in-Refused-clause-written
returns-in-Refused-clause-written g c = record {
  rests = c.requires.rest;
  clean = λ clean. clean;
  executed = λ clean s at is_live is. refused s (state g.S.Store c.args.connection.now) c.args.envelope.now c.in-Refused.refusal (rw c.in-Refused.is at is.decides) at;
  others = λ clean s at is_live is before others. others;
  reported = tt;
}

pub returns-in-Repeat-clause-written : goal.returns-in-Repeat-clause-written
returns-in-Repeat-clause-written g c = record {
  rests = c.requires.rest;
  clean = λ clean. clean;
  executed = λ clean s at is_live is.
      let decided = rw c.in-Repeat.is at is.decides in
      repeats s (state g.S.Store c.args.connection.now) c.args.envelope.now c.in-Repeat.number decided.0 decided.1 at;
  others = λ clean s at is_live is before others. others;
  reported = tt;
}

pub returns-in-Change-clause-written : goal.returns-in-Change-clause-written
returns-in-Change-clause-written g c =
    let e = c.args.envelope.now in
    let changes = c.as_slice.result.now in
    let did = c.commit_on.ensures.committed in
    let rows : c.in-Change.changes ≡ changes = search rules in
    let one : puts_one_batch changes ≡ true = subst (λ (cs : List RowChange). puts_one_batch cs ≡ true) rows (rw c.in-Change.is at c.requires.one_batch) in
    let values = c.show_values.ensures in
    let lead : (s : State) → IsDurablyAt (state g.S.Store c.args.connection.now) s → IsDecidedAt s e c.args.decided → PossibleOutcomes changes s (step s e) = λ s at is.
    let leads : changed_all changes (tables_of newest_schema s) ≡ tables_of newest_schema (step s e) =
    subst (λ (cs : List RowChange). changed_all cs (tables_of newest_schema s) ≡ tables_of newest_schema (step s e)) rows (rw c.in-Change.is at is.decides).2 in
    record { valid = step_preserves_validity s at.represents.valid e values; leads = leads; fresh = fresh s at.represents.valid e values changes leads one } in
    record {
      rests = did.rests;
      clean = did.clean;
      executed = λ clean s at is_live is.
          let decided = rw c.in-Change.is at is.decides in
          let answered = subst (λ n. MatchResult c.commit_on.result (λ r. r ≡ Accepted (n + 1)) (λ f. f ≡ Store)) is.seq did.answered in
          committed s (state g.S.Store c.commit_on.new.connection) e c.commit_on.result decided.0 decided.1 answered (did.committed clean s (step s e) at is_live (lead s at is));
      others = λ clean s at is_live is. did.others clean s (step s e) at is_live (lead s at is);
      reported = MatchResult-weaker c.commit_on.result did.answered (λ _ _. tt) (λ _ store. store);
    }
