-- What reading leaves, from what `sqlite` says of each call.
use Rattle.std.proofs.Common.{◌≡◌, inl, inr, sym, subst, ◌∙◌, List, ℕ, [], None, Ok, Err, Result, IfOk}
use Rattle.sqlite.specs.Order.{Row}
use Rattle.sqlite.specs.Effect.{Database}
use Rattle.sqlite.specs.Listing.{understood, reads_listing, IsSourceOf}
use Rattle.sqlite.specs.State.{State, IsUnchanged, IsRolledBack, IsNotRun, FailsToQuery, Shown, ShowsRows, Survives, CommitsShowing}
use Rattle.sqlite.specs.Clock.{timed}
use Rattle.sqlite.specs.declared.error.Error.{Error}
use Rattle.sqlite.specs.Schema.{Schema}
use Rattle.sqlite.specs.Tree.{Trees}
use Rattle.sqlite.specs.Held.{Held, state}
use Rattle.sqlite.specs.Given.{Returns, HasGiven, HasBegun}
use Rattle.sqlite_trees.specs.declared.store.Store as store
use Rattle.sqlite_resolve.specs.declared.compiled.Compiled.{Compiled}
use Rattle.sqlite_resolve.specs.declared.error.CompileError.{CompileError}
use Rattle.sqlite.proofs.Callers.{unchanged_then}
use Rattle.sqlite.proofs.StateLemmas.{survives_weaker}
use Rattle.sql_tables.specs.{IsAtRest, Keeps}
use Rattle.sql_queries.specs.{OnlyReads}

pub keeps_same : (old new : State) → IsAtRest old → IsUnchanged old new → Keeps old new
keeps_same old new rest same = record { was_open = λ _. same.0.was_open; now = λ _. same.0.now_is; committed = λ _. same.0.committed_is }

pub keeps_undone : (old new : State) → IsAtRest old → IsRolledBack old new → Keeps old new
keeps_undone old new rest undone = record {
  was_open = undone.was_open;
  now = λ is_open. (undone.undone is_open).0 ∙ sym (rest.settled (undone.was_open is_open));
  committed = λ is_open. (undone.undone is_open).1;
}

pub rests : (old new : State) → IsAtRest old → IsUnchanged old new → IsAtRest new
rests old new rest same = record {
  settled = λ is_open. same.0.now_is ∙ rest.settled same.0.was_open ∙ sym same.0.committed_is;
  mode = same.0.mode ∙ rest.mode;
}

pub keeps_then : (a b c : State) → IsUnchanged a b → Keeps b c → Keeps a c
keeps_then a b c same kept = record {
  was_open = λ is_open. same.0.was_open;
  now = λ is_open. kept.now is_open ∙ same.0.now_is;
  committed = λ is_open. kept.committed is_open ∙ same.0.committed_is;
}

not_run : (sql : List ℕ) (params : Row) (old new : State) (e : Error) → IsAtRest old → IsNotRun old new sql params e → Keeps old new
unfolding IsNotRun
not_run sql params old new e rest (inl none) = keeps_same old new rest none.1
not_run sql params old new e rest (inr fails) = keeps_undone old new rest fails.3

-- what is understood has no RETURNING and doesn't read the time
bare : (schema : Schema) (sql : List ℕ) (c : Compiled) → OnlyReads schema sql → understood schema sql ≡ Ok c → (c.returning ≡ None) × (c.formats ≡ [])
bare schema sql c only is = subst (λ r. IfOk r (λ (c : Compiled). (c.returning ≡ None) × (c.formats ≡ []))) is only

pub keeps_refused : (sql : List ℕ) (params : Row) (old new : State) (e : Error) → OnlyReads old.now.schema sql → IsAtRest old → FailsToQuery sql params old new e → Keeps old new
unfolding FailsToQuery
keeps_refused sql params old new e only rest (inl none) = not_run sql params old new e rest none
keeps_refused sql params old new e only rest (inr ran) =
    let none = (bare old.now.schema sql ran.0 only ran.1.is).0 in
    keeps_same old new rest (rw none at ran.2).3

never_commits : (sql : List ℕ) (params : Row) (s : State) (db : Trees) → OnlyReads s.now.schema sql → ¬ CommitsShowing sql params s db
unfolding CommitsShowing
never_commits sql params s db only h =
    let none = (bare s.now.schema sql h.0 only h.1.is).0 in
    absurd (let some = rw none at h.2 in cc)

pub commits_nothing : (sql : List ℕ) (params : Row) (old new : State) → OnlyReads old.now.schema sql → Survives old new (CommitsShowing sql params old) → Survives old new (λ _. ⊥)
commits_nothing sql params old new only = survives_weaker old new _ _ (λ _ db. never_commits sql params old db only)

never_returns : (r : Result Compiled CompileError) → IfOk r (λ (c : Compiled). (c.returning ≡ None) × (c.formats ≡ [])) → ¬ Returns r
never_returns (Ok c) only some = absurd (let none = rw only.0 at some in cc)
never_returns (Err e) only some = some

pub begun : {S : Type 0} (g : store.Ghosts S) (sql : List ℕ) (params : Row) (old new : Held S) → OnlyReads old.schema sql → HasBegun g sql params old new → HasGiven g sql params new [] × IsUnchanged (state g old) (state g new)
begun g sql params old new only (inl h) = h
begun g sql params old new only (inr h) = absurd (never_returns _ only h.0)

pub shown_unchanged : (sql : List ℕ) (params : Row) (old new : State) (rows : List Row) → OnlyReads old.now.schema sql → Shown sql params old new rows → IsUnchanged old new
unfolding Shown
shown_unchanged sql params old new rows only h =
    let none = (bare old.now.schema sql h.0 only h.1.is).0 in
    (rw none at h.2).3

-- an answer over what was unchanged since is an answer over what was there first
pub shown_since : (sql : List ℕ) (params : Row) (first old new : State) (rows : List Row) → OnlyReads first.now.schema sql → IsUnchanged first old → Shown sql params old new rows → Shown sql params first new rows
unfolding Shown
shown_since sql params first old new rows only same h =
    let now = same.0.now_is in
    let is : understood first.now.schema sql ≡ Ok h.0 = subst (λ (d : Database). understood d.schema sql ≡ Ok h.0) now h.1.is in
    let none = (bare first.now.schema sql h.0 only is).0 in
    let it = rw none at h.2 in (
      h.0,
      record { is = is; whole = h.1.whole; given = h.1.given; now = h.1.now },
      subst (λ o. ShowsRows first new sql h.0 (timed params h.0.formats h.1.now) rows o) (sym none) (
        it.0,
        subst (λ (d : Database). IsSourceOf (reads_listing d.schema sql) d it.0) now it.1,
        it.2,
        unchanged_then first old new same it.3,
      ),
    )
