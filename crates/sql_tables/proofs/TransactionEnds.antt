-- How a transaction ends.
use Rattle.std.proofs.Common.{◌≡◌, inl, inr, true, false, Ok, Err, Result, OnErr, sym, ap, subst, ◌∙◌, IsTrue, arith}
use Rattle.sqlite.specs.Tree.{Trees}
use Rattle.sqlite.specs.Effect.{Database}
use Rattle.sqlite.specs.declared.error.Error.{Error}
use Rattle.sqlite.specs.State.{State, Survives, HasCleanDisk, Shows, IsRolledBack, KeepsCommit}
use Rattle.sqlite.specs.Steps.{FailsToCommit}
use Rattle.sql_tables.specs.{IsSettled, IsUndone}

-- the laws of a store, of one state
pub record IsStore (s : State) : Type 0 where
  pub settled : (db : Trees) → IsTrue s.is_open → s.may_leave db → db ≡ s.committed.trees
  pub stays : IsTrue s.is_open → s.may_leave s.committed.trees
  pub something : HasCleanDisk s → ∥ ((db : Trees) × s.may_leave db) ∥₁

abbrev pub begun : State → State
begun s = record s { in_transaction = true }

-- open and with nothing that waits for a commit
settled_now : (s : State) → IsTrue s.is_open → s.now ≡ s.committed → IsStore s → IsSettled s
settled_now s live shows store = record { is_open = live; shows = shows; crash_states = store.stays live; nothing_else = λ db left. store.settled db live left }

pub committed : (makes : Database → Database → Type 0) (old mid new : State) → makes old.now mid.now → Shows mid new mid.now mid.now false → IsStore new → IsSettled new × makes old.now new.now
committed makes old mid new made shown store = (settled_now new shown.is_open (shown.now_is ∙ sym shown.committed_is) store, subst (makes old.now) (sym shown.now_is) made)

-- rolled back, to what was committed
back : (old mid new : State) → IsSettled old → KeepsCommit (begun old) mid → IsRolledBack mid new → IsStore new → IsTrue new.is_open → IsSettled new × (new.now ≡ old.now)
back old mid new at kept rolled store live =
    let undone = rolled.undone live in
    let same : mid.committed ≡ old.committed = kept.committed (rolled.was_open live) in
    (settled_now new live (undone.0 ∙ sym undone.1) store, undone.0 ∙ (same ∙ sym at.shows))

-- what a stop left before the commit is what was shown
left_before : (old mid : State) → IsSettled old → Survives (begun old) mid (λ _. ⊥) → HasCleanDisk mid → (db : Trees) → mid.may_leave db → db ≡ old.now.trees
left_before old mid at wrote clean db left = elim (wrote.crash clean db left) [
  | inl before ↦ at.nothing_else db before ∙ ap (λ (d : Database). d.trees) (sym at.shows)
  | inr none ↦ absurd none
]

pub ended_early : (makes : Database → Database → Type 0) (old mid new : State) → IsSettled old → Survives (begun old) mid (λ _. ⊥) → KeepsCommit (begun old) mid → IsRolledBack mid new → Survives mid new (λ _. ⊥) → HasCleanDisk new
    → IsStore new → IsUndone makes old new
ended_early makes old mid new at wrote kept rolled dropped clean store = record {
  crash_states = store.something clean;
  nothing_else = λ db left. elim (dropped.crash clean db left) [
    | inl still ↦ inl (left_before old mid at wrote (omega (arith, dropped.clean)) db still)
    | inr none ↦ absurd none
  ];
  shows = back old mid new at kept rolled store;
}

pub ended_late : (makes : Database → Database → Type 0) (old mid new : State) (e : Error) → IsSettled old → Survives (begun old) mid (λ _. ⊥) → KeepsCommit (begun old) mid → makes old.now mid.now → IsTrue mid.in_transaction
    → FailsToCommit mid new e → Survives mid new (λ db. db ≡ mid.now.trees) → HasCleanDisk new → IsStore new → IsUndone makes old new
ended_late makes old mid new e at wrote kept made inside (inr late) ended clean store = absurd (let off = late.1 in cc)
ended_late makes old mid new e at wrote kept made inside (inl fails) ended clean store = record {
  crash_states = store.something clean;
  nothing_else = λ db left. elim (ended.crash clean db left) [
    | inl still ↦ inl (left_before old mid at wrote (omega (arith, ended.clean)) db still)
    | inr same ↦ inr (mid.now, made, same)
  ];
  shows = back old mid new at kept fails.3 store;
}

pub err_always : {A E : Type 0} (r : Result A E) (Q : Type 0) → Q → OnErr r Q
err_always (Ok a) Q q = tt
err_always (Err e) Q q = q
