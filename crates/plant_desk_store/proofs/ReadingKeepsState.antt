-- What a call that only reads leaves of the state that a store represents, and what a commit makes of it.
use Rattle.std.proofs.Common.{◌≡◌, ◌∙◌, inl, inr, sym, ap, refl, ◌⊎◌}
use Rattle.sqlite.specs.Tree.{Trees}
use Rattle.sqlite.specs.Effect.{Database}
use Rattle.sqlite.specs.State as store
use Rattle.sqlite.specs.State.{HasCleanDisk, Survives}
use Rattle.plant_base.specs.{State, newest_schema}
use Rattle.plant_view.specs.{tables_of}
use Rattle.plant_answers.proofs.PlainTables.{whole_in_newest}
use Rattle.plant_invariant.specs.StateInvariant.{StateInvariant}
use Rattle.sql_tables.specs.{Keeps}
use Rattle.sql_tables.proofs.TransactionEnds.{IsStore}
use Rattle.plant_tables.specs.{IsAt, FindsTables, FailureLeaves}
use Rattle.plant_tables.proofs.WritingEnds.{finds_same}
use Rattle.plant_migrate.proofs.NothingWritten.{at_still}
use Rattle.plant_keeper.specs.{States}
use Rattle.plant_desk_store.specs.{kept_crash_states, ShowsState, FindsState, HasCrashStates, IsDurablyAt}

-- ---- a call that only reads

-- after it a stop leaves what it left before
pub left_still : (old new : store.State) → Survives old new (λ _. ⊥) → HasCleanDisk new → (db : Trees) → new.may_leave db → old.may_leave db
left_still old new survives clean db left = elim (survives.crash clean db left) [ inl before ↦ before | inr none ↦ absurd none ]

pub still_represents : (old new : store.State) (s : State) → ShowsState old s → Keeps old new → IsStore new → ShowsState new s
still_represents old new s represents kept laws = record {
  valid = represents.valid;
  shows = λ is_live. at_still newest_schema old new (tables_of newest_schema s) (represents.shows (kept.was_open is_live)) kept laws is_live;
}

pub still_crash_states : (old new : store.State) (states : States) → HasCrashStates old states → HasCleanDisk new → Survives old new (λ _. ⊥) → IsStore new → HasCrashStates new states
still_crash_states old new states crash_states clean survives laws = kept_crash_states old new states crash_states clean survives laws.something

pub still_open : (old new : store.State) (s : State) → IsDurablyAt old s → HasCleanDisk new → Keeps old new → Survives old new (λ _. ⊥) → IsStore new → IsDurablyAt new s
still_open old new s at clean kept survives laws = record {
  represents = still_represents old new s at.represents kept laws;
  crash_states = still_crash_states old new (λ u. u ≡ s) at.crash_states clean survives laws;
}

-- ---- a commit

found_in : (old : Database) (db : Trees) (s : State) → StateInvariant s → FindsTables old db (tables_of newest_schema s) → FindsState db s
found_in old db s valid finds = record { valid = valid; schema = finds.schema; holds = finds.holds; whole = whole_in_newest s }

-- the state that is represented is what a stop leaves
crash_states_at : (new : store.State) (s : State) → StateInvariant s → IsAt new (tables_of newest_schema s) → HasCleanDisk new → IsStore new → HasCrashStates new (λ u. u ≡ s)
crash_states_at new s valid at clean laws = record {
  something = laws.something clean;
  nothing_else = λ db left.
      let same : db ≡ new.now.trees = at.settled.nothing_else db left ∙ ap (λ (d : Database). d.trees) (sym at.settled.shows) in
      (s, refl, found_in new.now db s valid (finds_same newest_schema new.now db (tables_of newest_schema s) at.holds same));
}

pub open_at : (new : store.State) (s : State) → StateInvariant s → IsAt new (tables_of newest_schema s) → HasCleanDisk new → IsStore new → IsDurablyAt new s
open_at new s valid at clean laws = record { represents = record { valid = valid; shows = λ is_live. at }; crash_states = crash_states_at new s valid at clean laws }

pub cut_at : (old new : store.State) (s next : State) → StateInvariant s → StateInvariant next → FailureLeaves old new (tables_of newest_schema s) (tables_of newest_schema next)
    → ShowsState new s × HasCrashStates new (λ u. (u ≡ s) ⊎ (u ≡ next))
cut_at old new s next valid later cut = (
  record { valid = valid; shows = λ is_live. (cut.shows is_live).0 },
  record {
    something = cut.crash_states;
    nothing_else = λ db left. elim (cut.nothing_else db left) [
      | inl before ↦ (s, inl refl, found_in old.now db s valid before)
      | inr after ↦ (next, inr refl, found_in old.now db next later after)
    ];
  },
)

-- where nothing was begun a stop leaves the state before
pub before_only : (new : store.State) (s next : State) → IsDurablyAt new s → ShowsState new s × HasCrashStates new (λ u. (u ≡ s) ⊎ (u ≡ next))
before_only new s next at = (
  at.represents,
  record {
    something = at.crash_states.something;
    nothing_else = λ db left. let found = at.crash_states.nothing_else db left in (found.0, inl found.1, found.2);
  },
)
