-- What follows from what a stop leaves.
use Rattle.std.proofs.Common.{inl, inr}
use Rattle.std.proofs.Math.Logic.{∥∥₁_elim}
use Rattle.sqlite.specs.Tree.{Trees}
use Rattle.sqlite.specs.State as store
use Rattle.sqlite.specs.State.{HasCleanDisk, Survives}
use Rattle.plant_keeper.specs.{States}
use Rattle.plant_desk_store.specs.DeskStates.{HasCrashStates}

-- what a stop leaves, where it leaves no more than it did
pub kept_crash_states : (old new : store.State) (states : States) → HasCrashStates old states → HasCleanDisk new → Survives old new (λ _. ⊥) → (HasCleanDisk new → ∥ ((db : Trees) × new.may_leave db) ∥₁) → HasCrashStates new states
kept_crash_states old new states crash_states clean survives something = record {
  something = something clean;
  nothing_else = λ db left. elim (survives.crash clean db left) [
    | inl before ↦ crash_states.nothing_else db before
    | inr none ↦ absurd none
  ];
}

-- a stop leaves something
pub never_nothing : (c : store.State) → HasCrashStates c (λ _. ⊥) → ⊥
never_nothing c crash_states = ∥∥₁_elim crash_states.something (λ p q. absurd p) (λ left. (crash_states.nothing_else left.0 left.1).1)
