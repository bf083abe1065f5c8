-- Lists of commands over a keeper.
use Rattle.std.specs.Prelude.{◌≡◌, ◌⊎◌, ℕ, Bool, true, false, List, take, slice_get, length, Option, Some, None}
use Rattle.plant_base.specs.{State, Envelope}
use Rattle.plant_rules.specs.{step}
use Rattle.plant_keeper.specs.{States, fold, replies}
use Rattle.plant_questions.specs.{DeskFault, Reply}
use Rattle.plant_questions.specs.declared.reply.DeskFault.TheVariants.{Store, Memory, Shut}

-- how a run ended, after so many commands led to t: at a fault of the store the next command may have been made
abbrev pub RunEnds : State → List Envelope → ℕ → States → (States → Type 0) → Bool → Option DeskFault → Type 0
RunEnds t list n represents crash_states shut None = (n ≡ length list) × represents t × (shut ≡ false)
RunEnds t list n represents crash_states shut (Some Store) = represents t × (shut ≡ true) × ((e : Envelope) × (slice_get list n ≡ Some e) × crash_states (λ u. (u ≡ t) ⊎ (u ≡ step t e)))
RunEnds t list n represents crash_states shut (Some Memory) = represents t × (shut ≡ false)
RunEnds t list n represents crash_states shut (Some Shut) = ⊥

-- The replies are those to the first commands, and the keeper ended at the state after these.
pub record Ran (s : State) (list : List Envelope) (answered : List Reply) (end : Option DeskFault) (represents : States) (crash_states : States → Type 0) (shut : Bool) : Type 0 where
  pub reported : answered ≡ replies s (take (length answered) list)
  pub ended : RunEnds (fold s (take (length answered) list)) list (length answered) represents crash_states shut end
