-- A run ends at a valid state.
use Rattle.std.proofs.Common.{Bool, List, length, take, Option, None, Some}
use Rattle.sqlite.specs.State as store
use Rattle.plant_base.specs.{State, Envelope}
use Rattle.plant_view.proofs.LotsAreBalanced.{balanced}
use Rattle.plant_view.proofs.StockIsConserved.{conserved}
use Rattle.plant_invariant.specs.StateInvariant.{StateInvariant}
use Rattle.plant_keeper.specs.{States, fold}
use Rattle.plant_questions.specs.{DeskFault, Reply}
use Rattle.plant_questions.specs.declared.reply.DeskFault.TheVariants.{Store, Memory, Shut}
use Rattle.plant_desk_store.specs.{IsAccounted, Ran, Represents, HasCrashStates}

pub accounted_valid : (s : State) → StateInvariant s → IsAccounted s
accounted_valid s valid = record { conserved = conserved s valid.sound; balanced = balanced s valid.sound; acyclic = valid.sound.genealogy.acyclic }

ends_good : (c : store.State) (s : State) (list : List Envelope) (answered : List Reply) (end : Option DeskFault) (crash_states : States → Type 0) (shut : Bool) → Ran s list answered end (Represents c shut) crash_states shut
    → StateInvariant (fold s (take (length answered) list))
ends_good c s list answered None crash_states shut ran = ran.ended.1.0.valid
ends_good c s list answered (Some Store) crash_states shut ran = ran.ended.0.0.valid
ends_good c s list answered (Some Memory) crash_states shut ran = ran.ended.0.0.valid
ends_good c s list answered (Some Shut) crash_states shut ran = absurd ran.ended

pub accounted : (c : store.State) (s : State) (list : List Envelope) (answered : List Reply) (end : Option DeskFault) (shut : Bool) → Ran s list answered end (Represents c shut) (HasCrashStates c) shut
    → IsAccounted (fold s (take (length answered) list))
accounted c s list answered end shut ran =
    accounted_valid _ (ends_good c s list answered end (HasCrashStates c) shut ran)
