-- That commands with references act once.
use Rattle.std.specs.Prelude.{◌≡◌, ℕ, Bool, false, ◌||◌, cond, List, [], ◌∷◌, ◌++◌, Option, Some, None, is_some, is_none}
use Rattle.std.specs.List.{list_any}
use Rattle.plant_base.specs.{State, same, Envelope}
use Rattle.plant_rules.specs.{wrong, kept_for, step, step_plain}
use Rattle.plant_keeper.specs.Sendings.{Sending, state_after_sending, answered_of, IsPersistent}

-- the commands of a list that are accepted when they come
abbrev pub accepted : State → List Envelope → List Envelope
accepted s [] = []
accepted s (e ∷ es) = cond (is_none (wrong s e)) (e ∷ accepted (step s e) es) (accepted (step s e) es)

abbrev pub is_same_reference : Option (List ℕ) → Option (List ℕ) → Bool
is_same_reference None q = false
is_same_reference (Some a) None = false
is_same_reference (Some a) (Some b) = same b a

-- the command's reference is that of a receipt of s, or of a command that is accepted among those before it
abbrev pub is_known : State → List Envelope → Envelope → Bool
is_known s before e = is_some (kept_for s e) || list_any (λ f. is_same_reference e.reference f.reference) (accepted s before)

abbrev pub once_after : State → List Envelope → List Envelope → List Envelope
once_after s before [] = []
once_after s before (e ∷ es) = cond (is_known s before e) (once_after s (before ++ e ∷ []) es) (e ∷ once_after s (before ++ e ∷ []) es)

-- the list without the commands whose reference is known when they come
abbrev pub once : State → List Envelope → List Envelope
once s es = once_after s [] es

-- the state after the commands, by steps that look at no reference and keep no receipt
abbrev pub plain : State → List Envelope → State
plain s [] = s
plain s (e ∷ es) = plain (step_plain s e) es

abbrev pub but_receipts : State → State
but_receipts s = record s { receipts = [] }

-- Of every sending in which each command that was stopped has a reference and is the next one again until it is answered: it
-- leads, but for receipts, where the answered commands lead, each taken once, in a desk without receipts.
abbrev pub AppliedOnce : Type 0
AppliedOnce = (s : State) (xs : Sending) → IsPersistent xs → but_receipts (state_after_sending s xs) ≡ but_receipts (plain s (once s (answered_of xs)))
