-- The commands of an execution are a sending, and act once.
use Rattle.std.proofs.Common.{◌≡◌, ◌∙◌, ◌⊎◌, List, [], ◌∷◌, ◌++◌, refl, sym, ap, subst, inl, inr}
use Rattle.sqlite_trees.specs.declared.store.Store.{Ghosts}
use Rattle.plant_base.specs.{State, Envelope}
use Rattle.plant_rules.specs.{step}
use Rattle.plant_keeper.specs.{fold, once, plain, but_receipts, answered, stopped_before, stopped_after, Sending, answered_of, BeginsWith, IsPersistent}
use Rattle.plant_keeper.proofs.AppliedOnce.{applied_once, acts_at_one_place, taken_once}
use Rattle.plant_desk_store.specs.{Attempt, acknowledged, in_flight, PossibleOutcome, all_attempts, acknowledged_of, IsAcknowledged, AreResent, IsOrderOf, IsNext, AreNextAgain, ExecutionsAreSendings, ExecutionsApplyOnce, ExecutionsApplyInOrder, StoresApplyOnce}
use Rattle.plant_desk_store.proofs.HeadlineByInduction.{outcome}

pub executions_are_sendings : ExecutionsAreSendings
executions_are_sendings s u [] lead = ([], refl, sym lead)
executions_are_sendings s u (acknowledged e r ∷ more) lead =
    let it = executions_are_sendings (step s e) u more lead.1 in
    ((e, answered) ∷ it.0, (λ i. acknowledged e (sym lead.0 i) ∷ it.1 i), it.2)
executions_are_sendings s u (in_flight e ∷ more) (inl lead) =
    let it = executions_are_sendings s u more lead in
    ((e, stopped_before) ∷ it.0, (λ i. in_flight e ∷ it.1 i), it.2)
executions_are_sendings s u (in_flight e ∷ more) (inr lead) =
    let it = executions_are_sendings (step s e) u more lead in
    ((e, stopped_after) ∷ it.0, (λ i. in_flight e ∷ it.1 i), it.2)

-- its commands are answered that were acknowledged
answered_same : (s : State) (xs : Sending) → answered_of xs ≡ acknowledged_of (all_attempts s xs)
answered_same s [] = refl
answered_same s ((e, answered) ∷ xs) = ap (λ es. e ∷ es) (answered_same (step s e) xs)
answered_same s ((e, stopped_before) ∷ xs) = answered_same s xs
answered_same s ((e, stopped_after) ∷ xs) = answered_same (step s e) xs

begins : (s : State) (e : Envelope) (xs : Sending) → IsNext e (all_attempts s xs) → BeginsWith e xs
begins s e [] next = next
begins s e ((d, answered) ∷ xs) next = next
begins s e ((d, stopped_before) ∷ xs) next = next
begins s e ((d, stopped_after) ∷ xs) next = next

persists : (s : State) (xs : Sending) → AreNextAgain (all_attempts s xs) → IsPersistent xs
persists s [] again = tt
persists s ((e, answered) ∷ xs) again = (tt, persists (step s e) xs again)
persists s ((e, stopped_before) ∷ xs) again = ((again.0, begins s e xs again.1), persists s xs again.2)
persists s ((e, stopped_after) ∷ xs) again = ((again.0, begins (step s e) e xs again.1), persists (step s e) xs again.2)

pub executions_apply_in_order : ExecutionsApplyInOrder
executions_apply_in_order s u list again lead =
    let it = executions_are_sendings s u list lead in
    let same : answered_of it.0 ≡ acknowledged_of list = answered_same s it.0 ∙ ap acknowledged_of it.1 in
    ap but_receipts (sym it.2) ∙ applied_once s it.0 (persists s it.0 (subst AreNextAgain (sym it.1) again)) ∙ ap (λ (es : List Envelope). but_receipts (plain s (once s es))) same

-- ---- of any number of clients

-- the place of a command in a list
abbrev HasPlace : Envelope → List Envelope → Type 0
HasPlace e es = (a b : List Envelope) × (es ≡ a ++ e ∷ b)

place_after : (d e : Envelope) (es : List Envelope) → HasPlace e es → HasPlace e (d ∷ es)
place_after d e es at = (d ∷ at.0, at.1, ap (λ (fs : List Envelope). d ∷ fs) at.2)

abbrev first_or : Envelope → List Envelope → Envelope
first_or e [] = e
first_or e (f ∷ fs) = f

abbrev rest_of : List Envelope → List Envelope
rest_of [] = []
rest_of (f ∷ fs) = fs

first_same : {e f : Envelope} {es fs : List Envelope} → e ∷ es ≡ f ∷ fs → e ≡ f
first_same {e} same = ap (λ (gs : List Envelope). first_or e gs) same

rest_same : {e f : Envelope} {es fs : List Envelope} → e ∷ es ≡ f ∷ fs → es ≡ fs
rest_same same = ap rest_of same

front : (d f e : Envelope) (es : List Envelope) → HasPlace e (d ∷ es) → HasPlace e (d ∷ f ∷ es)
front d f e es ([], b, same) = ([], f ∷ es, ap (λ (g : Envelope). g ∷ f ∷ es) (first_same same))
front d f e es (g ∷ a, b, same) = (d ∷ f ∷ a, b, ap (λ (fs : List Envelope). d ∷ f ∷ fs) (rest_same same))

-- where it stands once another came to the front
place_moved : (d e : Envelope) (a b : List Envelope) → HasPlace e (a ++ d ∷ b) → HasPlace e (d ∷ (a ++ b))
place_moved d e [] b at = at
place_moved d e (f ∷ a) b ([], c, same) = (d ∷ [], a ++ b, ap (λ (g : Envelope). d ∷ g ∷ (a ++ b)) (first_same same))
place_moved d e (f ∷ a) b (g ∷ c, rest, same) =
    let it = place_moved d e a b (c, rest, rest_same same) in
    front d f e (a ++ b) it

places : (list : List Attempt) (es : List Envelope) (e : Envelope) → IsOrderOf list es → IsAcknowledged e list → HasPlace e es
places [] es e order among = absurd among
places (acknowledged d r ∷ more) es e order (inl same) = ([], order.0, order.1 ∙ ap (λ (g : Envelope). g ∷ order.0) same)
places (acknowledged d r ∷ more) es e order (inr among) = subst (HasPlace e) (sym order.1) (place_after d e order.0 (places more order.0 e order.2 among))
places (in_flight d ∷ more) es e (inl order) among = places more es e order among
places (in_flight d ∷ more) es e (inr (a, b, same, order)) among = subst (HasPlace e) (sym same) (place_moved d e a b (places more (a ++ d ∷ b) e order among))

-- an order of the acknowledged commands that leads to the state
abbrev HasOrder : State → State → List Attempt → Type 0
HasOrder s u list = (es : List Envelope) × IsOrderOf list es × (u ≡ fold s es)

stopped_there : (s u : State) (e : Envelope) (more : List Attempt) → IsAcknowledged e more → (step s e ≡ s) ⊎ ((a b : List Envelope) → fold (step s e) (a ++ e ∷ b) ≡ fold (step s e) (a ++ b)) → HasOrder (step s e) u more → HasOrder s u (in_flight e ∷ more)
stopped_there s u e more among (inl idle) (es, order, lead) = (es, inl order, lead ∙ ap (λ (t : State). fold t es) idle)
stopped_there s u e more among (inr idle) (es, order, lead) =
    let at = places more es e order among in
    (e ∷ (at.0 ++ at.1), inr (at.0, at.1, refl, subst (IsOrderOf more) at.2 order), lead ∙ ap (fold (step s e)) at.2 ∙ idle at.0 at.1)

ordered : (s u : State) (list : List Attempt) → AreResent list → PossibleOutcome s list u → HasOrder s u list
ordered s u [] again lead = ([], refl, lead)
ordered s u (acknowledged e r ∷ more) again lead =
    let it = ordered (step s e) u more again lead.1 in
    (e ∷ it.0, (it.0, refl, it.1), it.2)
ordered s u (in_flight e ∷ more) again (inl lead) =
    let it = ordered s u more again.2 lead in
    (it.0, inl it.1, it.2)
ordered s u (in_flight e ∷ more) again (inr lead) = stopped_there s u e more again.1 (acts_at_one_place s e again.0) (ordered (step s e) u more again.2 lead)

pub executions_apply_once : ExecutionsApplyOnce
executions_apply_once s u list again lead =
    let it = ordered s u list again lead in
    (it.0, it.1, ap but_receipts it.2 ∙ taken_once s it.0)

pub stores_apply_once : {S : Type 0} (g : Ghosts S) → StoresApplyOnce g
stores_apply_once g first c phase list newly life clean again =
    let it = outcome g first c phase list newly life clean in
    (it.0, it.1, (it.2.0, it.2.1, executions_apply_once it.0 it.2.0 list again it.2.1, it.2.2))
