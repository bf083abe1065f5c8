-- Where a run of the machine leads is where its attempts at commands may have led.
use Rattle.std.proofs.Common.{◌≡◌, true, false, List, [], ◌∷◌, ◌++◌, refl, sym, ap, ◌∙◌, subst, inl, inr}
use Rattle.plant_base.specs.{State, Envelope}
use Rattle.plant_rules.specs.{step}
use Rattle.plant_keeper.specs.{reply}
use Rattle.plant_questions.specs.{Reply}
use Rattle.plant_desk_store.specs.{PossibleOutcome, StorePhase, opened, desk, refused, Attempt, LeadsTo, acknowledged, in_flight}
use Rattle.plant_desk_store.specs.Machines.{Event, attempt, question, check, stop, opening_again, Machine, up, down, Step, takes, stops_before, stops_after, answers, checks, stops, opens, Run, rests, goes_on, attempts_in}
use Rattle.plant_desk_store.specs.Headline.{RunsAreOutcomes, machine_at}

-- ---- from outcomes to runs

rests_at : (s u : State) → u ≡ s → Run (up s) [] (up u)
rests_at s u same = subst (λ (x : State). Run (up s) [] (up x)) (sym same) (rests (up s))

takes_by : (s : State) (e : Envelope) (r : Reply) → r ≡ reply s e → Step (up s) (attempt (acknowledged e r)) (up (step s e))
takes_by s e r same = subst (λ (x : Reply). Step (up s) (attempt (acknowledged e x)) (up (step s e))) (sym same) (takes s e)

-- it goes down within a command, and goes on
goes_on_after : (s t u : State) (e : Envelope) (events : List Event) → Step (up s) (attempt (in_flight e)) (down t) → Run (up t) events (up u) → Run (up s) (attempt (in_flight e) ∷ opening_again ∷ events) (up u)
goes_on_after s t u e events went more = goes_on (up s) (down t) (up u) (attempt (in_flight e)) (opening_again ∷ events) went (goes_on (down t) (up t) (up u) opening_again events (opens t) more)

up_run : (s u : State) (list : List Attempt) → PossibleOutcome s list u → (events : List Event) × Run (up s) events (up u) × (attempts_in events ≡ list)
up_run s u [] lead = ([], rests_at s u lead, refl)
up_run s u (acknowledged e r ∷ more) lead =
    let it = up_run (step s e) u more lead.1 in
    (attempt (acknowledged e r) ∷ it.0, goes_on (up s) (up (step s e)) (up u) (attempt (acknowledged e r)) it.0 (takes_by s e r lead.0) it.1, ap (λ (l : List Attempt). acknowledged e r ∷ l) it.2)
up_run s u (in_flight e ∷ more) (inl lead) =
    let it = up_run s u more lead in
    (attempt (in_flight e) ∷ opening_again ∷ it.0, goes_on_after s s u e it.0 (stops_before s e) it.1, ap (λ (l : List Attempt). in_flight e ∷ l) it.2)
up_run s u (in_flight e ∷ more) (inr lead) =
    let it = up_run (step s e) u more lead in
    (attempt (in_flight e) ∷ opening_again ∷ it.0, goes_on_after s (step s e) u e it.0 (stops_after s e) it.1, ap (λ (l : List Attempt). in_flight e ∷ l) it.2)

down_run : (s u : State) (list : List Attempt) → PossibleOutcome s list u → LeadsTo s list (up u)
down_run s u list lead =
    let it = up_run s u list lead in
    record { events = opening_again ∷ it.0; run = goes_on (down s) (up s) (up u) opening_again it.0 (opens s) it.1; attempted = it.2 }

-- a stop at its end
then_stops : {a : Machine} {events : List Event} {b : Machine} (u : State) → Run a events b → b ≡ up u → Run a (events ++ stop ∷ []) (down u)
then_stops u (rests m) is = subst (λ (x : Machine). Run x (stop ∷ []) (down u)) (sym is) (goes_on (up u) (down u) (down u) stop [] (stops u) (rests (down u)))
then_stops u (goes_on a b c x more does run) is = goes_on a b (down u) x (more ++ stop ∷ []) does (then_stops u run is)

attempts_before_stop : (events : List Event) → attempts_in (events ++ stop ∷ []) ≡ attempts_in events
attempts_before_stop [] = refl
attempts_before_stop (attempt x ∷ more) = ap (λ (l : List Attempt). x ∷ l) (attempts_before_stop more)
attempts_before_stop (question q a ∷ more) = attempts_before_stop more
attempts_before_stop (check e c ∷ more) = attempts_before_stop more
attempts_before_stop (stop ∷ more) = attempts_before_stop more
attempts_before_stop (opening_again ∷ more) = attempts_before_stop more

stopped_run : (s u : State) (list : List Attempt) → LeadsTo s list (up u) → LeadsTo s list (down u)
stopped_run s u list lead = record { events = lead.events ++ stop ∷ []; run = then_stops u lead.run refl; attempted = attempts_before_stop lead.events ∙ lead.attempted }

pub outcome_run : (s u : State) (list : List Attempt) (phase : StorePhase) → PossibleOutcome s list u → LeadsTo s list (machine_at phase u)
outcome_run s u list opened lead = stopped_run s u list (down_run s u list lead)
outcome_run s u list (desk false) lead = down_run s u list lead
outcome_run s u list (desk true) lead = stopped_run s u list (down_run s u list lead)
outcome_run s u list refused lead = stopped_run s u list (down_run s u list lead)

-- ---- from runs to outcomes

abbrev state_of : Machine → State
state_of (up s) = s
state_of (down s) = s

step_led : {a b : Machine} {x : Event} (more : List Event) (u : State) → Step a x b → PossibleOutcome (state_of b) (attempts_in more) u → PossibleOutcome (state_of a) (attempts_in (x ∷ more)) u
step_led more u (takes s e) lead = (refl, lead)
step_led more u (stops_before s e) lead = inl lead
step_led more u (stops_after s e) lead = inr lead
step_led more u (answers s q) lead = lead
step_led more u (checks s e) lead = lead
step_led more u (stops s) lead = lead
step_led more u (opens s) lead = lead

run_led : {a b : Machine} {events : List Event} → Run a events b → PossibleOutcome (state_of a) (attempts_in events) (state_of b)
run_led (rests m) = refl
run_led (goes_on a b c x more does run) = step_led more (state_of c) does (run_led run)

state_at : (u : State) (phase : StorePhase) → state_of (machine_at phase u) ≡ u
state_at u opened = refl
state_at u (desk false) = refl
state_at u (desk true) = refl
state_at u refused = refl

run_outcome : (s u : State) (list : List Attempt) (phase : StorePhase) → LeadsTo s list (machine_at phase u) → PossibleOutcome s list u
run_outcome s u list phase lead = subst (λ (x : State). PossibleOutcome s list x) (state_at u phase) (subst (λ (l : List Attempt). PossibleOutcome s l (state_of (machine_at phase u))) lead.attempted (run_led lead.run))

pub runs_are_outcomes : RunsAreOutcomes
runs_are_outcomes s now attempts phase = (run_outcome s now attempts phase, outcome_run s now attempts phase)
