-- From a task that was read to the request of the whole input.
use Rattle.std.proofs.Common.{◌≡◌, ℕ, ◌≤◌, ◌==◌, Bool, true, false, List, [], ◌∷◌, length, Option, Some, None, Result, Ok, Err, refl, sym, arith, nat_le, if◌then◌else◌, length-append}
use Rattle.std.specs.Prelude.{⊤}
use Rattle.std.specs.Io.KnownBytes.{Keeps}
use Rattle.std.proofs.lemmas.Bool.Decides.{nat_tests}
use Rattle.plant_base.specs.{State}
use Rattle.plant_keeper.specs.{States}
use Rattle.plant_http_requests.specs.{end_of_head, end_where, Agrees, SpentAll, AsksFor, ConditionalTask, EndTask, InputFault, Terms}
use Rattle.plant_http_requests.specs.declared.reading.HeadEnd.{HeadEnd}
use Rattle.plant_http_requests.specs.declared.reading.HeadEnd.TheVariants as head
use Rattle.plant_http.specs.{Serves, ServesShut, AnswersTaskShut, dated, end_of}
use Rattle.plant_http.specs.Serving.{Answers}
use Rattle.plant_text.specs.{RepresentsDurably}
use Rattle.plant_http_requests.specs.declared.reading.InputFault.TheVariants as input
use Rattle.plant_http.specs.declared.serve.Served.{Served}
use Rattle.plant_http.specs.declared.serve.Served.TheVariants.{Answered, Nothing}
use Rattle.plant_http.specs.declared.serve.ServeFault.{ServeFault}
use Rattle.plant_http.specs.declared.serve.ServeFault.TheVariants as end
use Rattle.plant_http.proofs.ConditionPerforms.{conditional_performs, conditional_silent, conditional_shut}

pub known_kept : (a : Option (List ℕ)) → Keeps a a
known_kept None = tt
known_kept (Some x) = refl

-- ---- an input without a byte

nothing_at_end : (terms : Terms) (e : HeadEnd) (whole : List ℕ) → EndTask terms e whole None → e ≡ head.Nothing
nothing_at_end terms head.Nothing whole h = refl
nothing_at_end terms head.Early whole h = absurd (cc)
nothing_at_end terms head.TooLong whole h = absurd (cc)
nothing_at_end terms (head.Found n) whole (j, h, is) = absurd (cc)

empty_end : (o : Option ℕ) (whole : List ℕ) → end_where o whole ≡ head.Nothing → whole ≡ []
empty_end (Some n) whole h = absurd (cc)
empty_end None [] h = refl
empty_end None (b ∷ whole) h = by (nat_le 8192 (length (b ∷ whole))) (length (b ∷ whole) == 0) (grind (arith, nat_tests)) h
  where
    by : (long zero : Bool) → zero ≡ false → (if long then head.TooLong else (if zero then head.Nothing else head.Early)) ≡ head.Nothing → b ∷ whole ≡ []
    by true zero e h = absurd (cc)
    by false true e h = absurd (cc)
    by false false e h = absurd (cc)

pub none_is_empty : (terms : Terms) (whole : List ℕ) → AsksFor terms whole None → whole ≡ []
unfolding end_of_head
none_is_empty terms whole (None, is, reads) = empty_end _ whole (nothing_at_end terms (end_of_head whole) whole is)
none_is_empty terms whole (Some j, is, reads) = absurd (cc)

-- ---- a request that couldn't be read

abbrev Fits : InputFault → List ℕ → Type 0
Fits input.Read whole = ⊤
Fits input.Endless whole = 4096 ≤ length whole
Fits input.Memory whole = ⊤

spent_whole : (start left : Option (List ℕ)) → SpentAll 4096 start left → (whole : List ℕ) × Agrees start whole × (4096 ≤ length whole)
spent_whole None left (taken, c, m) = (taken, tt, m)
spent_whole (Some whole) None (taken, c, m) = absurd c
spent_whole (Some whole) (Some rest) (taken, c, m) = (whole, refl, rw c (omega (arith, m, length-append taken rest)))

some_whole : (start : Option (List ℕ)) → (whole : List ℕ) × Agrees start whole × ⊤
some_whole None = ([], tt, tt)
some_whole (Some whole) = (whole, refl, tt)

pub fault_whole : (start left : Option (List ℕ)) (fault : InputFault) → (fault ≡ input.Endless → SpentAll 4096 start left)
    → (whole : List ℕ) × Agrees start whole × Fits fault whole
fault_whole start left input.Read h = some_whole start
fault_whole start left input.Endless h = spent_whole start left (h refl)
fault_whole start left input.Memory h = some_whole start

pub fault_serves : (terms : Terms) (k : ℕ) (s : State) (whole : List ℕ) (text : Option (List ℕ)) (represents : States) (shut : Bool) (crash_states : States → Type 0) (fault : InputFault)
    → RepresentsDurably represents crash_states s → shut ≡ false → Fits fault whole → Serves terms k s whole text text represents shut crash_states (Err (end_of fault))
fault_serves terms k s whole text represents shut crash_states input.Read alone is_live h = record { state = alone; is_live = is_live; text = known_kept text }
fault_serves terms k s whole text represents shut crash_states input.Endless alone is_live h = (record { state = alone; is_live = is_live; text = known_kept text }, h)
fault_serves terms k s whole text represents shut crash_states input.Memory alone is_live h = record { state = alone; is_live = is_live; text = known_kept text }

pub fault_shut : (terms : Terms) (whole : List ℕ) (text : Option (List ℕ)) (fault : InputFault) → Fits fault whole → ServesShut terms whole text text (Err (end_of fault))
fault_shut terms whole text input.Read h = known_kept text
fault_shut terms whole text input.Endless h = (known_kept text, h)
fault_shut terms whole text input.Memory h = known_kept text

-- ---- a task that is there

pub serves_by_task : (terms : Terms) (k : ℕ) (s : State) (whole : List ℕ) (task : ConditionalTask) (old new : Option (List ℕ)) (represents : States) (shut : Bool) (crash_states : States → Type 0) (r : Result Served ServeFault)
    → AsksFor terms whole (Some task) → Answers (dated terms) k s task old new represents shut crash_states r → Serves terms k s whole old new represents shut crash_states r
serves_by_task terms k s whole task old new represents shut crash_states (Ok Nothing) a h = absurd h
serves_by_task terms k s whole task old new represents shut crash_states (Err end.Read) a h = absurd h
serves_by_task terms k s whole task old new represents shut crash_states (Err end.Endless) a h = absurd h
serves_by_task terms k s whole task old new represents shut crash_states (Err end.Memory) a h = absurd h
serves_by_task terms k s whole task old new represents shut crash_states (Ok (Answered code)) (None, is, reads) h = absurd reads
serves_by_task terms k s whole task old new represents shut crash_states (Err end.Write) (None, is, reads) h = absurd reads
serves_by_task terms k s whole task old new represents shut crash_states (Ok (Answered code)) (Some j, is, reads) (out, did, is_code, wrote) =
    (j, is, out, conditional_performs k s task j out represents shut crash_states reads did, (is_code, rw (sym (conditional_silent task j reads)) wrote))
serves_by_task terms k s whole task old new represents shut crash_states (Err end.Write) (Some j, is, reads) (out, did, wrote) =
    (j, is, out, conditional_performs k s task j out represents shut crash_states reads did, rw (sym (conditional_silent task j reads)) wrote)

pub shut_by_task : (terms : Terms) (whole : List ℕ) (task : ConditionalTask) (old new : Option (List ℕ)) (r : Result Served ServeFault)
    → AsksFor terms whole (Some task) → AnswersTaskShut (dated terms) task old new r → ServesShut terms whole old new r
shut_by_task terms whole task old new (Ok Nothing) a h = absurd h
shut_by_task terms whole task old new (Err end.Read) a h = absurd h
shut_by_task terms whole task old new (Err end.Endless) a h = absurd h
shut_by_task terms whole task old new (Err end.Memory) a h = absurd h
shut_by_task terms whole task old new (Ok (Answered code)) (None, is, reads) h = absurd reads
shut_by_task terms whole task old new (Err end.Write) (None, is, reads) h = absurd reads
shut_by_task terms whole task old new (Ok (Answered code)) (Some j, is, reads) (out, done, is_code, wrote) =
    (j, is, out, conditional_shut task j out reads done, (is_code, rw (sym (conditional_silent task j reads)) wrote))
shut_by_task terms whole task old new (Err end.Write) (Some j, is, reads) (out, done, wrote) =
    (j, is, out, conditional_shut task j out reads done, rw (sym (conditional_silent task j reads)) wrote)

-- ---- no task

pub serves_nothing : (terms : Terms) (k : ℕ) (s : State) (whole : List ℕ) (text : Option (List ℕ)) (represents : States) (shut : Bool) (crash_states : States → Type 0)
    → RepresentsDurably represents crash_states s → shut ≡ false → AsksFor terms whole None → Serves terms k s whole text text represents shut crash_states (Ok Nothing)
serves_nothing terms k s whole text represents shut crash_states alone is_live a = (none_is_empty terms whole a, record { state = alone; is_live = is_live; text = known_kept text })

pub shut_nothing : (terms : Terms) (whole : List ℕ) (text : Option (List ℕ)) → AsksFor terms whole None → ServesShut terms whole text text (Ok Nothing)
shut_nothing terms whole text a = (none_is_empty terms whole a, known_kept text)
