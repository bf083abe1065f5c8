-- From what was read to the whole input.
use Rattle.std.proofs.Common.{◌≡◌, ℕ, ◌+◌, ◌-◌, ◌<◌, ◌≤◌, true, false, nat_le, List, [], ◌++◌, length, take, drop, Option, Some, None, refl, sym, ap, ◌∙◌, arith, append_assoc, slice_range, append-nil, length-append, length-drop}
use Rattle.std.specs.Io.KnownBytes.{Consumes, IsAtEnd}
use Rattle.std.proofs.lemmas.Bool.Decides.{nat_tests}
use Rattle.std.proofs.lemmas.List.{take-append-le, drop-append-le}
use Rattle.plant_http_requests.specs.{end_of_head, Agrees, FindsHead, GoesOn, SpentAll, body_task, finish, EndTask, HeadTask, HeadAsksFor, AsksFor, Reads, ReadsAs, ReadsSome, StepOf, refused_task, under}
use Rattle.plant_http_requests.specs.declared.reading.HeadEnd.{HeadEnd}
use Rattle.plant_http_requests.specs.declared.reading.HeadEnd.TheVariants as end
use Rattle.plant_http_requests.proofs.BodyIsOfInput.{gone_on}
use Rattle.plant_http_requests.proofs.HeadEnds.{known_end}
use Rattle.plant_http_requests.specs.declared.task.BodyFields.{BodyFields}
use Rattle.plant_http_requests.specs.declared.task.ConditionalTask.{ConditionalTask}
use Rattle.plant_http_requests.specs.declared.task.Sender.{Sender}
use Rattle.plant_http_requests.specs.declared.task.RequestTask.{RequestTask}
use Rattle.plant_http_requests.specs.declared.task.HeadStep.{HeadStep}
use Rattle.plant_http_requests.specs.declared.task.HeadStep.TheVariants.{Body}
use Rattle.plant_http_requests.specs.declared.profile.Terms.{Terms}
use Rattle.plant_http_requests.specs.declared.status.Status.TheVariants.{BadRequest}

-- ---- bodies

body_part : (bytes left : List ℕ) (n len : ℕ) → n + len ≤ length bytes → take len (drop n (bytes ++ left)) ≡ slice_range bytes n (n + len)
body_part bytes left n len h =
    let size = length-drop n bytes in
    let room : len ≤ length (drop n bytes) = omega arith in
    let prefix : drop n (bytes ++ left) ≡ drop n bytes ++ left = drop-append-le n bytes left (omega arith) in
    let same : n + len - n ≡ len = omega arith in
    rw (prefix, same) (take-append-le len (drop n bytes) left room)

body_there : (bytes left : List ℕ) (n len : ℕ) → n + len ≤ length bytes → nat_le len (length (drop n (bytes ++ left))) ≡ true
body_there bytes left n len h =
    let a = length-append bytes left in
    let b = length-drop n (bytes ++ left) in
    grind (arith, nat_tests, a, b)

body_short : (whole : List ℕ) (n len : ℕ) → n ≤ length whole → length whole < n + len → nat_le len (length (drop n whole)) ≡ false
body_short whole n len k h =
    let b = length-drop n whole in
    grind (arith, nat_tests, b)

-- a whole body was read
pub whole_body : (terms : Terms) (start left : Option (List ℕ)) (old new : List ℕ) (n len : ℕ) (sender : Sender) (fields : BodyFields) (step : HeadStep) (task : RequestTask) → StepOf terms (take n old) step → step ≡ Body len fields sender
    → GoesOn start left old new → n + len ≤ length new → Reads task (body_task terms sender fields.content (slice_range new n (n + len)))
    → (rest : List ℕ) × Agrees start rest × HeadAsksFor terms (take n old) (drop n (old ++ rest)) (under fields.condition task)
whole_body terms start left old new n len sender fields step task so is g h reads =
    let (rest, more, agrees, whole, ended) = gone_on start left old new g in
    let asked = under fields.condition (body_task terms sender fields.content (slice_range new n (n + len))) in
    (rest, agrees, (asked, (step, so, rw (is, whole, body_there new more n len h, body_part new more n len h) refl), (refl, reads)))

-- the input ended before the whole body
pub cut_body : (terms : Terms) (start left : Option (List ℕ)) (old new : List ℕ) (n len : ℕ) (sender : Sender) (fields : BodyFields) (step : HeadStep) (task : ConditionalTask) → StepOf terms (take n old) step → step ≡ Body len fields sender
    → GoesOn start left old new → length new < n + len → IsAtEnd left → n ≤ length old → task ≡ refused_task BadRequest false
    → (rest : List ℕ) × Agrees start rest × HeadAsksFor terms (take n old) (drop n (old ++ rest)) task
cut_body terms start left old new n len sender fields step task so is g short end h e =
    let (rest, more, agrees, whole, ended) = gone_on start left old new g in
    let all : old ++ rest ≡ new = rw (ended end) at whole ∙ append-nil new in
    let within : n ≤ length (old ++ rest) = omega (arith, h, length-append old rest) in
    let cut : length (old ++ rest) < n + len = rw all short in
    (rest, agrees, (refused_task BadRequest false, (step, so, rw (is, body_short (old ++ rest) n len within cut) refl), rw e (refl, refl)))

some_left : (start : Option (List ℕ)) → (left : List ℕ) × Agrees start left
some_left None = ([], tt)
some_left (Some left) = (left, refl)

-- the head alone decides
pub by_head : (terms : Terms) (start : Option (List ℕ)) (old : List ℕ) (n : ℕ) (step : HeadStep) (task : ConditionalTask) → StepOf terms (take n old) step → ((rest : List ℕ) → finish terms step rest ≡ task) → ReadsAs task task
    → (rest : List ℕ) × Agrees start rest × HeadAsksFor terms (take n old) (drop n (old ++ rest)) task
by_head terms start old n step task so is reads =
    let (rest, agrees) = some_left start in
    (rest, agrees, (task, (step, so, sym (is (drop n (old ++ rest)))), reads))

-- ---- inputs

-- what was found of the head is so of an input, where the reader may have it
pub from_end : (terms : Terms) (start : Option (List ℕ)) (e : HeadEnd) (task : Option ConditionalTask) → (whole : List ℕ) × Agrees start whole × (e ≡ end_of_head whole)
    → ((whole : List ℕ) → (j : Option ConditionalTask) × EndTask terms e whole j × ReadsSome task j) → (whole : List ℕ) × Agrees start whole × AsksFor terms whole task
from_end terms start e task (whole, agrees, h) f = let (j, at, reads) = f whole in (whole, agrees, (j, rw (sym h) at, reads))

behind : (start left : Option (List ℕ)) (bytes rest : List ℕ) → Consumes start left bytes → Agrees left rest → Agrees start (bytes ++ rest)
behind None left bytes rest c a = tt
behind (Some whole) None bytes rest c a = absurd c
behind (Some whole) (Some known) bytes rest c a = ap (λ l. bytes ++ l) a ∙ sym c

-- a head was found, with what it and the bytes after it ask for
pub from_head : (terms : Terms) (start left : Option (List ℕ)) (bytes : List ℕ) (n : ℕ) (task : ConditionalTask) → n ≤ length bytes → Consumes start left bytes
    → FindsHead (end.Found n) bytes left → (rest : List ℕ) × Agrees left rest × HeadAsksFor terms (take n bytes) (drop n (bytes ++ rest)) task
    → (whole : List ℕ) × Agrees start whole × AsksFor terms whole (Some task)
from_head terms start left bytes n task h c found (rest, agrees, (j, head, reads)) =
    let at : end.Found n ≡ end_of_head (bytes ++ rest) = known_end (end.Found n) bytes rest found in
    let prefix : take n (bytes ++ rest) ≡ take n bytes = take-append-le n bytes rest h in
    let is : HeadTask terms (take n (bytes ++ rest)) (drop n (bytes ++ rest)) j = rw prefix head in
    (bytes ++ rest, behind start left bytes rest c agrees, (Some j, rw (sym at) (j, refl, is), reads))

-- ---- reads

-- all reads of a request were made, some of them for the head
pub spent_more : (a b c : Option (List ℕ)) (bytes : List ℕ) (all left : ℕ) → Consumes a b bytes → all ≤ left + length bytes → SpentAll left b c → SpentAll all a c
spent_more None b c bytes all left h k (taken, t, m) =
    (bytes ++ taken, tt, omega (arith, k, m, length-append bytes taken))
spent_more (Some xs) None c bytes all left h k (taken, t, m) = absurd h
spent_more (Some xs) (Some ys) None bytes all left h k (taken, t, m) = absurd t
spent_more (Some xs) (Some ys) (Some zs) bytes all left h k (taken, t, m) =
    (bytes ++ taken, h ∙ ap (λ l. bytes ++ l) t ∙ sym (append_assoc bytes taken zs), omega (arith, k, m, length-append bytes taken))
