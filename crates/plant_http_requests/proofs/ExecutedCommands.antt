-- What an input that has a command executed says of it.
use Rattle.std.proofs.Common.{◌≡◌, ℕ, Bool, true, false, List, take, drop, length, map, Option, Some, None, Result, Ok, Err, refl, sym, ap, ◌∙◌, nat_le, nat_lt, MatchBool}
use Rattle.std.specs.Prelude.{◌||◌, not, codes, bytes_eq, is_some, is_none, if◌then◌else◌}
use Rattle.std.proofs.lemmas.Slice.Eq.{bytes_eq-Decides}
use Rattle.httparse.specs.Grammar.{RequestHead}
use Rattle.httparse.specs.Spans.{name_and_value}
use Rattle.desk_page.specs.{Resource}
use Rattle.plant_base.specs.{Envelope}
use Rattle.plant_http_requests.specs.Fields.{Fields, condition_in}
use Rattle.plant_http_requests.specs.Framing.{framing}
use Rattle.plant_http_requests.specs.Senders.{operator_named}
use Rattle.plant_http_requests.specs.Steps.{asks_health, asks_operator, body_fields_in, fields_where, kind_in, framed_step, found_step, health_step, is_head, listed_step, named_step, operator_step, placed_step, post_step, presentation_of, request_step, resource_for}
use Rattle.plant_http_requests.specs.{body_task, body_says, end_of_head, fails, field_lines, field_of, finish, is_of_other, parsed_step, refused_task, target_of, under, ConditionalTask, EndTask, HeadDecision, Parsed, Post, RequestTask, Sender, sender_in, sender_of, Status, StepOf, Target, TaskOf, Terms}
use Rattle.plant_http_requests.specs.declared.reading.HeadEnd.{HeadEnd}
use Rattle.plant_http_requests.specs.declared.reading.HeadEnd.TheVariants as end
use Rattle.plant_http_requests.specs.declared.routes.Target.TheVariants as target
use Rattle.plant_http_requests.specs.declared.status.Status.TheVariants.{BadRequest, HeadTooLarge}
use Rattle.plant_http_requests.specs.declared.task.BodyKind.{BodyKind}
use Rattle.plant_http_requests.specs.declared.task.BodyFields.{BodyFields}
use Rattle.plant_http_requests.specs.declared.task.HeadStep.{HeadStep}
use Rattle.plant_http_requests.specs.declared.task.HeadStep.TheVariants as S
use Rattle.plant_http_requests.specs.declared.task.RequestTask.TheVariants as J
use Rattle.plant_http_requests.specs.declared.task.Sender.TheVariants as who
use Rattle.plant_http_requests.proofs.JudgedCommands.{Executes, executed}

-- ---- the body that says the command

-- an input asks for the command under a condition by a body, which its head asks for
record Brings (terms : Terms) (whole : List ℕ) (condition : Option ℕ) (e : Envelope) : Type 0 where
  size : ℕ
  found : end_of_head whole ≡ end.Found size
  wanted : ℕ
  fields : BodyFields
  sender : Sender
  body : List ℕ
  step : StepOf terms (take size whole) (S.Body wanted fields sender)
  under_it : fields.condition ≡ condition
  executes : Executes terms sender (body_says fields.content body) e

-- the task of a command is no refusal
no_refusal : (decision : HeadDecision) (condition : Option ℕ) (e : Envelope) → under None (J.Decided decision) ≡ under condition (J.Command e) → ⊥
no_refusal decision condition e h = let same : J.Decided decision ≡ J.Command e = ap (λ (t : ConditionalTask). t.task) h in cc

whole_or : (b : Bool) (asked condition : Option ℕ) (task : RequestTask) (e : Envelope) → (if b then under asked task else refused_task BadRequest false) ≡ under condition (J.Command e)
    → (asked ≡ condition) × (task ≡ J.Command e)
whole_or true asked condition task e h = (ap (λ (t : ConditionalTask). t.condition) h, ap (λ (t : ConditionalTask). t.task) h)
whole_or false asked condition task e h = absurd (no_refusal _ condition e h)

by_step : (terms : Terms) (whole : List ℕ) (condition : Option ℕ) (e : Envelope) (n : ℕ) (step : HeadStep) → end_of_head whole ≡ end.Found n → StepOf terms (take n whole) step
    → under condition (J.Command e) ≡ finish terms step (drop n whole) → Brings terms whole condition e
by_step terms whole condition e n (S.Decided decision) found so h = absurd (no_refusal decision condition e (sym h))
by_step terms whole condition e n (S.Body size fields sender) found so h =
    let (same, is) = whole_or (nat_le size (length (drop n whole))) fields.condition condition (body_task terms sender fields.content (take size (drop n whole))) e (sym h) in
    record {
      size = n;
      found = found;
      wanted = size;
      fields = fields;
      sender = sender;
      body = take size (drop n whole);
      step = so;
      under_it = same;
      executes = executed terms sender (body_says fields.content (take size (drop n whole))) e is;
    }

some_alike : (a b : ConditionalTask) → Some a ≡ Some b → a ≡ b
some_alike a b h = cc

brings : (terms : Terms) (whole : List ℕ) (condition : Option ℕ) (e : Envelope) → TaskOf terms whole (Some (under condition (J.Command e))) → Brings terms whole condition e
brings terms whole condition e h = by (end_of_head whole) refl h
  where
    by : (it : HeadEnd) → end_of_head whole ≡ it → EndTask terms it whole (Some (under condition (J.Command e))) → Brings terms whole condition e
    by end.Nothing is h = absurd (cc)
    by end.Early is h = absurd (no_refusal _ condition e (sym (some_alike (under condition (J.Command e)) (refused_task BadRequest false) h)))
    by end.TooLong is h = absurd (no_refusal _ condition e (sym (some_alike (under condition (J.Command e)) (refused_task HeadTooLarge false) h)))
    by (end.Found n) is (j, same, (step, so, done)) = by_step terms whole condition e n step is so (some_alike (under condition (J.Command e)) j same ∙ done)

-- ---- its reference

some_of : (o : Option (List ℕ)) → is_none o ≡ false → is_some o ≡ true
some_of None h = absurd (cc)
some_of (Some id) h = refl

pub executed_has_its_reference : (terms : Terms) (whole : List ℕ) (condition : Option ℕ) (e : Envelope) → terms.needs_references ≡ true
    → TaskOf terms whole (Some (under condition (J.Command e))) → is_some e.reference ≡ true
executed_has_its_reference terms whole condition e needed h = some_of e.reference (rw needed at (brings terms whole condition e h).executes.has)

-- ---- its operator and its condition

-- the fields of a head ask for the body of a POST so, as it is the sender's
abbrev AskedBy : Terms → Fields → BodyFields → Sender → Type 0
AskedBy terms fs fields sender = (sender ≡ sender_in (field_of terms) fs) × (post : Post) × (fields ≡ body_fields_in post fs)

decided_alone : (b : Bool) (p q : HeadDecision) (n : ℕ) (fields : BodyFields) (sender : Sender)
    → S.Body n fields sender ≡ (if b then S.Decided p else S.Decided q) → ⊥
decided_alone true p q n fields sender h = cc
decided_alone false p q n fields sender h = cc

named_alone : (b : Bool) (named : Sender) (silent : Bool) (q : HeadDecision) (n : ℕ) (fields : BodyFields) (sender : Sender)
    → S.Body n fields sender ≡ (if b then named_step named silent else S.Decided q) → ⊥
named_alone true who.Anyone silent q n fields sender h = cc
named_alone true (who.Operator operator) silent q n fields sender h = cc
named_alone true who.Nobody silent q n fields sender h = cc
named_alone false named silent q n fields sender h = cc

by_post : (b : Bool) (size : Option ℕ) (p : HeadDecision) (fields made : BodyFields) (asked sender : Sender) (n : ℕ)
    → S.Body n fields sender ≡ (if b then post_step made asked size else S.Decided p) → (sender ≡ asked) × (fields ≡ made)
by_post true None p fields made asked sender n h = absurd (cc)
by_post true (Some size) p fields made asked sender n h = (cc, cc)
by_post false size p fields made asked sender n h = absurd (cc)

by_target : (terms : Terms) (o : Option Target) (method : List ℕ) (size : Option ℕ) (fs : Fields) (n : ℕ) (fields : BodyFields) (sender : Sender)
    → S.Body n fields sender ≡ found_step terms o method size fs → AskedBy terms fs fields sender
by_target terms None method size fs n fields sender h = absurd (cc)
by_target terms (Some (target.Question question body_format)) method size fs n fields sender h =
    absurd (decided_alone (bytes_eq method (codes "GET") || is_head method) _ _ n fields sender h)
by_target terms (Some (target.Post post)) method size fs n fields sender h =
    let (sent, made) = by_post (bytes_eq method (codes "POST")) size _ fields (body_fields_in post fs) (sender_in (field_of terms) fs) sender n h in (sent, post, made)

by_list : (terms : Terms) (asks : Bool) (path method : List ℕ) (size : Option ℕ) (fs : Fields) (n : ℕ) (fields : BodyFields) (sender : Sender)
    → S.Body n fields sender ≡ (if asks then health_step (presentation_of terms) terms.now.figures method else found_step terms (target_of path) method size fs) → AskedBy terms fs fields sender
by_list terms true path method size fs n fields sender h = absurd (decided_alone (bytes_eq method (codes "GET") || is_head method) _ _ n fields sender h)
by_list terms false path method size fs n fields sender h = by_target terms (target_of path) method size fs n fields sender h

by_place : (terms : Terms) (o : Option Resource) (path method : List ℕ) (size : Option ℕ) (fs : Fields) (n : ℕ) (fields : BodyFields) (sender : Sender)
    → S.Body n fields sender ≡ placed_step terms o path method size fs → AskedBy terms fs fields sender
by_place terms (Some resource) path method size fs n fields sender h =
    absurd (decided_alone (bytes_eq method (codes "GET") || is_head method) _ _ n fields sender h)
by_place terms None path method size fs n fields sender h = by (asks_operator (field_of terms) path) h
  where
    by : (asks : Bool) → S.Body n fields sender ≡ (if asks then operator_step (sender_in (field_of terms) fs) method else listed_step terms path method size fs)
        → AskedBy terms fs fields sender
    by true h = absurd (named_alone (bytes_eq method (codes "GET") || is_head method) (sender_in (field_of terms) fs) (is_head method) _ n fields sender h)
    by false h = by_list terms (asks_health path) path method size fs n fields sender h

by_framing : (terms : Terms) (r : Result (Option ℕ) Status) (path method : List ℕ) (fs : Fields) (n : ℕ) (fields : BodyFields) (sender : Sender)
    → S.Body n fields sender ≡ framed_step terms r method path fs → AskedBy terms fs fields sender
by_framing terms (Err status) path method fs n fields sender h = absurd (cc)
by_framing terms (Ok size) path method fs n fields sender h = by_place terms (resource_for terms.profile path) path method size fs n fields sender h

by_request : (terms : Terms) (method path : List ℕ) (minor : ℕ) (fs : Fields) (n : ℕ) (fields : BodyFields) (sender : Sender)
    → S.Body n fields sender ≡ request_step terms method path minor fs → AskedBy terms fs fields sender
unfolding request_step
by_request terms method path minor fs n fields sender h = by_framing terms (framing terms.profile minor fs) path method fs n fields sender h

-- the head that asks for a body says whose commands it brings, and by its fields when they are done
by_head : (terms : Terms) (head : List ℕ) (n : ℕ) (fields : BodyFields) (sender : Sender) → StepOf terms head (S.Body n fields sender)
    → (h : RequestHead) × Parsed head (Some h) × AskedBy terms (map name_and_value h.fields) fields sender
by_head terms head n fields sender so = by (nat_lt 32 (field_lines head)) so
  where
    by : (many : Bool) → MatchBool many (S.Body n fields sender ≡ fails HeadTooLarge false) ((p : Option RequestHead) × Parsed head p × (S.Body n fields sender ≡ parsed_step terms p))
        → (h : RequestHead) × Parsed head (Some h) × AskedBy terms (map name_and_value h.fields) fields sender
    by true is = absurd (cc)
    by false (None, parsed, is) = absurd (cc)
    by false (Some h, parsed, is) = (h, parsed, by_request terms h.method h.target h.minor (map name_and_value h.fields) n fields sender is)

not_false : (b : Bool) → not b ≡ false → b ≡ true
not_false true h = refl
not_false false h = absurd (cc)

of_operator : (o : Option (List ℕ)) (by : List ℕ) → is_of_other (sender_of o) (Some by) ≡ false → o ≡ Some by
of_operator None by h = absurd (cc)
of_operator (Some operator) by h = ap Some (sym ((bytes_eq-Decides by operator).0 (not_false (bytes_eq by operator) h)))

pub executed_is_its_senders : (terms : Terms) (whole : List ℕ) (condition : Option ℕ) (e : Envelope) (name : List ℕ) → field_of terms ≡ Some name
    → TaskOf terms whole (Some (under condition (J.Command e)))
    → (n : ℕ) × (h : RequestHead) × (end_of_head whole ≡ end.Found n) × Parsed (take n whole) (Some h)
    × (operator_named name (map name_and_value h.fields) ≡ Some e.by)
executed_is_its_senders terms whole condition e name is task =
    let it = brings terms whole condition e task in
    let (h, parsed, (sent, post, made)) = by_head terms (take it.size whole) it.wanted it.fields it.sender it.step in
    let may = rw (sent, is) at it.executes.may in
    (it.size, h, it.found, parsed, of_operator (operator_named name (map name_and_value h.fields)) e.by may)

-- a body that says a command has fields that obey their rules
obeyed : (o : Option (Option ℕ)) (kind : Option BodyKind) (body : List ℕ) (e : Envelope) → body_says (fields_where o kind).content body ≡ J.Command e
    → o ≡ Some (fields_where o kind).condition
obeyed None kind body e h = absurd (cc)
obeyed (Some condition) None body e h = absurd (cc)
obeyed (Some condition) (Some kind) body e h = refl

by_fields : (post : Post) (fs : Fields) (fields : BodyFields) (body : List ℕ) (condition : Option ℕ) (e : Envelope) → fields ≡ body_fields_in post fs → fields.condition ≡ condition
    → body_says fields.content body ≡ J.Command e → condition_in fs ≡ Some condition
by_fields post fs fields body condition e made same says =
    obeyed (condition_in fs) (kind_in post fs) body e (rw made at says) ∙ ap Some (rw made at same)

pub executed_has_its_condition : (terms : Terms) (whole : List ℕ) (condition : Option ℕ) (e : Envelope) → TaskOf terms whole (Some (under condition (J.Command e)))
    → (n : ℕ) × (h : RequestHead) × (end_of_head whole ≡ end.Found n) × Parsed (take n whole) (Some h)
    × (condition_in (map name_and_value h.fields) ≡ Some condition)
executed_has_its_condition terms whole condition e task =
    let it = brings terms whole condition e task in
    let (h, parsed, (sent, post, made)) = by_head terms (take it.size whole) it.wanted it.fields it.sender it.step in
    (it.size, h, it.found, parsed, by_fields post (map name_and_value h.fields) it.fields it.body condition e made it.under_it it.executes.is)
