-- What is judged of a command that a body says.
use Rattle.std.proofs.Common.{◌≡◌, ◌⊎◌, inl, inr, ℕ, Bool, true, false, List, Option, Some, None, refl, subst, ap, ◌∙◌, ◌↔◌}
use Rattle.std.specs.Prelude.{if◌then◌else◌}
use Rattle.plant_base.specs.{Envelope}
use Rattle.plant_json_in.specs.{ToCheck}
use Rattle.plant_json_in.specs.declared.checks.ToCheck.TheVariants as to_check
use Rattle.plant_text.specs.{line_of, text_checked}
use Rattle.plant_http_requests.specs.{ahead_or, body_task, body_says, in_time, is_of_body, is_of_other, lacks_needed, moment_of, of_sender, operator_of, overrun, Reads, referred, Sender, with_given, with_reference, command_task}
use Rattle.plant_http_requests.specs.declared.task.BodyKind.TheVariants as content
use Rattle.plant_http_requests.specs.declared.task.RequestTask.{RequestTask}
use Rattle.plant_http_requests.specs.declared.task.RequestTask.TheVariants as J
use Rattle.plant_http_requests.specs.declared.profile.Terms.{Terms}
use Rattle.plant_http_requests.proofs.InputDeterminesTask.{alike}

-- ---- what was read is judged as what the body says, want of memory aside

-- a task that was read is the one that the body says, or memory was refused
read_as : (task said : RequestTask) → Reads task said → ((task ≡ J.MemoryError) × (is_of_body said ≡ true)) ⊎ ((task ≡ said) × Reads said said)
read_as J.MemoryError said h = inl (refl, h)
read_as (J.Decided decision) said h = inr (h, subst (λ (s : RequestTask). Reads s s) h refl)
read_as (J.Command e) said h = inr (h, subst (λ (s : RequestTask). Reads s s) h refl)
read_as (J.Check c) said h = inr (h, subst (λ (s : RequestTask). Reads s s) h refl)
read_as J.OtherOperator said h = inr (h, subst (λ (s : RequestTask). Reads s s) h refl)
read_as J.NoReference said h = inr (h, subst (λ (s : RequestTask). Reads s s) h refl)
read_as (J.Ahead most) said h = inr (h, subst (λ (s : RequestTask). Reads s s) h refl)
read_as J.BadForm said h = inr (h, subst (λ (s : RequestTask). Reads s s) h refl)
read_as (J.BadFile f) said h = inr (h, subst (λ (s : RequestTask). Reads s s) h refl)

-- a command that is given a reference is a command still
referred_of_body : (given : Option (List ℕ)) (task : RequestTask) → is_of_body task ≡ true → is_of_body (referred given task) ≡ true
referred_of_body given (J.Decided decision) h = h
referred_of_body given (J.Command e) h = refl
referred_of_body given (J.Check (to_check.Command e)) h = refl
referred_of_body given (J.Check (to_check.BadForm p)) h = refl
referred_of_body given J.OtherOperator h = refl
referred_of_body given J.NoReference h = refl
referred_of_body given (J.Ahead most) h = refl
referred_of_body given J.BadForm h = refl
referred_of_body given (J.BadFile f) h = refl
referred_of_body given J.MemoryError h = h

referred_itself : (given : Option (List ℕ)) (task : RequestTask) → Reads task task → Reads (referred given task) (referred given task)
referred_itself given (J.Decided decision) h = refl
referred_itself given (J.Command e) h = refl
referred_itself given (J.Check (to_check.Command e)) h = refl
referred_itself given (J.Check (to_check.BadForm p)) h = refl
referred_itself given J.OtherOperator h = refl
referred_itself given J.NoReference h = refl
referred_itself given (J.Ahead most) h = refl
referred_itself given J.BadForm h = refl
referred_itself given (J.BadFile f) h = refl
referred_itself given J.MemoryError h = h

pub referred_reads : (given : Option (List ℕ)) (task said : RequestTask) → Reads task said → Reads (referred given task) (referred given said)
referred_reads given task said h = by (read_as task said h)
  where
    by : ((task ≡ J.MemoryError) × (is_of_body said ≡ true)) ⊎ ((task ≡ said) × Reads said said) → Reads (referred given task) (referred given said)
    by (inl (is, body)) = rw is (referred_of_body given said body)
    by (inr (is, same)) = rw is (referred_itself given said same)

-- a task that is judged is what it was, or is refused
judged_of_body : (b : Bool) (refusal task : RequestTask) → is_of_body refusal ≡ true → is_of_body task ≡ true → is_of_body (if b then refusal else task) ≡ true
judged_of_body true refusal task r h = r
judged_of_body false refusal task r h = h

judged_itself : (b : Bool) (refusal task : RequestTask) → Reads refusal refusal → Reads task task → Reads (if b then refusal else task) (if b then refusal else task)
judged_itself true refusal task r h = r
judged_itself false refusal task r h = h

sender_reads : (sender : Sender) (task said : RequestTask) → Reads task said → Reads (of_sender sender task) (of_sender sender said)
sender_reads sender task said h = by (read_as task said h)
  where
    by : ((task ≡ J.MemoryError) × (is_of_body said ≡ true)) ⊎ ((task ≡ said) × Reads said said) → Reads (of_sender sender task) (of_sender sender said)
    by (inl (is, body)) = rw is (judged_of_body (is_of_other sender (operator_of said)) J.OtherOperator said refl body)
    by (inr (is, same)) = rw is (judged_itself (is_of_other sender (operator_of said)) J.OtherOperator said refl same)

reference_reads : (needed : Bool) (task said : RequestTask) → Reads task said → Reads (with_reference needed task) (with_reference needed said)
reference_reads false task said h = h
reference_reads true task said h = by (read_as task said h)
  where
    by : ((task ≡ J.MemoryError) × (is_of_body said ≡ true)) ⊎ ((task ≡ said) × Reads said said) → Reads (with_reference true task) (with_reference true said)
    by (inl (is, body)) = rw is (judged_of_body (lacks_needed true said) J.NoReference said refl body)
    by (inr (is, same)) = rw is (judged_itself (lacks_needed true said) J.NoReference said refl same)

ahead_of_body : (o : Option ℕ) (task : RequestTask) → is_of_body task ≡ true → is_of_body (ahead_or o task) ≡ true
ahead_of_body None task h = h
ahead_of_body (Some most) task h = refl

ahead_itself : (o : Option ℕ) (task : RequestTask) → Reads task task → Reads (ahead_or o task) (ahead_or o task)
ahead_itself None task h = h
ahead_itself (Some most) task h = refl

in_time_reads : (terms : Terms) (task said : RequestTask) → Reads task said → Reads (in_time terms task) (in_time terms said)
in_time_reads terms task said h = by (read_as task said h)
  where
    by : ((task ≡ J.MemoryError) × (is_of_body said ≡ true)) ⊎ ((task ≡ said) × Reads said said) → Reads (in_time terms task) (in_time terms said)
    by (inl (is, body)) = rw is (ahead_of_body (overrun (moment_of said) terms.now.time terms.most_ahead) said body)
    by (inr (is, same)) = rw is (ahead_itself (overrun (moment_of said) terms.now.time terms.most_ahead) said same)

pub judged_reads : (terms : Terms) (sender : Sender) (task said : RequestTask) → Reads task said
    → Reads (in_time terms (with_reference terms.needs_references (of_sender sender task))) (in_time terms (with_reference terms.needs_references (of_sender sender said)))
judged_reads terms sender task said h =
    in_time_reads terms _ _ (reference_reads terms.needs_references _ _ (sender_reads sender task said h))

-- ---- a command that is executed was refused by nothing

passed : (b : Bool) (refusal task wanted : RequestTask) → (refusal ≡ wanted → ⊥) → (if b then refusal else task) ≡ wanted → (task ≡ wanted) × (b ≡ false)
passed true refusal task wanted other h = absurd (other h)
passed false refusal task wanted other h = (h, refl)

not_ahead : (o : Option ℕ) (task wanted : RequestTask) → ((most : ℕ) → J.Ahead most ≡ wanted → ⊥) → ahead_or o task ≡ wanted → (task ≡ wanted) × (o ≡ None)
not_ahead None task wanted other h = (h, refl)
not_ahead (Some most) task wanted other h = absurd (other most h)

-- what is executed, of which operator, with which reference and when
pub record Executes (terms : Terms) (sender : Sender) (said : RequestTask) (e : Envelope) : Type 0 where
  pub is : said ≡ J.Command e
  pub may : is_of_other sender (Some e.by) ≡ false
  pub has : lacks_needed terms.needs_references (J.Command e) ≡ false
  pub timely : overrun (Some e.at) terms.now.time terms.most_ahead ≡ None

pub executed : (terms : Terms) (sender : Sender) (said : RequestTask) (e : Envelope)
    → in_time terms (with_reference terms.needs_references (of_sender sender said)) ≡ J.Command e → Executes terms sender said e
executed terms sender said e h =
    let (referenced, timely) = not_ahead (overrun (moment_of (with_reference terms.needs_references (of_sender sender said))) terms.now.time terms.most_ahead) (with_reference terms.needs_references (of_sender sender said)) (J.Command e) (λ most other. cc) h in
    let (sent, has) = passed (lacks_needed terms.needs_references (of_sender sender said)) J.NoReference (of_sender sender said) (J.Command e) (λ other. cc) referenced in
    let (is, may) = passed (is_of_other sender (operator_of said)) J.OtherOperator said (J.Command e) (λ other. cc) sent in
    record {
      is = is;
      may = rw is at may;
      has = rw sent at has;
      timely = rw referenced at timely;
    }

-- ---- a body is checked as it is executed, under the same reference of its head

-- the command that has become this one by its reference
command_referred : (given : Option (List ℕ)) (task : RequestTask) (e : Envelope) → referred given task ≡ J.Command e
    → (own : Envelope) × (task ≡ J.Command own) × (with_given given own ≡ e)
command_referred given (J.Command own) e h = (own, refl, cc)
command_referred given (J.Check (to_check.Command c)) e h = absurd (cc)
command_referred given (J.Check (to_check.BadForm p)) e h = absurd (cc)
command_referred given (J.Decided decision) e h = absurd (cc)
command_referred given J.OtherOperator e h = absurd (cc)
command_referred given J.NoReference e h = absurd (cc)
command_referred given (J.Ahead most) e h = absurd (cc)
command_referred given J.BadForm e h = absurd (cc)
command_referred given (J.BadFile f) e h = absurd (cc)
command_referred given J.MemoryError e h = absurd (cc)

check_referred : (given : Option (List ℕ)) (c : ToCheck) (e : Envelope) → referred given (J.Check c) ≡ J.Check (to_check.Command e)
    → (own : Envelope) × (J.Check c ≡ J.Check (to_check.Command own)) × (with_given given own ≡ e)
check_referred given (to_check.Command own) e h = (own, refl, cc)
check_referred given (to_check.BadForm p) e h = absurd (cc)

alike_referred : (given : Option (List ℕ)) (body : List ℕ) (e : Envelope)
    → (body_says (content.Command given) body ≡ J.Command e) ↔ (body_says (content.Check given) body ≡ J.Check (to_check.Command e))
alike_referred given body e = (
  λ h.
      let (own, is, so) = command_referred given (command_task (line_of body)) e h in
      ap (referred given) ((alike body own).0 is) ∙ ap (λ c. J.Check (to_check.Command c)) so,
  λ h.
      let (own, is, so) = check_referred given (text_checked body) e h in
      ap (referred given) ((alike body own).1 is) ∙ ap J.Command so,
)

check_needs_none : (needed : Bool) (c : RequestTask) → lacks_needed true c ≡ false → with_reference needed c ≡ c
check_needs_none true c h = rw h refl
check_needs_none false c h = refl

-- what is checked, of which operator and when
checked : (terms : Terms) (sender : Sender) (said : RequestTask) (e : Envelope)
    → in_time terms (with_reference terms.needs_references (of_sender sender said)) ≡ J.Check (to_check.Command e)
    → (said ≡ J.Check (to_check.Command e)) × (is_of_other sender (Some e.by) ≡ false) × (overrun (Some e.at) terms.now.time terms.most_ahead ≡ None)
checked terms sender said e h =
    let (referenced, timely) = not_ahead (overrun (moment_of (with_reference terms.needs_references (of_sender sender said))) terms.now.time terms.most_ahead) (with_reference terms.needs_references (of_sender sender said)) (J.Check (to_check.Command e)) (λ most other. cc) h in
    let (sent, has) = passed (lacks_needed terms.needs_references (of_sender sender said)) J.NoReference (of_sender sender said) (J.Check (to_check.Command e)) (λ other. cc) referenced in
    let (is, may) = passed (is_of_other sender (operator_of said)) J.OtherOperator said (J.Check (to_check.Command e)) (λ other. cc) sent in
    (is, rw is at may, rw referenced at timely)

pub checked_as_executed : (terms : Terms) (sender : Sender) (given : Option (List ℕ)) (body : List ℕ) (e : Envelope)
    → (body_task terms sender (content.Command given) body ≡ J.Command e)
    ↔ ((body_task terms sender (content.Check given) body ≡ J.Check (to_check.Command e)) × (lacks_needed terms.needs_references (J.Command e) ≡ false))
checked_as_executed terms sender given body e = (
  λ h.
      let it = executed terms sender (body_says (content.Command given) body) e h in
      (rw ((alike_referred given body e).0 it.is, it.may, check_needs_none terms.needs_references (J.Check (to_check.Command e)) refl, it.timely) refl, it.has),
  λ (h, has).
      let (is, may, timely) = checked terms sender (body_says (content.Check given) body) e h in
      rw ((alike_referred given body e).1 is, may, has, timely) refl,
)
