-- Commands with references act once.
use Rattle.std.proofs.Common.{◌≡◌, ◌∙◌, ◌⊎◌, inl, inr, ℕ, Bool, true, false, cond, List, [], ◌∷◌, ◌++◌, Option, Some, None, refl, sym, ap, subst, find, not, IsSome, is_some, is_none, ◌||◌, nat_lt}
use Rattle.std.specs.List.{list_any}
use Rattle.std.proofs.lemmas.Bool.{false≢true}
use Rattle.plant_base.specs.{State, same, put, receipt_order, content_of, stamp_of, Envelope, Receipt, Refusal}
use Rattle.plant_view.proofs.ListLemmas.{found_put, found_same, same_itself, same_id, id_tie}
use Rattle.plant_base.specs.declared.refusal.Refusal.TheVariants.{BadForm, MomentBack}
use Rattle.plant_view.specs.{refuse}
use Rattle.plant_rules.specs.{is_well_formed_body, wrong, wrong_plain, wrong_there, kept_among, kept_for, decoded, step, step_body, step_plain, unless_refused, noted, taken}
use Rattle.plant_rules.proofs.ReceiptDecisions.{next_receipts, blind_step, blind_wrong}
use Rattle.plant_keeper.specs.{fold, Outcome, answered, stopped_before, stopped_after, Sending, after, state_after_sending, with_answer, answered_of, BeginsWith, IsResent, IsPersistent, accepted, is_same_reference, is_known, once_after, plain, but_receipts}
use Rattle.plant_keeper.specs.AppliedOnce.{AppliedOnce}
use Rattle.std.proofs.Math.Bool.{or_assoc, or-true, or-false}
use Rattle.plant_keeper.proofs.RunExtends.{fold_push}
use Rattle.plant_keeper.proofs.RefusedOrRepeated.{unless_same}

-- ---- a command whose reference is kept changes nothing

is_kept : State → Envelope → Bool
is_kept s e = is_some (kept_for s e)

kept_by : (s : State) (e : Envelope) (k : Option Receipt) → is_some k ≡ true → (w : Option Refusal) → unless_refused w s (taken k s e) ≡ s
kept_by s e None t w = absurd (false≢true t)
kept_by s e (Some r) t w = unless_same s w

stays : (s : State) (e : Envelope) → is_kept s e ≡ true → step s e ≡ s
unfolding step is_kept
stays s e t = kept_by s e (kept_for s e) t (wrong s e)

-- ---- one whose isn't does what it does without receipts

but_noted : (r : Option (List ℕ)) (c : List ℕ) (s : State) → but_receipts (noted r c s) ≡ but_receipts s
but_noted None c s = refl
but_noted (Some reference) c s = refl

but_unless : (w : Option Refusal) (s t u v : State) → but_receipts s ≡ but_receipts t → but_receipts u ≡ but_receipts v → but_receipts (unless_refused w s u) ≡ but_receipts (unless_refused w t v)
but_unless None s t u v p q = q
but_unless (Some r) s t u v p q = p

same_wrong : (s t : State) (e : Envelope) → but_receipts s ≡ but_receipts t → wrong_there s e ≡ wrong_there t e
same_wrong s t e p =
    (λ i. refuse (nat_lt e.at s.at) MomentBack (sym (blind_wrong s e.body []) i))
    ∙ (λ i. wrong_there (p i) e)
    ∙ (λ i. refuse (nat_lt e.at t.at) MomentBack (blind_wrong t e.body [] i))

same_next : (s t : State) (e : Envelope) → but_receipts s ≡ but_receipts t → but_receipts (step_body s (stamp_of e) e.body) ≡ but_receipts (step_body t (stamp_of e) e.body)
same_next s t e p =
    sym (blind_step s (stamp_of e) e.body [])
    ∙ (λ i. step_body (p i) (stamp_of e) e.body)
    ∙ blind_step t (stamp_of e) e.body []

acts_by : (s t : State) (e : Envelope) (k : Option Receipt) → is_some k ≡ false → but_receipts s ≡ but_receipts t
    → but_receipts (unless_refused (refuse (not (is_well_formed_body e.body)) BadForm (decoded k (content_of e) (wrong_there s e))) s (taken k s e)) ≡ but_receipts (unless_refused (refuse (not (is_well_formed_body e.body)) BadForm (wrong_there t e)) t (step_body t (stamp_of e) e.body))
acts_by s t e (Some r) f p = absurd (false≢true (sym f))
acts_by s t e None f p =
    let next = step_body s (stamp_of e) e.body in
    but_unless (refuse (not (is_well_formed_body e.body)) BadForm (wrong_there s e)) s t (noted e.reference (content_of e) (step_body s (stamp_of e) e.body)) (step_body t (stamp_of e) e.body) p (but_noted e.reference (content_of e) (step_body s (stamp_of e) e.body) ∙ same_next s t e p)
    ∙ (λ i. but_receipts (unless_refused (refuse (not (is_well_formed_body e.body)) BadForm (same_wrong s t e p i)) t (step_body t (stamp_of e) e.body)))

acts : (s t : State) (e : Envelope) → is_kept s e ≡ false → but_receipts s ≡ but_receipts t → but_receipts (step s e) ≡ but_receipts (step_plain t e)
unfolding step step_plain wrong wrong_plain is_kept
acts s t e f p = acts_by s t e (kept_for s e) f p

-- ---- a command that has a reference acts no second time

noted_kept : (e : Envelope) (s : State) (r : Option (List ℕ)) → IsSome r → is_some (kept_among (noted r (content_of e) s).receipts r) ≡ true
noted_kept e s None h = absurd (false≢true h)
noted_kept e s (Some id) h = found_put receipt_order (record { reference = id; seq = s.seq; content = content_of e }) (λ q. same q.reference id) s.receipts (same_itself id)

again_by : (s : State) (e : Envelope) → IsSome e.reference → (k : Option Receipt) (w : Option Refusal) → step s e ≡ unless_refused w s (taken k s e) → step (step s e) e ≡ step s e
unfolding is_kept
again_by s e r k (Some x) h = ap (λ t. step t e) h
again_by s e r (Some q) None h = ap (λ t. step t e) h
again_by s e r None None h =
    let known : is_kept (step s e) e ≡ true = ap (λ t. is_kept t e) h ∙ noted_kept e (step_body s (stamp_of e) e.body) e.reference r in
    stays (step s e) e known

step_is : (s : State) (e : Envelope) → step s e ≡ unless_refused (wrong s e) s (taken (kept_for s e) s e)
unfolding step
step_is s e = refl

again : (s : State) (e : Envelope) → IsSome e.reference → step (step s e) e ≡ step s e
again s e r = again_by s e r (kept_for s e) (wrong s e) (step_is s e)

-- ---- a reference is kept where it was, or where a command with it was accepted

or_true : (a b : Bool) → (b ≡ true → a ≡ true) → (a || b) ≡ a
or_true true b h = refl
or_true false true h = absurd (false≢true (h refl))
or_true false false h = refl

-- commands of one reference are known alike
shared : (rs : List Receipt) (p q : Option (List ℕ)) → is_same_reference p q ≡ true → is_some (kept_among rs q) ≡ true → is_some (kept_among rs p) ≡ true
shared rs None q h k = absurd (false≢true h)
shared rs (Some a) None h k = absurd (false≢true h)
shared rs (Some a) (Some b) h k = ap (λ i. is_some (kept_among rs (Some i))) (sym (same_id b a h)) ∙ k

put_kept : (r : Receipt) (rs : List Receipt) (a : List ℕ) (b : Bool) → same r.reference a ≡ b → is_some (find (λ q. same q.reference a) (put receipt_order r rs)) ≡ (is_some (find (λ q. same q.reference a) rs) || b)
put_kept r rs a true h = found_put receipt_order r (λ q. same q.reference a) rs h ∙ sym (or-true (is_some (find (λ q. same q.reference a) rs)))
put_kept r rs a false h = ap is_some (found_same receipt_order r (λ q. same q.reference a) rs h (λ q tie. ap (λ i. same i a) (sym (id_tie (λ (x : Receipt). x.reference) r q tie)) ∙ h)) ∙ sym (or-false (is_some (find (λ q. same q.reference a) rs)))

noted_more : (p q : Option (List ℕ)) (c : List ℕ) (s : State) → is_some (kept_among (noted q c s).receipts p) ≡ (is_some (kept_among s.receipts p) || is_same_reference p q)
noted_more None None c s = refl
noted_more None (Some b) c s = refl
noted_more (Some a) None c s = sym (or-false (is_some (kept_among s.receipts (Some a))))
noted_more (Some a) (Some b) c s = put_kept (record { reference = b; seq = s.seq; content = c }) s.receipts a (same b a) refl

-- after a step
kept_after_by : (s : State) (f e : Envelope) (k : Option Receipt) → kept_for s f ≡ k → (w : Option Refusal) (rest : Bool)
    → (is_some (kept_among (unless_refused w s (taken k s f)).receipts e.reference) || rest) ≡ (is_some (kept_for s e) || cond (is_none w) (is_same_reference e.reference f.reference || rest) rest)
kept_after_by s f e k is (Some r) rest = refl
kept_after_by s f e (Some q) is None rest =
    ap (λ b. b || rest) (sym (or_true (is_some (kept_for s e)) (is_same_reference e.reference f.reference) (λ h. shared s.receipts e.reference f.reference h (ap is_some is))))
    ∙ or_assoc (is_some (kept_for s e)) (is_same_reference e.reference f.reference) rest
kept_after_by s f e None is None rest =
    ap (λ b. b || rest) (noted_more e.reference f.reference (content_of f) (step_body s (stamp_of f) f.body) ∙ ap (λ rs. is_some (kept_among rs e.reference) || is_same_reference e.reference f.reference) (next_receipts s (stamp_of f) f.body))
    ∙ or_assoc (is_some (kept_for s e)) (is_same_reference e.reference f.reference) rest

any_if : (b : Bool) (test : Envelope → Bool) (f : Envelope) (fs : List Envelope) → list_any test (cond b (f ∷ fs) fs) ≡ cond b (test f || list_any test fs) (list_any test fs)
any_if true test f fs = refl
any_if false test f fs = refl

known_is : (before : List Envelope) (s : State) (e : Envelope) → is_kept (fold s before) e ≡ is_known s before e
unfolding is_kept
known_is [] s e = sym (or-false (is_some (kept_for s e)))
known_is (f ∷ fs) s e =
    known_is fs (step s f) e
    ∙ ap (λ t. is_some (kept_for t e) || list_any (λ g. is_same_reference e.reference g.reference) (accepted (step s f) fs)) (step_is s f)
    ∙ kept_after_by s f e (kept_for s f) refl (wrong s f) (list_any (λ g. is_same_reference e.reference g.reference) (accepted (step s f) fs))
    ∙ ap (λ b. is_some (kept_for s e) || b) (sym (any_if (is_none (wrong s f)) (λ g. is_same_reference e.reference g.reference) f (accepted (step s f) fs)))

-- ---- a sending leads where its answered commands lead

abbrev FirstIs : Envelope → List Envelope → Type 0
FirstIs e es = (rest : List Envelope) × (es ≡ e ∷ rest)

first_by : (e f : Envelope) (o : Outcome) (xs : Sending) → IsResent f o xs → f ≡ e → (BeginsWith e xs → FirstIs e (answered_of xs)) → FirstIs e (with_answer f o (answered_of xs))
first_by e f answered xs a same more = (answered_of xs, λ i. same i ∷ answered_of xs)
first_by e f stopped_before xs a same more = more (subst (λ g. BeginsWith g xs) same a.1)
first_by e f stopped_after xs a same more = more (subst (λ g. BeginsWith g xs) same a.1)

-- a command that is sent until it is answered is the first that is
first_answered : (e : Envelope) (xs : Sending) → IsPersistent xs → BeginsWith e xs → FirstIs e (answered_of xs)
first_answered e [] p b = absurd b
first_answered e (x ∷ xs) p b = first_by e x.0 x.1 xs p.0 b (first_answered e xs p.1)

twice_first : (s : State) (e : Envelope) (es : List Envelope) → IsSome e.reference → FirstIs e es → fold (step s e) es ≡ fold s es
twice_first s e es r f = ap (fold (step s e)) f.1 ∙ ap (λ t. fold t f.0) (again s e r) ∙ sym (ap (fold s) f.1)

attempts_by : (s : State) (e : Envelope) (o : Outcome) (xs : Sending) → IsResent e o xs → IsPersistent xs → ((t : State) → state_after_sending t xs ≡ fold t (answered_of xs))
    → state_after_sending (after s e o) xs ≡ fold s (with_answer e o (answered_of xs))
attempts_by s e answered xs a p more = more (step s e)
attempts_by s e stopped_before xs a p more = more s
attempts_by s e stopped_after xs a p more = more (step s e) ∙ twice_first s e (answered_of xs) a.0 (first_answered e xs p a.1)

attempts_are : (xs : Sending) → IsPersistent xs → (s : State) → state_after_sending s xs ≡ fold s (answered_of xs)
attempts_are [] p s = refl
attempts_are (x ∷ xs) p s = attempts_by s x.0 x.1 xs p.0 p.1 (attempts_are xs p.1)

-- ---- and they lead where those lead that aren't known

once_by : (s t v : State) (before : List Envelope) (e : Envelope) (es : List Envelope) → but_receipts t ≡ but_receipts v
    → ((w : State) → but_receipts (step t e) ≡ but_receipts w → but_receipts (fold (step t e) es) ≡ but_receipts (plain w (once_after s (before ++ e ∷ []) es)))
    → (b : Bool) → is_kept t e ≡ b → but_receipts (fold (step t e) es) ≡ but_receipts (plain v (cond b (once_after s (before ++ e ∷ []) es) (e ∷ once_after s (before ++ e ∷ []) es)))
once_by s t v before e es same more true k = more v (ap but_receipts (stays t e k) ∙ same)
once_by s t v before e es same more false k = more (step_plain v e) (acts t v e k same)

-- t is the state after the commands before
once_is : (es : List Envelope) (s t v : State) (before : List Envelope) → fold s before ≡ t → but_receipts t ≡ but_receipts v
    → but_receipts (fold t es) ≡ but_receipts (plain v (once_after s before es))
once_is [] s t v before at same = same
once_is (e ∷ es) s t v before at same =
    once_by s t v before e es same
    (λ w. once_is es s (step t e) w (before ++ e ∷ []) (fold_push s before e ∙ ap (λ u. step u e) at))
    (is_known s before e)
    (ap (λ u. is_kept u e) (sym at) ∙ known_is before s e)

pub applied_once : AppliedOnce
applied_once s xs p = ap but_receipts (attempts_are xs p s) ∙ once_is (answered_of xs) s s s [] refl refl

-- ---- a command that was kept changes nothing later either

kept_on : (s : State) (e f : Envelope) → is_kept s e ≡ true → is_kept (step s f) e ≡ true
unfolding is_kept
kept_on s e f k = known_is (f ∷ []) s e ∙ ap (λ b. b || list_any (λ g. is_same_reference e.reference g.reference) (accepted s (f ∷ []))) k

later : (a b : List Envelope) (s : State) (e : Envelope) → is_kept s e ≡ true → fold s (a ++ e ∷ b) ≡ fold s (a ++ b)
later [] b s e k = ap (λ t. fold t b) (stays s e k)
later (f ∷ a) b s e k = later a b (step s f) e (kept_on s e f k)

-- a command's second place in a list changes nothing
abbrev IsIdleLater : State → Envelope → Type 0
IsIdleLater s e = (a b : List Envelope) → fold s (a ++ e ∷ b) ≡ fold s (a ++ b)

acts_by_reference : (s : State) (e : Envelope) → IsSome e.reference → (k : Option Receipt) (w : Option Refusal) → step s e ≡ unless_refused w s (taken k s e) → (step s e ≡ s) ⊎ IsIdleLater (step s e) e
unfolding is_kept
acts_by_reference s e r k (Some x) h = inl h
acts_by_reference s e r (Some q) None h = inl h
acts_by_reference s e r None None h =
    let known : is_kept (step s e) e ≡ true = ap (λ t. is_kept t e) h ∙ noted_kept e (step_body s (stamp_of e) e.body) e.reference r in
    inr (λ a b. later a b (step s e) e known)

-- a command with a reference changes nothing, or changes nothing when it comes again, whatever came between
pub acts_at_one_place : (s : State) (e : Envelope) → IsSome e.reference → (step s e ≡ s) ⊎ ((a b : List Envelope) → fold (step s e) (a ++ e ∷ b) ≡ fold (step s e) (a ++ b))
acts_at_one_place s e r = acts_by_reference s e r (kept_for s e) (wrong s e) (step_is s e)

-- commands lead where those lead that aren't known when they come
pub taken_once : (s : State) (es : List Envelope) → but_receipts (fold s es) ≡ but_receipts (plain s (once_after s [] es))
taken_once s es = once_is es s s s [] refl refl
