-- What is held of the coming line gives the same as the whole line.
use Rattle.std.proofs.Common.{◌≡◌, ℕ, ◌<◌, ◌≤◌, ◌+◌, ◌-◌, List, [], ◌∷◌, ◌++◌, length, map, take, get_or, Bool, true, false, nat_lt, nat_eq, cond, refl, sym, ap, ◌∙◌, ⊎_elim, arith, length-append, take_all, length-take, length-take-le}
use Rattle.std.proofs.lemmas.List.{map-append, take-append-le}
use Rattle.std.proofs.lemmas.Bool.{cases_lt}
use Rattle.std.proofs.lemmas.Bool.Decides.{nat_tests}
use Rattle.std.specs.Str.Lines.{strip_carriage_return}
use Rattle.plant_text.specs.{longest_line, ended_from, part_from, room, held_with, held_after, ended_after}

pub by_bool : (P : Bool → Type 0) → P true → P false → (b : Bool) → P b
by_bool P t f true = t
by_bool P t f false = f

-- ---- over bytes that come in two parts

pub held_after-append : (held xs ys : List ℕ) → held_after held (xs ++ ys) ≡ held_after (held_after held xs) ys
unfolding held_after
held_after-append held [] ys = refl
held_after-append held (b ∷ xs) ys =
    by_bool (λ v. cond v (held_after [] (xs ++ ys)) (held_after (held_with held b) (xs ++ ys)) ≡ held_after (cond v (held_after [] xs) (held_after (held_with held b) xs)) ys)
    (held_after-append [] xs ys) (held_after-append (held_with held b) xs ys) (nat_eq b 10)

ended_after-append : (held xs ys : List ℕ) → ended_after held (xs ++ ys) ≡ ended_after held xs ++ ended_after (held_after held xs) ys
unfolding held_after ended_after
ended_after-append held [] ys = refl
ended_after-append held (b ∷ xs) ys =
    by_bool (λ v. cond v (strip_carriage_return held ∷ ended_after [] (xs ++ ys)) (ended_after (held_with held b) (xs ++ ys))
    ≡ cond v (strip_carriage_return held ∷ ended_after [] xs) (ended_after (held_with held b) xs) ++ ended_after (cond v (held_after [] xs) (held_after (held_with held b) xs)) ys)
    (ap (λ ls. strip_carriage_return held ∷ ls) (ended_after-append [] xs ys)) (ended_after-append (held_with held b) xs ys) (nat_eq b 10)

-- what each line that ends gives
pub each-append : {A : Type 0} (f : List ℕ → A) (held xs ys : List ℕ) → map f (ended_after held (xs ++ ys)) ≡ map f (ended_after held xs) ++ map f (ended_after (held_after held xs) ys)
each-append f held xs ys = ap (map f) (ended_after-append held xs ys) ∙ map-append f (ended_after held xs) (ended_after (held_after held xs) ys)

-- what is held after more bytes
pub held_more : (first held now done piece all : List ℕ) → held ≡ held_after first done → now ≡ held_after held piece → all ≡ done ++ piece → now ≡ held_after first all
held_more first held now done piece all before here e = here ∙ ap (λ h. held_after h piece) before ∙ sym (held_after-append first done piece) ∙ ap (held_after first) (sym e)

-- ---- against the whole line

-- one more byte after the prefix that is held
hold_more : (n : ℕ) (p : List ℕ) (b : ℕ) → length p < n → cond (nat_lt (length (take n p)) n) (take n p ++ b ∷ []) (take n p) ≡ take n (p ++ b ∷ [])
hold_more n p b l =
    let all : take n p ≡ p = take_all n p (omega arith) in
    let more : take n (p ++ b ∷ []) ≡ p ++ b ∷ [] = take_all n (p ++ b ∷ []) (omega (arith, length-append p (b ∷ []))) in
    rw (all, more) (grind (arith, nat_tests))

hold_full : (n : ℕ) (p : List ℕ) (b : ℕ) → n ≤ length p → cond (nat_lt (length (take n p)) n) (take n p ++ b ∷ []) (take n p) ≡ take n (p ++ b ∷ [])
hold_full n p b l =
    let kept : take n (p ++ b ∷ []) ≡ take n p = take-append-le n p (b ∷ []) l in
    let full : length (take n p) ≡ n = length-take-le n p l in
    rw kept (grind (arith, nat_tests))

hold_prefix : (n : ℕ) (p : List ℕ) (b : ℕ) → cond (nat_lt (length (take n p)) n) (take n p ++ b ∷ []) (take n p) ≡ take n (p ++ b ∷ [])
hold_prefix n p b = ⊎_elim (hold_more n p b) (hold_full n p b) (cases_lt (length p) n)

length_strip : (l : List ℕ) → length l ≤ length (strip_carriage_return l) + 1
length_strip l = by_bool (λ v. length l ≤ length (cond v (take (length l - 1) l) l) + 1)
    (omega (arith, length-take (length l - 1) l)) (omega arith) (nat_eq (get_or l (length l - 1) 0) 13)

-- longer lines give the same
abbrev IsAlikeBeyond : {A : Type 0} → (List ℕ → A) → Type 0
IsAlikeBeyond f = (l m : List ℕ) → longest_line < length l → longest_line < length m → f l ≡ f m

ended_prefix : {A : Type 0} (f : List ℕ → A) → IsAlikeBeyond f → (p : List ℕ) → f (strip_carriage_return (take room p)) ≡ f (strip_carriage_return p)
ended_prefix f alike p = ⊎_elim
    (λ l. let len : length (take room p) ≡ room = length-take-le room p (omega arith) in
    alike _ _ (omega (arith, length_strip (take room p))) (omega (arith, length_strip p)))
    (λ l. ap (λ q. f (strip_carriage_return q)) (take_all room p l))
    (cases_lt room (length p))

last_prefix : {A : Type 0} (f : List ℕ → A) → IsAlikeBeyond f → (p : List ℕ) → f (take room p) ≡ f p
last_prefix f alike p = ⊎_elim
    (λ l. let len : length (take room p) ≡ room = length-take-le room p (omega arith) in
    alike _ _ (omega arith) (omega arith))
    (λ l. ap f (take_all room p l))
    (cases_lt room (length p))

pub held_after-prefix : (p bs : List ℕ) → held_after (take room p) bs ≡ take room (part_from p bs)
unfolding held_after
held_after-prefix p [] = refl
held_after-prefix p (b ∷ bs) =
    by_bool (λ v. cond v (held_after [] bs) (held_after (held_with (take room p) b) bs) ≡ take room (cond v (part_from [] bs) (part_from (p ++ b ∷ []) bs)))
    (held_after-prefix [] bs)
    (ap (λ h. held_after h bs) (hold_prefix room p b) ∙ held_after-prefix (p ++ b ∷ []) bs) (nat_eq b 10)

pub each-prefix : {A : Type 0} (f : List ℕ → A) → IsAlikeBeyond f → (p bs : List ℕ) → map f (ended_after (take room p) bs) ≡ map f (ended_from p bs)
unfolding ended_after
each-prefix f alike p [] = refl
each-prefix f alike p (b ∷ bs) =
    by_bool (λ v. map f (cond v (strip_carriage_return (take room p) ∷ ended_after [] bs) (ended_after (held_with (take room p) b) bs))
    ≡ map f (cond v (strip_carriage_return p ∷ ended_from [] bs) (ended_from (p ++ b ∷ []) bs)))
    (ap (λ e. e ∷ map f (ended_after [] bs)) (ended_prefix f alike p) ∙ ap (λ es. f (strip_carriage_return p) ∷ es) (each-prefix f alike [] bs))
    (ap (λ h. map f (ended_after h bs)) (hold_prefix room p b) ∙ each-prefix f alike (p ++ b ∷ []) bs) (nat_eq b 10)

-- the line that is held at the end of the bytes gives what the part after their last LF does
pub last_as_whole : {A : Type 0} (f : List ℕ → A) → IsAlikeBeyond f → (bytes held : List ℕ) → held ≡ held_after [] bytes → f held ≡ f (part_from [] bytes)
last_as_whole f alike bytes held e = ap f (e ∙ held_after-prefix [] bytes) ∙ last_prefix f alike (part_from [] bytes)

-- ---- one byte

pub held_after_lf : (held : List ℕ) (b : ℕ) → nat_eq b 10 ≡ true → held_after held (b ∷ []) ≡ []
unfolding held_after
held_after_lf held b t = rw t refl

pub held_after_byte : (held : List ℕ) (b : ℕ) → nat_eq b 10 ≡ false → held_after held (b ∷ []) ≡ held_with held b
unfolding held_after
held_after_byte held b f = rw f refl

pub each_lf : {A : Type 0} (f : List ℕ → A) (held : List ℕ) (b : ℕ) → nat_eq b 10 ≡ true → map f (ended_after held (b ∷ [])) ≡ f (strip_carriage_return held) ∷ []
unfolding ended_after
each_lf f held b t = rw t refl

pub each_byte : {A : Type 0} (f : List ℕ → A) (held : List ℕ) (b : ℕ) → nat_eq b 10 ≡ false → map f (ended_after held (b ∷ [])) ≡ []
unfolding ended_after
each_byte f held b e = rw e refl

pub held_after_none : (held : List ℕ) → held_after held [] ≡ held
unfolding held_after
held_after_none held = refl

pub each_none : {A : Type 0} (f : List ℕ → A) (held : List ℕ) → map f (ended_after held []) ≡ []
unfolding ended_after
each_none f held = refl
