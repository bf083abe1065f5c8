-- Where a head ends, in a text and in what begins with it.
use Rattle.std.proofs.Common.{◌≡◌, ℕ, ◌+◌, ◌-◌, ◌<◌, ◌≤◌, ◌==◌, ◌&&◌, Bool, true, false, List, [], ◌∷◌, ◌++◌, length, get_or, take, drop, Option, Some, None, refl, sym, ap, ◌∙◌, arith, option_map, slice_index, nat_le, if◌then◌else◌, append-nil, length-append, take_all}
use Rattle.std.specs.Io.KnownBytes.{Consumes}
use Rattle.std.proofs.Math.Seq.{take-append-add}
use Rattle.std.proofs.lemmas.Bool.Decides.{nat_tests}
use Rattle.std.proofs.lemmas.List.{take-append-le, at_drop_more, drop_all}
use Rattle.plant_http_requests.specs.{end_of_head, end_where, head_length, blank_length, or_else, Agrees, FindsHead}
use Rattle.plant_http_requests.specs.declared.reading.HeadEnd.{HeadEnd}
use Rattle.plant_http_requests.specs.declared.reading.HeadEnd.TheVariants.{Found, TooLong, Early, Nothing}

-- ---- the search, one index after the other

search_step : (bytes : List ℕ) (i : ℕ) → i < length bytes
    → head_length (drop i bytes) ≡ or_else (blank_length (drop i bytes)) (option_map (λ n. n + 1) (head_length (drop (i + 1) bytes)))
unfolding head_length
search_step bytes i h = step (drop i bytes) (get_or bytes i 0) (drop (i + 1) bytes) (at_drop_more (λ l. l) bytes i 0 h)
  where
    step : (xs : List ℕ) (b : ℕ) (rest : List ℕ) → xs ≡ b ∷ rest → head_length xs ≡ or_else (blank_length xs) (option_map (λ n. n + 1) (head_length rest))
    step xs b rest e = rw e refl

pub found_here : (bytes : List ℕ) (i n : ℕ) → i < length bytes → blank_length (drop i bytes) ≡ Some n
    → option_map (λ x. i + x) (head_length (drop i bytes)) ≡ Some (i + n)
found_here bytes i n h e = ap (option_map (λ x. i + x)) (search_step bytes i h) ∙ rw e refl

pub found_later : (bytes : List ℕ) (i : ℕ) → i < length bytes → blank_length (drop i bytes) ≡ None
    → option_map (λ x. i + x) (head_length (drop i bytes)) ≡ option_map (λ x. i + 1 + x) (head_length (drop (i + 1) bytes))
found_later bytes i h e = ap (option_map (λ x. i + x)) (search_step bytes i h) ∙ rw e (one_more i (head_length (drop (i + 1) bytes)))
  where
    one_more : (i : ℕ) (p : Option ℕ) → option_map (λ x. i + x) (option_map (λ n. n + 1) p) ≡ option_map (λ x. i + 1 + x) p
    one_more i None = refl
    one_more i (Some n) = let e : i + (n + 1) ≡ i + 1 + n = omega arith in ap (λ (x : ℕ). Some x) e

pub found_nowhere : (bytes : List ℕ) (i : ℕ) → length bytes ≤ i → option_map (λ x. i + x) (head_length (drop i bytes)) ≡ None
unfolding head_length
found_nowhere bytes i h = rw (drop_all i bytes h) refl

-- ---- more bytes change nothing after the end of a head

length_of_one : (b : ℕ) → head_length (b ∷ []) ≡ None
unfolding head_length
length_of_one b = elim (b == 10) as (λ t. or_else (if t && false then Some 2 else (if t && false && false then Some 3 else None)) None ≡ None) [ true ↦ refl | false ↦ refl ]

two_tests : (p q r z : Bool) (o : Option ℕ) (n : ℕ) → or_else (if p && q then Some 2 else (if p && r && false then Some 3 else None)) None ≡ Some n
    → or_else (if p && q then Some 2 else (if p && r && z then Some 3 else None)) o ≡ Some n
two_tests true true r z o n e = e
two_tests true false true z o n e = absurd (cc)
two_tests true false false z o n e = absurd (cc)
two_tests false q r z o n e = absurd (cc)

two_bytes : (b c : ℕ) (ys : List ℕ) (n : ℕ) → head_length (b ∷ c ∷ []) ≡ Some n → head_length (b ∷ c ∷ ys) ≡ Some n
unfolding head_length
two_bytes b c ys n e =
    two_tests (b == 10) (c == 10) (c == 13) (slice_index ys 0 == 10) _ n (rw (ap (option_map (λ x. x + 1)) (length_of_one c)) at e)

pub same_head : (xs ys : List ℕ) (n : ℕ) → head_length xs ≡ Some n → head_length (xs ++ ys) ≡ Some n
unfolding head_length
same_head [] ys n e = absurd (cc)
same_head (b ∷ []) ys n e = absurd (let f = length_of_one b in cc)
same_head (b ∷ c ∷ []) ys n e = two_bytes b c ys n e
same_head (b ∷ c ∷ d ∷ rest) ys n e = step (blank_length (b ∷ c ∷ d ∷ rest)) n (head_length (c ∷ d ∷ rest)) _ (same_head (c ∷ d ∷ rest) ys) e
  where
    step : (o : Option ℕ) (n : ℕ) (p q : Option ℕ) → ((m : ℕ) → p ≡ Some m → q ≡ Some m) → or_else o (option_map (λ x. x + 1) p) ≡ Some n → or_else o (option_map (λ x. x + 1) q) ≡ Some n
    step (Some m) n p q more h = h
    step None n None q more h = absurd (cc)
    step None n (Some m) q more h = rw (more m refl) h

-- ---- what was found in the bytes that were read is so of the whole input

prefix_more : (bytes left : List ℕ) → length bytes ≤ 8192 → take 8192 (bytes ++ left) ≡ bytes ++ take (8192 - length bytes) left
prefix_more bytes left h =
    let sum : length bytes + (8192 - length bytes) ≡ 8192 = omega arith in
    rw sum at (take-append-add bytes left (8192 - length bytes))

pub known_end : (e : HeadEnd) (bytes left : List ℕ) → FindsHead e bytes (Some left) → e ≡ end_of_head (bytes ++ left)
unfolding end_of_head head_length
known_end (Found n) bytes left h =
    sym (ap (λ o. end_where o (bytes ++ left)) (ap head_length (prefix_more bytes left h.1) ∙ same_head bytes (take (8192 - length bytes) left) n h.0))
known_end TooLong bytes left h =
    let prefix : take 8192 (bytes ++ left) ≡ bytes = take-append-le 8192 bytes left (omega arith) ∙ take_all 8192 bytes (omega arith) in
    let sum = length-append bytes left in
    let size : nat_le 8192 (length (bytes ++ left)) ≡ true = grind (arith, nat_tests, sum) in
    sym (ap (λ o. end_where o (bytes ++ left)) (ap head_length prefix ∙ h.0) ∙ rw size refl)
known_end Early bytes left h =
    let whole : bytes ++ left ≡ bytes = rw h.3 (append-nil bytes) in
    let prefix : take 8192 bytes ≡ bytes = take_all 8192 bytes (omega arith) in
    let short : nat_le 8192 (length bytes) ≡ false = grind (arith, nat_tests) in
    let some : (length bytes == 0) ≡ false = grind (arith, nat_tests) in
    sym (ap end_of_head whole ∙ ap (λ o. end_where o bytes) (ap head_length prefix ∙ h.0) ∙ rw (short, some) refl)
known_end Nothing [] left h = rw h.1 refl
known_end Nothing (b ∷ bytes) left h = absurd (omega (arith, h.0))

-- what was found in the bytes is so of an input that ends with them
at_end : (e : HeadEnd) (bytes : List ℕ) (left : Option (List ℕ)) → FindsHead e bytes left → FindsHead e bytes (Some [])
at_end (Found n) bytes left h = h
at_end TooLong bytes left h = h
at_end Early bytes left h = (h.0, h.1, h.2, refl)
at_end Nothing bytes left h = (h.0, refl)

-- what was found in the bytes that were read is so of an input that begins with them
pub known_whole : (start left : Option (List ℕ)) (bytes : List ℕ) (e : HeadEnd) → Consumes start left bytes → FindsHead e bytes left
    → (whole : List ℕ) × Agrees start whole × (e ≡ end_of_head whole)
known_whole None left bytes e c h = (bytes, tt, known_end e bytes [] (at_end e bytes left h) ∙ ap end_of_head (append-nil bytes))
known_whole (Some whole) None bytes e c h = absurd c
known_whole (Some whole) (Some rest) bytes e c h = (whole, refl, known_end e bytes rest h ∙ sym (ap end_of_head c))
