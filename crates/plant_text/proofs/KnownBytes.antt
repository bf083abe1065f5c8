-- Known bytes over several writes and reads.
use Rattle.std.proofs.Common.{◌≡◌, ℕ, List, [], ◌++◌, Option, Some, None, refl, sym, ap, ◌∙◌, append_assoc, take, drop, subst, take-append-drop, ◌<◌, length, length-append, arith, append-nil}
use Rattle.std.specs.Io.KnownBytes.{Appends, Consumes, Keeps}
use Rattle.plant_text.specs.{AppendsPrefix}

pub Appends-nil : (a : Option (List ℕ)) → Appends a a []
Appends-nil None = tt
Appends-nil (Some xs) = simp append-nil

pub Appends-append : (a b c : Option (List ℕ)) (xs ys : List ℕ) → Appends a b xs → Appends b c ys → Appends a c (xs ++ ys)
Appends-append None b c xs ys p q = tt
Appends-append (Some us) None c xs ys p q = absurd p
Appends-append (Some us) (Some vs) None xs ys p q = absurd q
Appends-append (Some us) (Some vs) (Some ws) xs ys p q = q ∙ ap (λ zs. zs ++ ys) p ∙ append_assoc us xs ys

pub Consumes-nil : (a : Option (List ℕ)) → Consumes a a []
Consumes-nil None = tt
Consumes-nil (Some xs) = refl

pub Consumes-append : (a b c : Option (List ℕ)) (xs ys : List ℕ) → Consumes a b xs → Consumes b c ys → Consumes a c (xs ++ ys)
Consumes-append None b c xs ys p q = tt
Consumes-append (Some us) None c xs ys p q = absurd p
Consumes-append (Some us) (Some vs) None xs ys p q = absurd q
Consumes-append (Some us) (Some vs) (Some ws) xs ys p q = p ∙ ap (λ zs. xs ++ zs) q ∙ sym (append_assoc xs ys ws)

pub prefix_first : (a b : Option (List ℕ)) (xs ys : List ℕ) → AppendsPrefix a b xs → AppendsPrefix a b (xs ++ ys)
prefix_first a b xs ys p =
    let some : 0 < length p.1 = p.3 in
    (p.0, p.1 ++ ys, ap (λ zs. zs ++ ys) p.2 ∙ append_assoc p.0 p.1 ys, omega (arith, length-append p.1 ys), p.4)

pub prefix_second : (a b c : Option (List ℕ)) (xs ys : List ℕ) → Appends a b xs → AppendsPrefix b c ys → AppendsPrefix a c (xs ++ ys)
prefix_second a b c xs ys p q = (xs ++ q.0, q.1, ap (λ zs. xs ++ zs) q.2 ∙ sym (append_assoc xs q.0 q.1), q.3, Appends-append a b c xs q.0 p q.4)

-- n more bytes were written of what was left
pub wrote_more : (a b c : Option (List ℕ)) (text done rest : List ℕ) (n : ℕ) → text ≡ done ++ rest → Appends a b done → Appends b c (take n rest)
    → (x : List ℕ) × (text ≡ x ++ drop n rest) × Appends a c x
wrote_more a b c text done rest n e p q = (
  done ++ take n rest,
  e ∙ ap (λ zs. done ++ zs) (sym (take-append-drop n rest)) ∙ sym (append_assoc done (take n rest) (drop n rest)),
  Appends-append a b c done (take n rest) p q,
)

pub Consumes-keeps : (a b c : Option (List ℕ)) (xs : List ℕ) → Consumes a b xs → Keeps b c → Consumes a c xs
Consumes-keeps None b c xs p q = tt
Consumes-keeps (Some us) None c xs p q = absurd p
Consumes-keeps (Some us) (Some vs) None xs p q = absurd q
Consumes-keeps (Some us) (Some vs) (Some ws) xs p q = p ∙ ap (λ zs. xs ++ zs) (sym q)

-- a read of no byte
pub Consumes-none : (a b c : Option (List ℕ)) (xs buf : List ℕ) (n : ℕ) → n ≡ 0 → Consumes a b xs → Consumes b c (take n buf) → Consumes a c xs
Consumes-none a b c xs buf n e p q =
    subst (λ (zs : List ℕ). Consumes a c zs) (append-nil xs) (Consumes-append a b c xs [] p (subst (λ (m : ℕ). Consumes b c (take m buf)) e q))
