-- The parts of a merge: that they name different sublots, and what was found of them.
use Rattle.std.proofs.Common.{◌≡◌, ◌∙◌, ℕ, ◌+◌, ◌≤◌, ◌<◌, true, false, List, [], ◌∷◌, ◌++◌, length, map, take, drop, get_or, Option, Some, None, is_some, is_none, refl, sym, ap, arith, ◌&&◌, nat_le}
use Rattle.std.specs.List.{AllByRecursion, list_all}
use Rattle.std.proofs.lemmas.List.{drop_more, take_more, map-append}
use Rattle.std.proofs.lemmas.Bool.{false≢true}
use Rattle.std.proofs.lemmas.Bool.Decides.{nat_tests}
use Rattle.plant_base.specs.{State, lot_at, place_at, is_same_sublot, has_sublot, are_apart, are_parts, Movement, Part, Place, Refusal}
use Rattle.plant_base.specs.declared.refusal.Refusal.TheVariants.{UnknownLot, UnknownSublot}
use Rattle.plant_view.proofs.ListLemmas.{found_passes, same_key, and_left, and_right, not_true, each_fails}
use Rattle.plant_stock.specs.{entered, left}
use Rattle.plant_view.specs.{refuse}
use Rattle.plant_rules.specs.{wrong_parts, text_of, found_of, wrong_part}
use Rattle.plant_rules.specs.declared.parts.FoundPart.{FoundPart}
use Rattle.plant_view.proofs.CommandsPreserveInvariant.{passed, is_there}

-- ---- parts of different sublots

-- two parts name different sublots
abbrev pub Apart : Part → Part → Type 0
Apart p q = is_same_sublot p q ≡ false

-- the parts name different sublots
abbrev pub AreApart : List Part → Type 0
AreApart [] = Unit {0}
AreApart (p ∷ ps) = AllByRecursion (Apart p) ps × AreApart ps

pub parts_apart : (ps : List Part) → are_apart ps ≡ true → AreApart ps
parts_apart [] e = tt
parts_apart (p ∷ ps) e = (each_fails (is_same_sublot p) ps (not_true _ (and_left _ _ e)), parts_apart ps (and_right _ _ e))

pub formed_apart : (ps : List Part) → are_parts ps ≡ true → AreApart ps
formed_apart ps e = parts_apart ps (and_right (nat_le 1 (length ps) && nat_le (length ps) 16 && list_all has_sublot ps) (are_apart ps) e)

-- the two bounds of their count
formed_count : (ps : List Part) → are_parts ps ≡ true → (nat_le 1 (length ps) && nat_le (length ps) 16) ≡ true
formed_count ps e =
    let first = nat_le 1 (length ps) && nat_le (length ps) 16 in
    and_left first (list_all has_sublot ps) (and_left (first && list_all has_sublot ps) (are_apart ps) e)

pub formed_some : (ps : List Part) → are_parts ps ≡ true → 1 ≤ length ps
formed_some ps e = let some : nat_le 1 (length ps) ≡ true = and_left (nat_le 1 (length ps)) (nat_le (length ps) 16) (formed_count ps e) in grind (arith, nat_tests)

pub formed_few : (ps : List Part) → are_parts ps ≡ true → length ps ≤ 16
formed_few ps e = let few : nat_le (length ps) 16 ≡ true = and_right (nat_le 1 (length ps)) (nat_le (length ps) 16) (formed_count ps e) in grind (arith, nat_tests)

-- ---- the rows of the parts

-- a part's sublot is there, and is as at the beginning
pub record IsReady (s : State) (ms : List Movement) (p : Part) : Type 0 where
  pub place : place_at s p.lot p.sub ≡ Some (record { lot = p.lot; number = p.sub; place = text_of (place_at s p.lot p.sub) })
  pub known : is_some (lot_at s p.lot) ≡ true
  pub entered_same : entered ms p.lot p.sub ≡ entered s.movements p.lot p.sub
  pub left_same : left ms p.lot p.sub ≡ left s.movements p.lot p.sub

-- what is found has the key that was asked for
place_itself : (s : State) (lot : List ℕ) (n : ℕ) (o : Option Place) → place_at s lot n ≡ o → is_some o ≡ true → place_at s lot n ≡ Some (record { lot = lot; number = n; place = text_of (place_at s lot n) })
place_itself s lot n None e there = absurd (false≢true there)
place_itself s lot n (Some p) e there =
    let keys = same_key p.lot lot p.number n (found_passes _ s.places p e) in
    e ∙ (λ i. Some (record { lot = keys.0 i; number = keys.1 i; place = text_of (sym e i) }))

-- parts that aren't refused are there
pub parts_ready : (s : State) (ps : List Part) → wrong_parts s ps None ≡ None → AllByRecursion (IsReady s s.movements) ps
parts_ready s [] e = tt
parts_ready s (p ∷ ps) e =
    let lot = passed (is_none (lot_at s p.lot)) UnknownLot (refuse (is_none (place_at s p.lot p.sub)) UnknownSublot (wrong_parts s ps None)) e in
    let sublot = passed (is_none (place_at s p.lot p.sub)) UnknownSublot (wrong_parts s ps None) lot.1 in (
      record {
        place = place_itself s p.lot p.sub (place_at s p.lot p.sub) refl (is_there _ sublot.0);
        known = is_there _ lot.0;
        entered_same = refl;
        left_same = refl;
      },
      parts_ready s ps sublot.1,
    )

-- where nothing is refused no part is
pub parts_there : (s : State) (ps : List Part) (rest : Option Refusal) → wrong_parts s ps rest ≡ None → wrong_parts s ps None ≡ None
parts_there s [] rest e = refl
parts_there s (p ∷ ps) rest e =
    let lot = passed (is_none (lot_at s p.lot)) UnknownLot (refuse (is_none (place_at s p.lot p.sub)) UnknownSublot (wrong_parts s ps rest)) e in
    let sublot = passed (is_none (place_at s p.lot p.sub)) UnknownSublot (wrong_parts s ps rest) lot.1 in
    ap (λ b. refuse b UnknownLot (refuse (is_none (place_at s p.lot p.sub)) UnknownSublot (wrong_parts s ps None))) lot.0
    ∙ ap (λ b. refuse b UnknownSublot (wrong_parts s ps None)) sublot.0
    ∙ parts_there s ps rest sublot.1

-- and what follows decides
pub parts_pass : (s : State) (ps : List Part) (rest : Option Refusal) → wrong_parts s ps None ≡ None → wrong_parts s ps rest ≡ rest
parts_pass s [] rest e = refl
parts_pass s (p ∷ ps) rest e =
    let lot = passed (is_none (lot_at s p.lot)) UnknownLot (refuse (is_none (place_at s p.lot p.sub)) UnknownSublot (wrong_parts s ps None)) e in
    let sublot = passed (is_none (place_at s p.lot p.sub)) UnknownSublot (wrong_parts s ps None) lot.1 in
    ap (λ b. refuse b UnknownLot (refuse (is_none (place_at s p.lot p.sub)) UnknownSublot (wrong_parts s ps rest))) lot.0
    ∙ ap (λ b. refuse b UnknownSublot (wrong_parts s ps rest)) sublot.0
    ∙ parts_pass s ps rest sublot.1

-- where some part isn't there, nothing that follows decides
pub parts_fail : (s : State) (ps : List Part) (rest : Option Refusal) (r : Refusal) → wrong_parts s ps None ≡ Some r → wrong_parts s ps rest ≡ Some r
parts_fail s [] rest r e = absurd cc
parts_fail s (p ∷ ps) rest r e = elim (is_none (lot_at s p.lot)) as (λ b. refuse b UnknownLot (refuse (is_none (place_at s p.lot p.sub)) UnknownSublot (wrong_parts s ps None)) ≡ Some r → refuse b UnknownLot (refuse (is_none (place_at s p.lot p.sub)) UnknownSublot (wrong_parts s ps rest)) ≡ Some r) [
  | true ↦ λ f. f
  | false ↦ elim (is_none (place_at s p.lot p.sub)) as (λ b. refuse b UnknownSublot (wrong_parts s ps None) ≡ Some r → refuse b UnknownSublot (wrong_parts s ps rest) ≡ Some r) [
    | true ↦ λ f. f
    | false ↦ λ f. parts_fail s ps rest r f
  ]
] e

-- ---- one part after the other

-- a part that is there, after those before it
pub next_part : (s : State) (ps : List Part) (i : ℕ) (p : Part) (found : List FoundPart) (f : FoundPart) → i < length ps → p ≡ get_or ps i p → ((rest : Option Refusal) → wrong_part s p rest ≡ rest) × (f ≡ found_of s p)
    → (wrong_parts s (drop i ps) None ≡ wrong_parts s ps None) × (found ≡ map (found_of s) (take i ps))
    → (wrong_parts s (drop (i + 1) ps) None ≡ wrong_parts s ps None) × (found ++ f ∷ [] ≡ map (found_of s) (take (i + 1) ps))
next_part s ps i p found f l at is h =
    let more : drop i ps ≡ p ∷ drop (i + 1) ps = drop_more ps i p l ∙ ap (λ q. q ∷ drop (i + 1) ps) (sym at) in
    let longer : take (i + 1) ps ≡ take i ps ++ p ∷ [] = take_more ps i p l ∙ ap (λ q. take i ps ++ q ∷ []) (sym at) in (
      sym (ap (λ qs. wrong_parts s qs None) more ∙ is.0 (wrong_parts s (drop (i + 1) ps) None)) ∙ h.0,
      (λ j. h.1 j ++ is.1 j ∷ []) ∙ sym (ap (map (found_of s)) longer ∙ map-append (found_of s) (take i ps) (p ∷ [])),
    )
