-- How amounts get their rows, one after the other.
use Rattle.std.proofs.Common.{◌≡◌, ◌∙◌, ◌+◌, ◌<◌, ◌≤◌, ◌⊎◌, ℕ, Bool, true, false, cond, List, [], ◌∷◌, ◌++◌, length, get_or, map, Some, Result, Ok, Err, IfOk, refl, sym, ap, subst, inl, inr, arith, All, is_eq, AllPairs, BTreeSet}
use Rattle.std.specs.BTreeSet as sets
use Rattle.std.specs.BTreeSet.{contains}
use Rattle.std.proofs.lemmas.Bool.{false≢true, cases_lt}
use Rattle.std.proofs.lemmas.List.{map-append}
use Rattle.std.proofs.lemmas.List.Elements.{All-nil, All-cons, All-head, All-tail, All-push, All-weaker}
use Rattle.std.proofs.lemmas.List.Quantifiers.{all_pairs_push}
use Rattle.genealogy_svg.specs.{Picture}
use Rattle.genealogy_svg.specs.declared.drawing.BoxPosition.{BoxPosition}
use Rattle.genealogy_svg.specs.declared.drawing.DrawnEdge.{DrawnEdge}
use Rattle.genealogy_svg.specs.{position_cmp, AreApart, HasRow, HaveRows, IsSmall, in_row, without_row}

pub is_small_or_not : (p : Picture) → IsSmall p ⊎ (IsSmall p → ⊥)
is_small_or_not p = by_size (length p.lots + length p.batches) (cases_lt (length p.lots + length p.batches) 81) where
  by_size : (n : ℕ) → (n < 81) ⊎ (81 ≤ n) → (n ≤ 80) ⊎ (n ≤ 80 → ⊥)
  by_size n (inl h) = inl (omega (arith, h))
  by_size n (inr h) = inr (λ k. omega (arith, h, k))

pub on_ok : {A E : Type 0} (P Q : A → Type 0) (r : Result A E) → ((a : A) → P a → Q a) → IfOk r P → IfOk r Q
on_ok P Q (Ok a) f h = f a h
on_ok P Q (Err e) f h = tt

pub All-from_map : {X Y : Type 0} (P : Y → Type 0) (f : X → Y) (xs : List X) → All P (map f xs) → All (λ x. P (f x)) xs
All-from_map P f [] h = All-nil (λ x. P (f x))
All-from_map P f (x ∷ xs) h = All-cons (λ y. P (f y)) x xs (All-head P (f x) (map f xs) h) (All-from_map P f xs (All-tail P (f x) (map f xs) h))

-- the amount of the edge is in a row, which is taken in the column where the edge ends
abbrev pub IsTaken : BTreeSet BoxPosition → DrawnEdge → Type 0
IsTaken taken e = (row : ℕ) × (e.row ≡ Some row) × (contains position_cmp taken (record { layer = e.to.layer; slot = row }) ≡ true)

-- these edges have their rows, and these rows are taken
pub record Rowing (edges : List DrawnEdge) (taken : BTreeSet BoxPosition) (placed : List DrawnEdge) : Type 0 where
  pub same : map without_row placed ≡ map without_row edges
  pub noted : All (IsTaken taken) placed
  pub apart : AllPairs AreApart placed

pub have_rows : (edges : List DrawnEdge) (taken : BTreeSet BoxPosition) (placed : List DrawnEdge) → Rowing edges taken placed → HaveRows edges placed
have_rows edges taken placed rowing = record {
  same = rowing.same;
  each = All-weaker (IsTaken taken) HasRow (λ e h. (h.0, h.1)) placed rowing.noted;
  apart = rowing.apart;
}

cond_true : (b c : Bool) → c ≡ true → cond b true c ≡ true
cond_true true c h = refl
cond_true false c h = h

some_exact : (m n : ℕ) → Some m ≡ Some n → m ≡ n
some_exact m n e = cc

module _ (edges placed : List DrawnEdge) (taken taken' : BTreeSet BoxPosition) (e : DrawnEdge) (p : BoxPosition)
    (take : sets.Updates position_cmp taken taken' p true) (free : contains position_cmp taken p ≡ false) (layer : p.layer ≡ e.to.layer) (was : Rowing edges taken placed) where
  still : (x : DrawnEdge) → IsTaken taken x → IsTaken taken' x
  still x (row, has, is) =
      let q : BoxPosition = record { layer = x.to.layer; slot = row } in
      (row, has, take.0 q ∙ cond_true (is_eq (position_cmp p q)) (contains position_cmp taken q) is)

  here : IsTaken taken' (in_row e p.slot)
  here =
      let P : ℕ → Type 0 = λ l. contains position_cmp taken' (record { layer = l; slot = p.slot }) ≡ true in
      let now : P p.layer = take.1 in
      (p.slot, refl, subst P layer now)

  -- a row that is taken isn't the free one
  other : (x : DrawnEdge) → IsTaken taken x → AreApart x (in_row e p.slot)
  other x (row, has, is) column same =
      let is_row : row ≡ p.slot = some_exact row p.slot (sym has ∙ same) in
      let is_layer : x.to.layer ≡ p.layer = column ∙ sym layer in
      let P : ℕ → Type 0 = λ l. contains position_cmp taken (record { layer = l; slot = row }) ≡ true in
      let Q : ℕ → Type 0 = λ s. contains position_cmp taken (record { layer = p.layer; slot = s }) ≡ true in
      let at : P p.layer = subst P is_layer is in
      let now : Q p.slot = subst Q is_row at in
      false≢true (sym free ∙ now)

  -- one more edge has its row
  pub rowing_more : Rowing (edges ++ e ∷ []) taken' (placed ++ in_row e p.slot ∷ [])
  rowing_more = record {
    same = map-append without_row placed (in_row e p.slot ∷ []) ∙ (ap (λ l. l ++ without_row e ∷ []) was.same ∙ sym (map-append without_row edges (e ∷ [])));
    noted = All-push (IsTaken taken') placed (in_row e p.slot) (All-weaker (IsTaken taken) (IsTaken taken') still placed was.noted) here;
    apart = all_pairs_push AreApart placed (in_row e p.slot) was.apart (λ k d h. other (get_or placed k d) (was.noted k d h));
  }
