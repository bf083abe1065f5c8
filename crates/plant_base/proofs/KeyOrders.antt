-- Keys: their orders and their tests.
use Rattle.std.proofs.Common.{◌≡◌, ◌∙◌, ℕ, true, false, List, is_some, find, sym, refl, ap, ◌==◌, ◌&&◌, nat_cmp, is_eq, eqb-true, eq-eqb, Equal}
use Rattle.std.specs.Cmp.{IsTotalOrder, both_tied, unsigned_ties}
use Rattle.std.specs.Cmp.Lexicographic.{slice_cmp, texts_ties, same_text}
use Rattle.std.proofs.lemmas.Cmp.{then_total, on_total, nat_list_cmp_total, nat_cmp_total, nat_list_eq_equiv, eq_by_cmp_equiv}
use Rattle.std.proofs.lemmas.Bool.{false≢true}
use Rattle.plant_base.specs.{same, put, id_cmp, place_order, lot_order}
use Rattle.plant_base.proofs.PutKeepsOrder.{found_still}
use Rattle.plant_base.specs.declared.rows.Place.{Place}
use Rattle.plant_base.specs.declared.rows.Lot.{Lot}

pub same_id : (a b : List ℕ) → same a b ≡ true → a ≡ b
same_id a b e = same_text a b (sym e)

pub same_key : (a b : List ℕ) (m n : ℕ) → (same a b && m == n) ≡ true → (a ≡ b) × (m ≡ n)
same_key a b m n e = elim (same a b) as (λ x. same a b ≡ x → (x && m == n) ≡ true → (a ≡ b) × (m ≡ n)) [
  | true ↦ λ t f. (same_id a b t, eqb-true m n f)
  | false ↦ λ t f. absurd (false≢true f)
] refl e

pub same_itself : (a : List ℕ) → same a a ≡ true
same_itself a = nat_list_eq_equiv.refl a

pub key_itself : (a : List ℕ) (n : ℕ) → (same a a && n == n) ≡ true
key_itself a n = ap (λ b. b && n == n) (same_itself a) ∙ eq-eqb n n refl

pub place_order_total : IsTotalOrder place_order
place_order_total = then_total (on_total (λ p. p.lot) nat_list_cmp_total) (on_total (λ p. p.number) nat_cmp_total)

-- the test of two keys is their order's tie
pub same_key_tie : (p q : Place) → (same p.lot q.lot && p.number == q.number) ≡ is_eq (place_order p q)
same_key_tie p q = both_tied _ _ (slice_cmp nat_cmp p.lot q.lot) (nat_cmp p.number q.number) (texts_ties p.lot q.lot) (unsigned_ties p.number q.number)

-- and so is the test that a lookup makes
pub test_tie : (p q : Place) → (same q.lot p.lot && q.number == p.number) ≡ is_eq (place_order p q)
test_tie p q = same_key_tie q p ∙ (eq_by_cmp_equiv place_order_total).symm q p

pub lot_order_total : IsTotalOrder lot_order
lot_order_total = on_total (λ r. r.id) nat_list_cmp_total

-- lots of one key have one id
pub lot_tie : (a b : Lot) → lot_order a b ≡ Equal → a.id ≡ b.id
lot_tie a b e = same_id a.id b.id (texts_ties a.id b.id ∙ ap is_eq e)

pub place_tie : (p q : Place) → place_order p q ≡ Equal → (p.lot ≡ q.lot) × (p.number ≡ q.number)
place_tie p q e = same_key p.lot q.lot p.number q.number (same_key_tie p q ∙ ap is_eq e)

-- ---- rows whose key is one id

module _ {R : Type 0} (id : R → List ℕ) where
  pub id_total : IsTotalOrder (λ a b. id_cmp (id a) (id b))
  id_total = on_total id nat_list_cmp_total

  -- rows of one key have one id
  pub id_tie : (a b : R) → id_cmp (id a) (id b) ≡ Equal → id a ≡ id b
  id_tie a b e = same_id (id a) (id b) (texts_ties (id a) (id b) ∙ ap is_eq e)

  -- what a key found it finds still
  pub id_still : (r : R) (rs : List R) (key : List ℕ) → is_some (find (λ x. same (id x) key) rs) ≡ true → is_some (find (λ x. same (id x) key) (put (λ a b. id_cmp (id a) (id b)) r rs)) ≡ true
  id_still r rs key known = found_still (λ a b. id_cmp (id a) (id b)) r (λ x. same (id x) key) rs (λ q tie pass. ap (λ i. same i key) (id_tie r q tie) ∙ pass) known
