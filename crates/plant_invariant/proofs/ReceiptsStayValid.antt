-- Receipts stay valid.
use Rattle.std.proofs.Common.{◌≡◌, ◌≤◌, ◌<◌, ◌+◌, ℕ, false, List, [], ◌∷◌, arith, ◌==◌, Ordering, Less, Equal, Greater}
use Rattle.std.specs.List.{AllByRecursion}
use Rattle.std.specs.List.Sorted.{IsStrictlySortedBy}
use Rattle.std.specs.Ordering.{match_ordering}
use Rattle.std.proofs.lemmas.Bool.Decides.{nat_tests}
use Rattle.plant_base.specs.{content_of, put, receipt_order, Receipt}
use Rattle.plant_view.proofs.ListLemmas.{all_weaker, all_put, sorted_put, id_total}
use Rattle.plant_base.proofs.ContentIsInjective.{content_written}
use Rattle.plant_invariant.specs.{HasReceiptValues, AreApart, OpeningHasNone, StayValid, AreValidWith}

pub none_valid : OpeningHasNone
unfolding IsStrictlySortedBy
none_valid = record { sorted = tt; values = tt; given = tt; apart = tt }

pub stay_valid : StayValid
stay_valid seq rs valid = record {
  sorted = valid.sorted;
  values = valid.values;
  given = all_weaker _ _ (λ (r : Receipt) g. (g.0, omega (arith, g.1))) rs valid.given;
  apart = valid.apart;
}

-- ---- one more

other_way : (m n : ℕ) → (m == n) ≡ false → (n == m) ≡ false
other_way m n h = grind (arith, nat_tests)

higher : (m n : ℕ) → n < m → (m == n) ≡ false
higher m n h = grind (arith, nat_tests)

apart_by : (r x : Receipt) (xs : List Receipt) → AllByRecursion (λ q. (r.seq == q.seq) ≡ false) (x ∷ xs) → AreApart (x ∷ xs) → AreApart (put receipt_order r xs)
    → (o : Ordering) → AreApart (match_ordering o (r ∷ x ∷ xs) (r ∷ xs) (x ∷ put receipt_order r xs))
apart_by r x xs new old more Less = (new, old)
apart_by r x xs new old more Equal = (new.1, old.1)
apart_by r x xs new old more Greater = (all_put receipt_order (λ (q : Receipt). (x.seq == q.seq) ≡ false) r xs (other_way r.seq x.seq new.0) old.0, more)

apart_put : (r : Receipt) (rs : List Receipt) → AllByRecursion (λ q. (r.seq == q.seq) ≡ false) rs → AreApart rs → AreApart (put receipt_order r rs)
apart_put r [] new old = (tt, tt)
apart_put r (x ∷ xs) new old = apart_by r x xs new old (apart_put r xs new.1 old.1) (receipt_order r x)

pub valid_with : AreValidWith
valid_with seq rs valid e values reference named =
    let r : Receipt = record { reference = reference; seq = seq + 1; content = content_of e } in
    let later = stay_valid seq rs valid in
    record {
      sorted = sorted_put receipt_order (id_total (λ (q : Receipt). q.reference)) r rs valid.sorted;
      values = all_put receipt_order HasReceiptValues r rs (record { reference = named; content = content_written e values }) valid.values;
      given = all_put receipt_order (λ (q : Receipt). (1 ≤ q.seq) × (q.seq ≤ seq + 1)) r rs (omega arith, omega arith) later.given;
      apart = apart_put r rs (all_weaker _ _ (λ (q : Receipt) g. higher (seq + 1) q.seq (omega (arith, g.1))) rs valid.given) valid.apart;
    }
