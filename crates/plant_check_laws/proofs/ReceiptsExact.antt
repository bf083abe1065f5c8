-- The rule on receipts: their numbers were given and are apart, and their contents are contents.
use Rattle.std.proofs.Common.{◌≡◌, ◌∙◌, ℕ, suc, ◌≤◌, Bool, true, false, cond, List, [], ◌∷◌, filter, is_none, length, refl, ap, arith, ◌==◌, if◌then◌else◌, Decides, eq-eqb}
use Rattle.std.specs.List.{AllByRecursion, list_all}
use Rattle.std.specs.List.Sorted.{IsStrictlySortedBy}
use Rattle.std.proofs.lemmas.Bool.Decides.{nat_tests}
use Rattle.plant_base.specs.{is_content, is_content_byte, is_there, receipt_order, is_id, Receipt}
use Rattle.plant_view.proofs.ListLemmas.{all_weaker, all_two, and_left}
use Rattle.plant_invariant.specs.{HasReceiptValues, AreApart, AreValidReceipts}
use Rattle.plant_requirements.specs.{is_given, of_receipt, receipt_fault, receipt_fault_in, seqs_of}
use Rattle.plant_requirements.proofs.NoFault.{met_exact, no_more, rows_exact as each_row}
use Rattle.plant_check_laws.proofs.ExactTests.{passing, equal_exact, le_exact, both, by_test, in_words, all_apart, all_joined}
use Rattle.plant_check_laws.proofs.DistinctKeys.{AreApart as AreApartBy, one_left, apart_alone}

-- the number of an accepted command
pub given_exact : (greatest n : ℕ) → Decides (is_given greatest n) ((1 ≤ n) × (n ≤ greatest))
given_exact greatest n = both (le_exact 1 n) (le_exact n greatest)

-- a receipt has the number of another
abbrev has_number_of : Receipt → Receipt → Bool
has_number_of r q = q.seq == r.seq

-- a number is as often among those of receipts as they have it
counted : (n : ℕ) (rs : List Receipt) → length (filter (λ m. m == n) (seqs_of rs)) ≡ length (filter (λ (q : Receipt). q.seq == n) rs)
counted n [] = refl
counted n (q ∷ qs) = at (filter (λ m. m == n) (seqs_of qs)) (filter (λ (x : Receipt). x.seq == n) qs) (q.seq == n) (counted n qs)
  where
    at : (ms : List ℕ) (rs : List Receipt) (b : Bool) → length ms ≡ length rs → length (cond b (q.seq ∷ ms) ms) ≡ length (cond b (q ∷ rs) rs)
    at ms rs true e = ap suc e
    at ms rs false e = e

same_number : (a b : ℕ) → (a == b) ≡ (b == a)
same_number a b = grind (arith, nat_tests)

-- none has that of another
none_shares : (rs : List Receipt) → AreApartBy has_number_of rs → AreApart rs
none_shares [] apart = tt
none_shares (r ∷ rs) apart = (all_weaker _ _ (λ (q : Receipt) a. a.1) rs apart.0, none_shares rs apart.1)

apart_both_ways : (rs : List Receipt) → AreApart rs → AreApartBy has_number_of rs
apart_both_ways [] apart = tt
apart_both_ways (r ∷ rs) apart = (all_weaker _ _ (λ (q : Receipt) a. (same_number q.seq r.seq ∙ a, a)) rs apart.0, apart_both_ways rs apart.1)

abbrev AreGiven : ℕ → List Receipt → Type 0
AreGiven greatest rs = AllByRecursion (λ r. (1 ≤ r.seq) × (r.seq ≤ greatest)) rs

abbrev HaveContents : List Receipt → Type 0
HaveContents rs = AllByRecursion (λ r. is_content r.content ≡ true) rs

pub receipts_exact : (greatest : ℕ) (rs : List Receipt) → Decides (is_none (receipt_fault_in greatest rs)) ((AreGiven greatest rs × HaveContents rs) × AreApart rs)
receipts_exact greatest rs =
    let IsGiven : Receipt → Type 0 = λ r. (1 ≤ r.seq) × (r.seq ≤ greatest) in
    let IsContent : Receipt → Type 0 = λ r. is_content r.content ≡ true in
    let IsAlone : Receipt → Type 0 = λ r. length (filter (has_number_of r) rs) ≡ 1 in
    let own = λ (r : Receipt). eq-eqb r.seq r.seq refl in
    let alone = λ (r : Receipt). by_test (ap (λ k. k == 1) (counted r.seq rs)) (equal_exact (length (filter (has_number_of r) rs)) 1) in
    in_words
    (each_row (receipt_fault greatest (seqs_of rs)) (λ r. (IsGiven r × IsContent r) × IsAlone r)
    (λ r. in_words (met_exact (of_receipt greatest (seqs_of rs) r) (both (given_exact greatest r.seq) (both (passing (is_content r.content)) (both (alone r) no_more))))
    (λ p. ((p.0, p.1.0), p.1.1.0)) (λ w. (w.0.0, (w.0.1, (w.1, tt))))) rs)
    (λ a. let apart = all_apart (λ r. IsGiven r × IsContent r) IsAlone rs a in
    (all_apart IsGiven IsContent rs apart.0, none_shares rs (apart_alone has_number_of own (λ r q. same_number q.seq r.seq) rs apart.1)))
    (λ f. let alone = all_weaker _ IsAlone (λ r left. ap length left) rs (one_left has_number_of own rs (apart_both_ways rs f.1)) in
    all_joined (λ r. IsGiven r × IsContent r) IsAlone rs (all_joined IsGiven IsContent rs f.0.0 f.0.1) alone)

-- contents of receipts that pass aren't empty
pub contents_there : (greatest : ℕ) (rs : List Receipt) → is_none (receipt_fault_in greatest rs) ≡ true → AllByRecursion (λ r. is_there r.content ≡ true) rs
contents_there greatest rs h =
    all_weaker (λ (r : Receipt). is_content r.content ≡ true) _ (λ r content. and_left (is_there r.content) (list_all is_content_byte r.content) content) rs
    ((receipts_exact greatest rs).0 h).0.1

pub valid_receipts : (greatest : ℕ) (rs : List Receipt) → IsStrictlySortedBy receipt_order rs → AllByRecursion (λ r. is_id r.reference ≡ true) rs → is_none (receipt_fault_in greatest rs) ≡ true → AreValidReceipts greatest rs
valid_receipts greatest rs sorted named h =
    let right = (receipts_exact greatest rs).0 h in
    record {
      sorted = sorted;
      values = all_two _ (λ (r : Receipt). is_content r.content ≡ true) HasReceiptValues (λ (r : Receipt) id content. record { reference = id; content = content }) rs named right.0.1;
      given = right.0.0;
      apart = right.1;
    }

-- those of a valid state pass, and so do none, in a schema that keeps no receipts
pub receipts_pass : (keeps : Bool) (seq : ℕ) (rs : List Receipt) → AreValidReceipts seq rs → is_none (receipt_fault_in seq (if keeps then rs else [])) ≡ true
receipts_pass true seq rs valid =
    (receipts_exact seq rs).1 ((valid.given, all_weaker HasReceiptValues (λ r. is_content r.content ≡ true) (λ r v. v.content) rs valid.values), valid.apart)
receipts_pass false seq rs valid = refl
