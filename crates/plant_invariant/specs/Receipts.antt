-- Receipts that commands lead to.
use Rattle.std.specs.Prelude.{◌≡◌, ℕ, ◌+◌, ◌≤◌, true, false, ◌==◌, List, [], ◌∷◌, ⊤}
use Rattle.std.specs.List.{AllByRecursion}
use Rattle.std.specs.List.Sorted.{IsStrictlySortedBy}
use Rattle.plant_base.specs.{is_id, HasValues, is_content, content_of, put, receipt_order, Envelope, Receipt}

pub record HasReceiptValues (r : Receipt) : Type 0 where
  pub reference : is_id r.reference ≡ true
  pub content : is_content r.content ≡ true

-- no two have one number
abbrev pub AreApart : List Receipt → Type 0
AreApart [] = ⊤
AreApart (r ∷ rs) = AllByRecursion (λ q. (r.seq == q.seq) ≡ false) rs × AreApart rs

-- receipts of a state where so many commands were accepted
pub record AreValidReceipts (seq : ℕ) (rs : List Receipt) : Type 0 where
  pub sorted : IsStrictlySortedBy receipt_order rs
  pub values : AllByRecursion HasReceiptValues rs
  pub given : AllByRecursion (λ r. (1 ≤ r.seq) × (r.seq ≤ seq)) rs
  pub apart : AreApart rs

-- ---- laws

-- where nothing was accepted there are none
abbrev pub OpeningHasNone : Type 0
OpeningHasNone = AreValidReceipts 0 []

-- a command without a reference leaves them valid
abbrev pub StayValid : Type 0
StayValid = (seq : ℕ) (rs : List Receipt) → AreValidReceipts seq rs → AreValidReceipts (seq + 1) rs

-- and so does one with its receipt
abbrev pub AreValidWith : Type 0
AreValidWith = (seq : ℕ) (rs : List Receipt) → AreValidReceipts seq rs → (e : Envelope) → HasValues e → (reference : List ℕ) → is_id reference ≡ true
    → AreValidReceipts (seq + 1) (put receipt_order (record { reference = reference; seq = seq + 1; content = content_of e }) rs)
