-- A digest of the commands that a desk has accepted under references, by which desks are compared.
use Rattle.std.specs.Prelude.{ℕ, ◌+◌, ◌*◌, ◌%◌, List, [], ◌∷◌, min}
use Rattle.plant_base.specs.{Receipt}
use Rattle.plant_view.specs.{RowChange}
use Rattle.plant_view.specs.declared.change.RowChange.TheVariants as change
use Rattle.plant_desk_store.specs.declared.digest.Digest.{Digest}

-- a prime below 2^54, whose product by 257 is below 2^63
abbrev pub digest_modulus : ℕ
digest_modulus = 18014398509481951

-- bytes added to a number, as its last digits to the base of 257; a byte counts one more than it is, so that none counts nothing
abbrev pub digest_bytes : ℕ → List ℕ → ℕ
digest_bytes sum [] = sum
digest_bytes sum (b ∷ bytes) = digest_bytes ((sum * 257 + b + 1) % digest_modulus) bytes

-- what is made of a receipt's number, its reference, an LF and its content
abbrev pub digest_text : Receipt → ℕ
digest_text r = digest_bytes (digest_bytes (digest_bytes (r.seq % digest_modulus) r.reference) (10 ∷ [])) r.content

-- what is made of a receipt: it counts so many times as its number and one, so that commands that have each other's number differ
abbrev pub digest_receipt : Receipt → ℕ
digest_receipt r = digest_text r * (r.seq % digest_modulus + 1) % digest_modulus

-- one receipt more: the sum is the same in whichever order they come
abbrev pub with_receipt : Digest → Receipt → Digest
with_receipt d r = record { commands = min (d.commands + 1) 18446744073709551615; sum = (d.sum % digest_modulus + digest_receipt r) % digest_modulus }

abbrev pub with_receipts : Digest → List Receipt → Digest
with_receipts d [] = d
with_receipts d (r ∷ rs) = with_receipts (with_receipt d r) rs

-- the receipts among row changes
abbrev pub with_change : Digest → RowChange → Digest
with_change d (change.Receipt r) = with_receipt d r
with_change d _ = d

abbrev pub with_changes : Digest → List RowChange → Digest
with_changes d [] = d
with_changes d (c ∷ cs) = with_changes (with_change d c) cs
