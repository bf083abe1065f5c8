-- Ids, texts, units and due dates are ASCII.
use Rattle.std.proofs.Common.{◌≡◌, ℕ, zero, suc, ◌<◌, List, [], ◌∷◌, Bool, true, ◌&&◌, arith, IsAscii}
use Rattle.std.specs.List.{list_all}
use Rattle.std.proofs.lemmas.Bool.Decides.{nat_tests}
use Rattle.plant_values.specs.{is_id_byte, is_text_byte, is_unit_byte, is_id, is_text, is_unit, is_due_byte, is_due, is_yes, due_day_of}

below_id : (b : ℕ) → is_id_byte b ≡ true → b < 128
below_id b h = grind (arith, nat_tests)

below_text : (b : ℕ) → is_text_byte b ≡ true → b < 128
below_text b h = grind (arith, nat_tests)

below_unit : (b : ℕ) → is_unit_byte b ≡ true → b < 128
below_unit b h = grind (arith, nat_tests)

below_due : (b : ℕ) → is_due_byte b ≡ true → b < 128
below_due b h = grind (arith, nat_tests)

both : (a b : Bool) → (a && b) ≡ true → (a ≡ true) × (b ≡ true)
both a b h = grind arith

ascii_all : (p : ℕ → Bool) → ((b : ℕ) → p b ≡ true → b < 128) → (bs : List ℕ) → list_all p bs ≡ true → IsAscii bs
ascii_all p below [] h i = omega arith
ascii_all p below (b ∷ bs) h zero = below b (both (p b) (list_all p bs) h).0
ascii_all p below (b ∷ bs) h (suc i) = ascii_all p below bs (both (p b) (list_all p bs) h).1 i

pub id_is_ascii : (bs : List ℕ) → is_id bs ≡ true → IsAscii bs
id_is_ascii bs h = ascii_all is_id_byte below_id bs (both _ _ h).1

pub text_is_ascii : (bs : List ℕ) → is_text bs ≡ true → IsAscii bs
text_is_ascii bs h = ascii_all is_text_byte below_text bs (both _ _ h).1

pub unit_is_ascii : (bs : List ℕ) → is_unit bs ≡ true → IsAscii bs
unit_is_ascii bs h = ascii_all is_unit_byte below_unit bs (both _ _ h).1

pub due_is_ascii : (bs : List ℕ) → is_due bs ≡ true → IsAscii bs
due_is_ascii bs h = ascii_all is_due_byte below_due bs (both _ _ (both _ (is_yes (due_day_of bs)) h).0).1
