-- The value of a column, read by its rule: nothing where it breaks the rule.
use Rattle.std.specs.Prelude.{ℕ, ◌-◌, ◌^◌, ℤ, pos, negsuc, Bool, true, false, ◌&&◌, ◌==◌, nat_le, List, [], length, Option, Some, None, option_map, option_and_then, unwrap_or, if◌then◌else◌}
use Rattle.std.specs.Char.{is_ascii}
use Rattle.std.specs.List.{list_all}
use Rattle.std.specs.Ordering.{int_eq}
use Rattle.sqlite.specs.declared.types.Value.{Value}
use Rattle.sqlite.specs.declared.types.Value.TheVariants.{Null, Int, Real, Text, Blob}
use Rattle.plant_base.specs.{only, is_id, is_text, is_unit, greatest_amount, greatest_moment, greatest_sublot, is_due}

-- ---- the value of a column

abbrev pub text_in : Value → Option (List ℕ)
text_in Null = None
text_in (Int n) = None
text_in (Real x) = None
text_in (Text bytes) = Some bytes
text_in (Blob bytes) = None

abbrev pub integer_in : Value → Option ℤ
integer_in Null = None
integer_in (Int n) = Some n
integer_in (Real x) = None
integer_in (Text bytes) = None
integer_in (Blob bytes) = None

abbrev pub is_null : Value → Bool
is_null Null = true
is_null (Int n) = false
is_null (Real x) = false
is_null (Text bytes) = false
is_null (Blob bytes) = false

-- ---- texts

-- what a text says
abbrev pub by_text : {A : Type 0} → (List ℕ → Option A) → Value → Option A
by_text read v = option_and_then read (text_in v)

unfoldable pub id_from : Value → Option (List ℕ)
id_from = by_text (only is_id)

unfoldable pub text_from : Value → Option (List ℕ)
text_from = by_text (only is_text)

unfoldable pub unit_from : Value → Option (List ℕ)
unit_from = by_text (only is_unit)

unfoldable pub due_from : Value → Option (List ℕ)
due_from = by_text (only is_due)

-- any text is a content: one that isn't ASCII is read as the empty one, which the rule on receipts finds
abbrev pub content_in : List ℕ → List ℕ
content_in bytes = if list_all is_ascii bytes then bytes else []

unfoldable pub content_from : Value → Option (List ℕ)
content_from = by_text (λ bytes. Some (content_in bytes))

-- ---- numbers

-- what a whole number says
abbrev pub by_number : {A : Type 0} → (ℤ → Option A) → Value → Option A
by_number read v = option_and_then read (integer_in v)

abbrev pub is_in : ℕ → ℕ → ℕ → Bool
is_in low high n = nat_le low n && nat_le n high

-- the number, where it is from low to high
unfoldable pub number_in : ℕ → ℕ → ℤ → Option ℕ
number_in low high (pos n) = only (is_in low high) n
number_in low high (negsuc n) = None

unfoldable pub number_from : ℕ → ℕ → Value → Option ℕ
number_from low high = by_number (number_in low high)

-- the number 1, which says nothing
abbrev pub one_from : Value → Option (Unit {0})
one_from v = option_map (λ n. tt) (number_from 1 1 v)

-- the greatest number that a column holds
abbrev pub greatest_number : ℕ
greatest_number = 2 ^ 63 - 1

abbrev pub amount_from : Value → Option ℕ
amount_from = number_from 1 greatest_amount

abbrev pub moment_from : Value → Option ℕ
moment_from = number_from 0 greatest_moment

abbrev pub sublot_number_from : Value → Option ℕ
sublot_number_from = number_from 0 greatest_sublot

-- the number of a line has no rule: where no line can have it, it is 0
abbrev pub line_number : ℤ → ℕ
line_number n = unwrap_or (number_in 1 65535 n) 0

unfoldable pub line_number_from : Value → Option ℕ
line_number_from = by_number (λ n. Some (line_number n))

-- 1 for true, 0 for false
unfoldable pub flag_from : Value → Option Bool
flag_from v = option_map (λ k. nat_le 1 k) (number_from 0 1 v)

-- ---- what may be left out

-- what the value says, and none where it is NULL
abbrev pub or_null : {A : Type 0} → (Value → Option A) → Value → Option (Option A)
or_null read v = if is_null v then Some None else option_map Some (read v)

unfoldable pub id_or_null : Value → Option (Option (List ℕ))
id_or_null = or_null id_from

unfoldable pub sublot_or_null : Value → Option (Option ℕ)
sublot_or_null = or_null sublot_number_from

unfoldable pub moment_or_null : Value → Option (Option ℕ)
moment_or_null = or_null moment_from

-- a text that people read, where there is one
unfoldable pub readable_or_null : Value → Option (Option (List ℕ))
readable_or_null = or_null text_from

-- the empty text
abbrev pub is_no_text : List ℕ → Bool
is_no_text bytes = length bytes == 0

abbrev pub holds_text : (List ℕ → Bool) → Option (List ℕ) → Bool
holds_text test None = false
holds_text test (Some bytes) = test bytes

unfoldable pub is_empty : Value → Bool
is_empty v = holds_text is_no_text (text_in v)

abbrev pub holds_integer : (ℤ → Bool) → Option ℤ → Bool
holds_integer test None = false
holds_integer test (Some n) = test n

unfoldable pub is_zero : Value → Bool
is_zero v = holds_integer (λ n. int_eq n (pos 0)) (integer_in v)
