-- What a prefix of a text says of the text.
use Rattle.std.proofs.Common.{◌≡◌, ℕ, ◌<◌, true, nat_lt, List, [], ◌++◌, length, take, Option, Some, None, Result, Ok, Err, OnOk, IfOk, IfErr, IfSome, refl, sym, ap, ◌∙◌, ⊎_elim, arith, subst, option_map, length-take-le, take_all}
use Rattle.std.proofs.lemmas.Bool.Decides.{nat_tests}
use Rattle.std.proofs.lemmas.Bool.{cases_lt}
use Rattle.plant_base.specs.{OrderRow, Agrees}
use Rattle.plant_orders.specs.{fault, orders_of, FaultOfFile, fault_of_kind, read_count}
use Rattle.std.specs.IoError.{error_kind}
use Rattle.std.specs.declared.io.Error.{Error}
use Rattle.std.specs.declared.io.ErrorKind.{ErrorKind}
use Rattle.std.specs.declared.io.ErrorKind.TheVariants as io
use Rattle.plant_orders.specs.declared.fault.CsvFault.{CsvFault}
use Rattle.plant_orders.specs.declared.source.OrdersFault.{OrdersFault}
use Rattle.plant_orders.specs.declared.fault.CsvKind.TheVariants as kind

too_long : (text : List ℕ) → 262144 < length text → orders_of text ≡ Err (fault 0 kind.TooLong)
unfolding orders_of
too_long text above = let is : nat_lt 262144 (length text) ≡ true = grind (arith, nat_tests) in rw is refl

-- a file is judged by its first 262,145 bytes
prefix_says : (text : List ℕ) → orders_of (take 262145 text) ≡ orders_of text
prefix_says text =
    ⊎_elim (λ above. too_long (take 262145 text) (rw (length-take-le 262145 text above) (omega arith)) ∙ sym (too_long text above))
    (λ below. ap orders_of (take_all 262145 text (omega (arith, below)))) (cases_lt 262144 (length text))

-- so what is said of a prefix of a text is said of the text
said_of_text : (says : Result (List OrderRow) CsvFault → Type 0) (n : ℕ) → n ≡ 262145 → (known : Option (List ℕ)) (prefix : List ℕ)
    → says (orders_of prefix) → IfSome (option_map (take n) known) (λ read. prefix ≡ read) → IfSome known (λ text. says (orders_of text))
said_of_text says n limit (Some text) prefix said is = subst says (ap orders_of (is ∙ ap (λ m. take m text) limit) ∙ prefix_says text) said
said_of_text says n limit None prefix said is = tt

-- what holds of the bytes that a reader knows, and of those that were read, holds of the input
pub of_input : (P : List ℕ → Type 0) (known : Option (List ℕ)) (read : List ℕ) → IfSome known P → P read → (bytes : List ℕ) × Agrees known bytes × P bytes
of_input P None read told holds = (read, tt, holds)
of_input P (Some text) read told holds = (text, refl, told)

-- the fault of a failed reading says nothing of a file
of_kind : (k : ErrorKind) (says : Result (List OrderRow) CsvFault) → FaultOfFile (fault_of_kind k) says
of_kind io.OutOfMemory says = tt
of_kind _ says = tt

unread : (r : Result ℕ Error) (e : OrdersFault) → read_count r ≡ Err e → (says : Result (List OrderRow) CsvFault) → FaultOfFile e says
unread (Ok n) e is says = absurd (cc)
unread (Err error) e is says = let same : fault_of_kind (error_kind error) ≡ e = cc in subst (λ f. FaultOfFile f says) same (of_kind (error_kind error) says)

-- nor of the input
pub of_unread : (known : Option (List ℕ)) (r : Result ℕ Error) (e : OrdersFault) → read_count r ≡ Err e → (bytes : List ℕ) × Agrees known bytes × FaultOfFile e (orders_of bytes)
of_unread None r e is = ([], tt, unread r e is (orders_of []))
of_unread (Some text) r e is = (text, refl, unread r e is (orders_of text))

-- the orders, or the fault, of a prefix
pub reported_of_prefix : (n : ℕ) → n ≡ 262145 → (r : Result (List OrderRow) OrdersFault) (known : Option (List ℕ)) (prefix : List ℕ)
    → IfOk r (λ orders. orders_of prefix ≡ Ok orders) → IfErr r (λ e. FaultOfFile e (orders_of prefix)) → IfSome (option_map (take n) known) (λ read. prefix ≡ read)
    → IfOk r (λ orders. (bytes : List ℕ) × Agrees known bytes × (orders_of bytes ≡ Ok orders)) × IfErr r (λ e. (bytes : List ℕ) × Agrees known bytes × FaultOfFile e (orders_of bytes))
reported_of_prefix n limit (Ok orders) known prefix gives fails is =
    (of_input (λ text. orders_of text ≡ Ok orders) known prefix (said_of_text (λ says. says ≡ Ok orders) n limit known prefix gives is) gives, tt)
reported_of_prefix n limit (Err e) known prefix gives fails is =
    (tt, of_input (λ text. FaultOfFile e (orders_of text)) known prefix (said_of_text (λ says. FaultOfFile e says) n limit known prefix fails is) fails)

-- what was read into an empty room
pub read_into_nothing : (known : Option (List ℕ)) (old new prefix : List ℕ) → old ≡ [] → prefix ≡ new → IfSome known (λ text. new ≡ old ++ text) → IfSome known (λ text. prefix ≡ text)
read_into_nothing None old new prefix empty is says = tt
read_into_nothing (Some text) old new prefix empty is says = is ∙ says ∙ ap (λ room. room ++ text) empty

-- a reading that isn't reported as failed didn't fail
pub was_read : (r : Result ℕ Error) (n : ℕ) (P : Type 0) → read_count r ≡ Ok n → OnOk r P → P
was_read (Ok m) n P reported is = is
was_read (Err e) n P reported is = cc reported
