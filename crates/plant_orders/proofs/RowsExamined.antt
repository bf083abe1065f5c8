-- How the faults of a file, and the orders among its rows, follow the records of its text.
use Rattle.std.proofs.Common.{◌≡◌, ◌∙◌, ◌⊎◌, inl, inr, ⊎_elim, ℕ, ◌+◌, ◌<◌, ◌≤◌, true, false, ◌==◌, nat_lt, List, [], ◌∷◌, ◌++◌, length, take, Option, Some, None, IfSome, refl, sym, subst, ap, arith, append_assoc, Result, Ok, Err, IfOk, option_map, length-take-le, take_all}
use Rattle.std.specs.IoError.{error_kind}
use Rattle.std.specs.declared.io.Error.{Error}
use Rattle.std.specs.declared.io.ErrorKind.{ErrorKind}
use Rattle.std.specs.declared.io.ErrorKind.TheVariants as io
use Rattle.std.proofs.lemmas.Bool.{cases_lt}
use Rattle.std.proofs.lemmas.Bool.Decides.{nat_tests}
use Rattle.csv.specs.Reading.{default_config, records_from, strip_bom}
use Rattle.csv.specs.declared.parser.State.TheVariants as st
use Rattle.plant_orders.specs.{is_header, whole_fault, row_faults, row_orders, faults_from, orders_from, faults_in, orders_in, faults_of, numbered_orders_of, IsExaminedOf, fault_of_kind, read_count}
use Rattle.plant_base.specs.{Agrees}
use Rattle.plant_orders.specs.declared.source.OrdersFault.{OrdersFault}
use Rattle.plant_orders.specs.declared.source.OrdersFault.TheVariants as orders
use Rattle.plant_orders.specs.declared.examining.Examined.{Examined}
use Rattle.plant_orders.specs.declared.examining.RecordFault.{RecordFault}
use Rattle.plant_orders.specs.declared.examining.NumberedOrder.{NumberedOrder}
use Rattle.plant_orders.specs.declared.fault.CsvKind.TheVariants as kind

-- ---- a text that isn't too long

pub short_faults : (text : List ℕ) → length text ≤ 262144 → faults_of text ≡ faults_in (records_from default_config 1002 st.StartRecord (strip_bom text))
unfolding faults_of
short_faults text h = let f : nat_lt 262144 (length text) ≡ false = grind (arith, nat_tests) in rw f refl

pub short_orders : (text : List ℕ) → length text ≤ 262144 → numbered_orders_of text ≡ orders_in (records_from default_config 1002 st.StartRecord (strip_bom text))
unfolding numbered_orders_of
short_orders text h = let f : nat_lt 262144 (length text) ≡ false = grind (arith, nat_tests) in rw f refl

-- ---- the header

module _ (header : List (List ℕ)) (records : List (List (List ℕ))) where
  pub good_header_faults : is_header header ≡ true → faults_in (header ∷ records) ≡ faults_from 0 records
  good_header_faults e = rw e refl

  pub good_header_orders : is_header header ≡ true → orders_in (header ∷ records) ≡ orders_from 0 records
  good_header_orders e = rw e refl

  pub bad_header_faults : is_header header ≡ false → faults_in (header ∷ records) ≡ whole_fault 0 kind.Header ∷ []
  bad_header_faults e = rw e refl

  pub bad_header_orders : is_header header ≡ false → orders_in (header ∷ records) ≡ []
  bad_header_orders e = rw e refl

-- ---- a row more

module _ (n : ℕ) (fields : List (List ℕ)) (records : List (List (List ℕ))) where
  row_more_faults : n < 1000 → faults_from n (fields ∷ records) ≡ row_faults (n + 1) fields ++ faults_from (n + 1) records
  row_more_faults h = let f : (n == 1000) ≡ false = grind (arith, nat_tests) in rw f refl

  row_more_orders : n < 1000 → orders_from n (fields ∷ records) ≡ row_orders (n + 1) fields ++ orders_from (n + 1) records
  row_more_orders h = let f : (n == 1000) ≡ false = grind (arith, nat_tests) in rw f refl

  pub over_faults : n ≡ 1000 → faults_from n (fields ∷ records) ≡ whole_fault 1001 kind.TooManyRows ∷ []
  over_faults e = let t : (n == 1000) ≡ true = grind (arith, nat_tests) in rw t refl

  pub over_orders : n ≡ 1000 → orders_from n (fields ∷ records) ≡ []
  over_orders e = let t : (n == 1000) ≡ true = grind (arith, nat_tests) in rw t refl

  -- what was found before, with that of a row more
  pub faults_added : (before now : List RecordFault) → n < 1000 → now ≡ before ++ row_faults (n + 1) fields
      → before ++ faults_from n (fields ∷ records) ≡ now ++ faults_from (n + 1) records
  faults_added before now h added =
      ap (λ fs. before ++ fs) (row_more_faults h) ∙ sym (append_assoc before (row_faults (n + 1) fields) (faults_from (n + 1) records))
      ∙ ap (λ (fs : List RecordFault). fs ++ faults_from (n + 1) records) (sym added)

  pub orders_added : (before now : List NumberedOrder) → n < 1000 → now ≡ before ++ row_orders (n + 1) fields
      → before ++ orders_from n (fields ∷ records) ≡ now ++ orders_from (n + 1) records
  orders_added before now h added =
      ap (λ os. before ++ os) (row_more_orders h) ∙ sym (append_assoc before (row_orders (n + 1) fields) (orders_from (n + 1) records))
      ∙ ap (λ (os : List NumberedOrder). os ++ orders_from (n + 1) records) (sym added)

-- ---- a prefix of a text

long_faults : (text : List ℕ) → 262144 < length text → faults_of text ≡ whole_fault 0 kind.TooLong ∷ []
unfolding faults_of
long_faults text above = let is : nat_lt 262144 (length text) ≡ true = grind (arith, nat_tests) in rw is refl

long_orders : (text : List ℕ) → 262144 < length text → numbered_orders_of text ≡ []
unfolding numbered_orders_of
long_orders text above = let is : nat_lt 262144 (length text) ≡ true = grind (arith, nat_tests) in rw is refl

-- a file is examined by its first 262,145 bytes
prefix_faults : (text : List ℕ) → faults_of (take 262145 text) ≡ faults_of text
prefix_faults text =
    ⊎_elim (λ above. long_faults (take 262145 text) (rw (length-take-le 262145 text above) (omega arith)) ∙ sym (long_faults text above))
    (λ below. ap faults_of (take_all 262145 text (omega (arith, below)))) (cases_lt 262144 (length text))

prefix_orders : (text : List ℕ) → numbered_orders_of (take 262145 text) ≡ numbered_orders_of text
prefix_orders text =
    ⊎_elim (λ above. long_orders (take 262145 text) (rw (length-take-le 262145 text above) (omega arith)) ∙ sym (long_orders text above))
    (λ below. ap numbered_orders_of (take_all 262145 text (omega (arith, below)))) (cases_lt 262144 (length text))

-- so what was examined of the prefix was examined of the text
pub examined_of_prefix : (n : ℕ) → n ≡ 262145 → (r : Result Examined OrdersFault) (known : Option (List ℕ)) (prefix : List ℕ) → IfOk r (IsExaminedOf prefix)
    → IfSome (option_map (take n) known) (λ read. prefix ≡ read) → IfOk r (λ e. (bytes : List ℕ) × Agrees known bytes × IsExaminedOf bytes e)
examined_of_prefix n limit (Err e) known prefix all is = tt
examined_of_prefix n limit (Ok e) None prefix all is = (prefix, tt, all)
examined_of_prefix n limit (Ok e) (Some text) prefix all is =
    let front : prefix ≡ take 262145 text = is ∙ ap (λ m. take m text) limit in
    (text, refl, record { faults = all.faults ∙ ap faults_of front ∙ prefix_faults text; orders = all.orders ∙ ap numbered_orders_of front ∙ prefix_orders text })

-- how a failed reading is reported
told_of_kind : (k : ErrorKind) → (fault_of_kind k ≡ orders.Read) ⊎ (fault_of_kind k ≡ orders.Memory)
told_of_kind io.OutOfMemory = inr refl
told_of_kind _ = inl refl

pub told_of_reading : (r : Result ℕ Error) (e : OrdersFault) → read_count r ≡ Err e → (e ≡ orders.Read) ⊎ (e ≡ orders.Memory)
told_of_reading (Ok n) e is = absurd (cc)
told_of_reading (Err error) e is = let same : fault_of_kind (error_kind error) ≡ e = cc in subst (λ f. (f ≡ orders.Read) ⊎ (f ≡ orders.Memory)) same (told_of_kind (error_kind error))
