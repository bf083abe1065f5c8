-- How the rows of a file follow the records of its text.
use Rattle.std.proofs.Common.{◌≡◌, ℕ, zero, suc, ◌+◌, ◌<◌, ◌≤◌, Bool, true, false, cond, ◌==◌, nat_lt, List, [], ◌∷◌, ◌++◌, length, Option, Some, None, Result, Ok, Err, ok_or, option_and_then, refl, sym, subst, ap, ◌∙◌, arith, append_assoc, append-nil, Bor}
use Rattle.std.proofs.lemmas.Bool.{false≢true}
use Rattle.std.proofs.lemmas.Bool.Decides.{nat_tests}
use Rattle.std.specs.Bool.{⊤}
use Rattle.csv.specs.Machine.{Read, next_record}
use Rattle.csv.specs.Records.{field_at}
use Rattle.csv.specs.Reading.{default_config, records_from, strip_bom, is_flexible, stops_reader, ExplainsRead}
use Rattle.csv.specs.declared.error.ErrorKind.{ErrorKind}
use Rattle.csv.specs.declared.error.ErrorKind.TheVariants as line_error
use Rattle.csv.specs.declared.parser.State.TheVariants as st
use Rattle.csv.specs.declared.parser.State.{State}
use Rattle.csv.specs.declared.reader.Reader.{Reader}
use Rattle.plant_orders.specs.{◌>>=◌, fault, id_of, due_of, order_of, Gives, rows_of, file_of, is_header, FailsAs, orders_of, bounded, ReaderIsAt, GaveNext}
use Rattle.plant_base.specs.{greatest_amount, greatest_version, greatest_priority, OrderRow}
use Rattle.plant_orders.specs.declared.fault.CsvFault.{CsvFault}
use Rattle.plant_orders.specs.declared.fault.CsvKind.{CsvKind}
use Rattle.plant_orders.specs.declared.fault.CsvKind.TheVariants as kind

-- the rows that were read, and then those of the rest
abbrev pub with_prefix : List OrderRow → Result (List OrderRow) CsvFault → Result (List OrderRow) CsvFault
with_prefix prefix read = read >>= λ rows. Ok (prefix ++ rows)

pub next_found : (o : Option Read) (found : Bool) (rdr : Reader (Bor (List ℕ))) (fields : List (List ℕ)) → GaveNext o found rdr fields
    → found ≡ true → (p : Read) × (o ≡ Some p) × (fields ≡ p.0) × ReaderIsAt rdr p.1 p.2
next_found None found rdr fields g e = absurd (false≢true (sym g ∙ e))
next_found (Some p) found rdr fields g e = (p, refl, g.1, g.2)

pub next_gone : (o : Option Read) (found : Bool) (rdr : Reader (Bor (List ℕ))) (fields : List (List ℕ)) → GaveNext o found rdr fields
    → found ≡ false → o ≡ None
next_gone None found rdr fields g e = refl
next_gone (Some p) found rdr fields g e = absurd (false≢true (sym e ∙ g.0))

module _ (k : ℕ) (s : State) (text : List ℕ) where
  pub records-none : next_record default_config s [] [] text ≡ None → records_from default_config (suc k) s text ≡ []
  unfolding records_from
  records-none e = rw e refl

  pub records-some : (p : Read) → next_record default_config s [] [] text ≡ Some p → records_from default_config (suc k) s text ≡ p.0 ∷ records_from default_config k p.1 p.2
  unfolding records_from
  records-some p e = rw e refl

pub prefix-nil : (prefix : List OrderRow) → with_prefix prefix (Ok []) ≡ Ok prefix
prefix-nil prefix = ap (λ (x : List OrderRow). Ok x) (append-nil prefix)

pub prefix-more : (prefix : List OrderRow) (row : OrderRow) (read : Result (List OrderRow) CsvFault)
    → with_prefix prefix (read >>= λ rows. Ok (row ∷ rows)) ≡ with_prefix (prefix ++ row ∷ []) read
prefix-more prefix row (Ok rows) = ap (λ (x : List OrderRow). Ok x) (sym (append_assoc prefix (row ∷ []) rows))
prefix-more prefix row (Err e) = refl

pub rows-ok : (n : ℕ) (fields : List (List ℕ)) (records : List (List (List ℕ))) (row : OrderRow) → n < 1000 → order_of fields ≡ Ok row
    → rows_of n (fields ∷ records) ≡ (rows_of (n + 1) records >>= λ rows. Ok (row ∷ rows))
rows-ok n fields records row h e = let f : (n == 1000) ≡ false = grind (arith, nat_tests) in rw (f, e) refl

pub rows-err : (n : ℕ) (fields : List (List ℕ)) (records : List (List (List ℕ))) (line_error : CsvKind) → n < 1000 → order_of fields ≡ Err line_error
    → rows_of n (fields ∷ records) ≡ Err (fault (n + 1) line_error)
rows-err n fields records line_error h e = let f : (n == 1000) ≡ false = grind (arith, nat_tests) in rw (f, e) refl

pub fails_as : {Y : Type 0} (k : CsvKind) (e : CsvFault) (read : Result Y CsvFault) → (k ≡ kind.Memory → ⊥) → read ≡ Err e → FailsAs k e read
fails_as kind.Memory e read other h = absurd (other refl)
fails_as _ e read other h = h

-- ---- no record's fault is want of memory

abbrev NotMemory : {A : Type 0} → Result A CsvKind → Type 0
NotMemory (Ok x) = ⊤
NotMemory (Err k) = k ≡ kind.Memory → ⊥

fields_not : (o r : Option (List ℕ)) (v s : Option ℕ) (d : Option (List ℕ)) (p : Option ℕ) → NotMemory (do
  order ← ok_or o kind.Order
  recipe ← ok_or r kind.Recipe
  version ← ok_or v kind.Version
  size ← ok_or s kind.Size
  due ← ok_or d kind.Due
  priority ← ok_or p kind.Priority
  let row : OrderRow = record { order = order; recipe = recipe; version = version; size = size; due = due; priority = priority } in Ok row)
fields_not None r v s d p = λ e. cc
fields_not (Some a) None v s d p = λ e. cc
fields_not (Some a) (Some b) None s d p = λ e. cc
fields_not (Some a) (Some b) (Some c) None d p = λ e. cc
fields_not (Some a) (Some b) (Some c) (Some f) None p = λ e. cc
fields_not (Some a) (Some b) (Some c) (Some f) (Some g) None = λ e. cc
fields_not (Some a) (Some b) (Some c) (Some f) (Some g) (Some h) = tt

one_not : {A : Type 0} (b : Bool) (x y : Result A CsvKind) → NotMemory x → NotMemory y → NotMemory (cond b x y)
one_not true x y g h = g
one_not false x y g h = h

order_not : (fields : List (List ℕ)) → NotMemory (order_of fields)
unfolding order_of
order_not fields =
    one_not (length fields == 6) _ (Err kind.Shape)
    (fields_not (option_and_then id_of (field_at fields 0)) (option_and_then id_of (field_at fields 1)) (option_and_then (bounded greatest_version) (field_at fields 2))
    (option_and_then (bounded greatest_amount) (field_at fields 3)) (option_and_then due_of (field_at fields 4)) (option_and_then (bounded greatest_priority) (field_at fields 5)))
    (λ e. cc)

pub not_memory : (fields : List (List ℕ)) (k : CsvKind) → order_of fields ≡ Err k → k ≡ kind.Memory → ⊥
not_memory fields k e m = let reported : NotMemory {A = OrderRow} (Err k) = subst NotMemory e (order_not fields) in reported m

-- ---- why a read failed

pub stopped : {R : Type 0} (rem : R → Option (List ℕ)) (old new : Reader R) (k : ErrorKind) → is_flexible old ≡ true → ExplainsRead rem old new false k → stops_reader k ≡ true
stopped rem old new (line_error.Io e) flexible h = refl
stopped rem old new line_error.OutOfMemory flexible h = refl
stopped rem old new (line_error.UnequalLengths pos expected len) flexible h = absurd (false≢true (sym h.0 ∙ flexible))
stopped rem old new (line_error.Utf8 pos err) flexible h = absurd (false≢true h.0)
stopped rem old new (line_error.Serialize text) flexible h = absurd h
stopped rem old new (line_error.Deserialize pos err) flexible h = absurd h

-- a file's fault for want of memory
pub gives_memory : {Y : Type 0} (r read : Result Y CsvFault) → r ≡ Err (fault 0 kind.Memory) → Gives r read
gives_memory r read h = subst (λ x. Gives x read) (sym h) refl

-- the file of a text that isn't too long
pub short_text : (text : List ℕ) → length text ≤ 262144 → orders_of text ≡ file_of (records_from default_config 1002 st.StartRecord (strip_bom text))
unfolding orders_of
short_text text h = let f : nat_lt 262144 (length text) ≡ false = grind (arith, nat_tests) in rw f refl

pub past_header : (header : List (List ℕ)) (records : List (List (List ℕ))) → is_header header ≡ true → file_of (header ∷ records) ≡ rows_of 0 records
past_header header records e = rw e refl

pub bad_header : (header : List (List ℕ)) (records : List (List (List ℕ))) → is_header header ≡ false → file_of (header ∷ records) ≡ Err (fault 0 kind.Header)
bad_header header records e = rw e refl

pub no_prefix : (read : Result (List OrderRow) CsvFault) → with_prefix [] read ≡ read
no_prefix (Ok rows) = refl
no_prefix (Err e) = refl

pub one_less : (n k m : ℕ) → n + k ≡ m → n < m → (j : ℕ) × (k ≡ suc j)
one_less n zero m e h = absurd (omega arith)
one_less n (suc j) m e h = (j, refl)

pub rows-over : (n : ℕ) (fields : List (List ℕ)) (records : List (List (List ℕ))) → n ≡ 1000 → rows_of n (fields ∷ records) ≡ Err (fault 1001 kind.TooManyRows)
rows-over n fields records e = let t : (n == 1000) ≡ true = grind (arith, nat_tests) in rw t refl
