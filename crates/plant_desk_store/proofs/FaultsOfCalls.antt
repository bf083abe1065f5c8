-- What is so of what a call below came to, once the desk or an adoption reports it.
use Rattle.std.proofs.Common.{◌≡◌, ◌≢◌, ◌≤◌, ◌<◌, ℕ, ℤ, pos, nat_lt, Option, None, Some, Result, Ok, Err, IfOk, IfSome, sym, subst, refl, inl, inr, arith, ◌↔◌}
use Rattle.std.proofs.lemmas.Bool.{cases_Bool}
use Rattle.std.proofs.lemmas.Bool.Decides.{nat_tests}
use lib.IntN.{negsuc}
use Rattle.sqlite.specs.State as store
use Rattle.sqlite.specs.State.{IsUnchanged}
use Rattle.plant_base.specs.{newest_schema}
use Rattle.plant_tables.specs.{IsVersion, IsKnown, FoundTables, Loaded}
use Rattle.plant_tables.specs.declared.finding.FoundTables.TheVariants as tables
use Rattle.plant_migrate.proofs.KnownVersion.{version_number}
use Rattle.sql_tables.specs.{StoreFault}
use Rattle.sql_tables.specs.declared.fault.StoreFault.TheVariants as below
use Rattle.plant_check_rules.specs.declared.rule.Rule.TheVariants as rule
use Rattle.plant_questions.specs.declared.reply.DeskFault.TheVariants.{Shut}
use Rattle.plant_desk_store.specs.{desk_fault, rows_to_test, rows_to_adopt, schema_found}
use Rattle.plant_desk_store.specs.declared.adopting.AdoptFault.{AdoptFault}
use Rattle.plant_desk_store.specs.declared.adopting.AdoptFault.TheVariants as fault

-- no fault of a store is reported as that of a shut desk
pub unshut : (f : StoreFault) → desk_fault f ≢ Shut
unshut below.Store same = absurd (cc)
unshut below.Memory same = absurd (cc)

-- ---- rows

pub tested_rows : (P : Loaded → Type 0) (r : Result (Option Loaded) StoreFault) (x : Loaded) → Ok x ≡ rows_to_test r → IfOk r (λ found. IfSome found P) → P x
tested_rows P (Ok (Some y)) x is h = let same : y ≡ x = cc in subst P same h
tested_rows P (Ok None) x is h = absurd (cc)
tested_rows P (Err f) x is h = absurd (cc)

pub adopted_rows : (P : Loaded → Type 0) (r : Result (Option Loaded) StoreFault) (x : Loaded) → Ok x ≡ rows_to_adopt r → IfOk r (λ found. IfSome found P) → P x
adopted_rows P (Ok (Some y)) x is h = let same : y ≡ x = cc in subst P same h
adopted_rows P (Ok None) x is h = absurd (cc)
adopted_rows P (Err f) x is h = absurd (cc)

-- a fault of the reading names the first rule, where a table isn't declared as its definition says, or is none that names one
pub unread_rows : (P : AdoptFault → Type 0) (r : Result (Option Loaded) StoreFault) (f : AdoptFault) → Err f ≡ rows_to_adopt r → (r ≡ Ok None → P (fault.Damaged rule.Tables)) → P fault.Store → P fault.Memory → P f
unread_rows P (Ok (Some y)) f is lacking store memory = absurd (cc)
unread_rows P (Ok None) f is lacking store memory = let same : fault.Damaged rule.Tables ≡ f = cc in subst P same (lacking refl)
unread_rows P (Err below.Store) f is lacking store memory = let same : fault.Store ≡ f = cc in subst P same store
unread_rows P (Err below.Memory) f is lacking store memory = let same : fault.Memory ≡ f = cc in subst P same memory

-- ---- what was found

abbrev version_of : ℤ → Result FoundTables StoreFault
version_of v = Ok (tables.Version v)

-- what is so of each answer, and of what an adoption makes of it, is so of any
by_found : (P : Result FoundTables StoreFault → Result (Option ℕ) AdoptFault → Type 0) → P (Ok tables.Nothing) (Ok None) → P (Ok tables.NoMeta) (Err (fault.Damaged rule.Tables))
    → ((n : ℕ) → n ≤ newest_schema → P (version_of (pos n)) (Ok (Some n))) → ((n : ℕ) → newest_schema < n → P (version_of (pos n)) (Err (fault.Newer n)))
    → ((n : ℕ) → P (version_of (negsuc n)) (Ok (Some 0)))
    → P (Err below.Store) (Err fault.Store) → P (Err below.Memory) (Err fault.Memory) → (r : Result FoundTables StoreFault) → P r (schema_found r)
by_found P nothing unknown known newer none store memory (Ok tables.Nothing) = nothing
by_found P nothing unknown known newer none store memory (Ok tables.NoMeta) = unknown
by_found P nothing unknown known newer none store memory (Ok (tables.Version (pos n))) = elim (cases_Bool (nat_lt newest_schema n)) [
  | inl above ↦ rw above (newer n (grind (arith, nat_tests)))
  | inr low ↦ rw low (known n (grind (arith, nat_tests)))
]
by_found P nothing unknown known newer none store memory (Ok (tables.Version (negsuc n))) = none n
by_found P nothing unknown known newer none store memory (Err below.Store) = store
by_found P nothing unknown known newer none store memory (Err below.Memory) = memory

pub nothing_found : (r : Result FoundTables StoreFault) → Ok None ≡ schema_found r → r ≡ Ok tables.Nothing
nothing_found =
    by_found (λ r found. Ok None ≡ found → r ≡ Ok tables.Nothing) (λ _. refl) (λ e. absurd cc) (λ n low e. absurd cc) (λ n above e. absurd cc) (λ n e. absurd cc) (λ e. absurd cc) (λ e. absurd cc)

-- the tables of a known schema were found, as table meta says, and nothing was changed
pub record IsFoundKnown (old mid : store.State) (n : ℕ) : Type 0 where
  pub same : IsUnchanged old mid
  pub reported : IsVersion old.now (pos n)
  pub known : IsKnown n

abbrev IsKnownBy : store.State → store.State → ℕ → Result FoundTables StoreFault → Result (Option ℕ) AdoptFault → Type 0
IsKnownBy old mid n r found =
    Ok (Some n) ≡ found → IfOk r (λ found. (z : ℤ) → (found ≡ tables.Version z) ↔ IsVersion old.now z) → IfOk r (λ found. (z : ℤ) → found ≡ tables.Version z → IsUnchanged old mid)
    → IsFoundKnown old mid n

pub known_found : (old mid : store.State) (r : Result FoundTables StoreFault) (n : ℕ) → IsKnownBy old mid n r (schema_found r)
known_found old mid r n = by_found (IsKnownBy old mid n)
    (λ e. absurd cc) (λ e. absurd cc)
    (λ m low e version same.
    let one : n ≡ m = cc in
    let reported : IsVersion old.now (pos n) = subst (λ k. IsVersion old.now (pos k)) (sym one) ((version (pos m)).0 refl) in
    let number = version_number old.now (pos n) reported in
    let itself : n ≡ number.0 = (let both = number.1 in cc) in
    record { same = same (pos m) refl; reported = reported; known = (omega (arith, itself, number.2), omega (arith, one, low)) })
    (λ m above e. absurd cc) (λ m e version. absurd (let number = version_number old.now (negsuc m) ((version (negsuc m)).0 refl) in let both = number.1 in cc)) (λ e. absurd cc) (λ e. absurd cc) r

-- some of the tables were found
pub something_found : (P : Type 0) (r : Result FoundTables StoreFault) (n : ℕ) → Ok (Some n) ≡ schema_found r → IfOk r (λ found. found ≢ tables.Nothing → P) → P
something_found P r n = by_found (λ r found. Ok (Some n) ≡ found → IfOk r (λ found. found ≢ tables.Nothing → P) → P)
    (λ e. absurd cc) (λ e. absurd cc) (λ m low e h. h (λ e. absurd cc)) (λ m above e. absurd cc) (λ m e h. h (λ e. absurd cc)) (λ e. absurd cc) (λ e. absurd cc) r

-- why nothing was found: the store, want of memory, no version, or one above the newest
abbrev IsUnfoundFor : (AdoptFault → Type 0) → AdoptFault → Result FoundTables StoreFault → Result (Option ℕ) AdoptFault → Type 0
IsUnfoundFor P f r found =
    Err f ≡ found → (r ≡ Ok tables.NoMeta → P (fault.Damaged rule.Tables)) → ((n : ℕ) → r ≡ Ok (tables.Version (pos n)) → newest_schema < n → P (fault.Newer n))
    → P fault.Store → P fault.Memory → P f

pub unfound : (P : AdoptFault → Type 0) (r : Result FoundTables StoreFault) (f : AdoptFault) → IsUnfoundFor P f r (schema_found r)
unfound P r f = by_found (IsUnfoundFor P f)
    (λ e. absurd cc) (λ e none newer store memory. subst P (sym (one_fault e)) (none refl)) (λ n low e. absurd cc)
    (λ n above e none newer store memory. subst P (sym (one_fault e)) (newer n refl above)) (λ n e. absurd cc)
    (λ e none newer store memory. subst P (sym (one_fault e)) store) (λ e none newer store memory. subst P (sym (one_fault e)) memory) r
  where
    one_fault : {g : AdoptFault} → ◌≡◌ {A = Result (Option ℕ) AdoptFault} (Err f) (Err g) → f ≡ g
    one_fault e = cc
