-- What is so of each schema.
use Rattle.std.proofs.Common.{◌≡◌, ℕ, zero, suc, nat_le, true, arith}
use Rattle.std.proofs.lemmas.Bool.Decides.{nat_tests}
use Rattle.plant_tables.specs.{IsOlder}

-- what is so of the schemas before the fourth, and of it and those after it, is so of each
pub by_schema : (P : ℕ → Type 0) → P 0 → P 1 → P 2 → P 3 → ((s : ℕ) → nat_le 4 s ≡ true → P s) → (schema : ℕ) → P schema
by_schema P none first second third newest zero = none
by_schema P none first second third newest (suc zero) = first
by_schema P none first second third newest (suc (suc zero)) = second
by_schema P none first second third newest (suc (suc (suc zero))) = third
by_schema P none first second third newest (suc (suc (suc (suc n)))) = newest (suc (suc (suc (suc n)))) (grind (arith, nat_tests))

-- what is so of each older schema
pub by_older : (P : ℕ → Type 0) → P 1 → P 2 → P 3 → (version : ℕ) → IsOlder version → P version
by_older P first second third zero older = absurd (omega (arith, older.0))
by_older P first second third (suc zero) older = first
by_older P first second third (suc (suc zero)) older = second
by_older P first second third (suc (suc (suc zero))) older = third
by_older P first second third (suc (suc (suc (suc n)))) older = absurd (omega (arith, older.1))
