-- A keeper that two calls left as the same desk.
use Rattle.std.proofs.Common.{ℕ, ◌∙◌, refl}
use Rattle.plant_keeper.specs.{IsSameDesk}

pub same_itself : {K : Type 0} {B : Type 0} (is_honest : K → Type 0) (schema_of : K → ℕ) (has_foreign_tables : K → B → Type 0) (k : K)
    → IsSameDesk is_honest schema_of has_foreign_tables k k
same_itself is_honest schema_of has_foreign_tables k = record { honest = λ h. h; schema = λ h. refl; foreign_tables = λ h b represented. represented }

pub same_after : {K : Type 0} {B : Type 0} (is_honest : K → Type 0) (schema_of : K → ℕ) (has_foreign_tables : K → B → Type 0) (a b c : K)
    → IsSameDesk is_honest schema_of has_foreign_tables a b → IsSameDesk is_honest schema_of has_foreign_tables b c → IsSameDesk is_honest schema_of has_foreign_tables a c
same_after is_honest schema_of has_foreign_tables a b c first second = record {
  honest = λ h. first.honest (second.honest h);
  schema = λ h. second.schema h ∙ first.schema (second.honest h);
  foreign_tables = λ h x represented. second.foreign_tables h x (first.foreign_tables (second.honest h) x represented);
}
