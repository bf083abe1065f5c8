-- How something is stored: in one column, and in adjacent columns.
use Rattle.std.specs.Prelude.{ℕ, ◌+◌, ◌==◌, List, [], ◌∷◌, ◌++◌, length, Option, Some, None, option_map, if◌then◌else◌}
use Rattle.sqlite.specs.declared.types.Value.{Value}
use Rattle.sqlite.specs.Order.{Row, column}
use Rattle.sqlite_schema.specs.declared.schema.Column.{Column}
use Rattle.plant_base.specs.{◌>>=◌}

-- A kind of value: how a column of this name is declared for it, what one is stored as, and what a stored value says.
pub record Kind (A : Type 0) : Type 0 where
  pub declared : List ℕ → Column
  pub stored : A → Value
  pub read : Value → Option A

-- Adjacent columns: how they are declared, what something is stored as in them, and what a row says in
-- them from a column index on.
pub record Columns (A : Type 0) : Type 0 where
  pub declared : List Column
  pub stored : A → Row
  pub read : Row → ℕ → Option A

-- one column of this name, for a kind of value
abbrev pub one : {A : Type 0} → List ℕ → Kind A → Columns A
one name kind = record {
  declared = kind.declared name ∷ [];
  stored = λ a. kind.stored a ∷ [];
  read = λ row at. kind.read (column row at);
}

infixr 11 ◌⊗◌
-- these, and those that come after them
abbrev pub ◌⊗◌ : {A B : Type 0} → Columns A → Columns B → Columns (A × B)
a ⊗ b = record {
  declared = a.declared ++ b.declared;
  stored = λ p. a.stored p.0 ++ b.stored p.1;
  read = λ row at. (do
    x ← a.read row at
    y ← b.read row (at + length a.declared)
    Some (x, y));
}

-- the same columns, for what is made of what they say, and taken apart into it
abbrev pub made : {A B : Type 0} → (A → B) → (B → A) → Columns A → Columns B
made make parts c = record {
  declared = c.declared;
  stored = λ b. c.stored (parts b);
  read = λ row at. option_map make (c.read row at);
}

-- what a row says that has these columns and no others
abbrev pub read_row : {A : Type 0} → Columns A → Row → Option A
read_row c row = if length row == length c.declared then c.read row 0 else None
