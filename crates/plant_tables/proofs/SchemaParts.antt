-- The tables of a schema, and those that a later one adds, by what a test of each finds.
use Rattle.std.proofs.Common.{◌≡◌, ◌∙◌, ap, sym, subst, ℕ, List, take, drop, Bool, true, false, All, ◌↔◌}
use Rattle.std.proofs.lemmas.Bool.{false≢true}
use Rattle.sqlite.specs.Schema.{Schema}
use Rattle.sql_tables.specs.{TableDef, HasTable, IsFree}
use Rattle.plant_tables.specs.{desk_table_defs, table_defs_of, later_table_defs}
use Rattle.plant_tables.specs.{HasTablesOf}

module _ (there : Schema) (schema n : ℕ) (table_defs own : List TableDef) where
  own_table_defs : table_defs ≡ desk_table_defs → own ≡ take n table_defs → take n desk_table_defs ≡ table_defs_of schema → own ≡ table_defs_of schema
  own_table_defs all prefix is = prefix ∙ ap (λ (fs : List TableDef). take n fs) all ∙ is

  module _ (later : List TableDef) (all : table_defs ≡ desk_table_defs) (prefix : own ≡ take n table_defs) (back : later ≡ drop n table_defs) (is : take n desk_table_defs ≡ table_defs_of schema) (rest : drop n desk_table_defs ≡ later_table_defs schema) where
    pub had_rows : (a b : Bool) → (a ≡ true) ↔ All (HasTable there) own → (b ≡ true) ↔ All (IsFree there) later → a ≡ true → (b ≡ true) ↔ HasTablesOf schema there
    had_rows a b has_rows free given =
        let same = own_table_defs all prefix is in
        let behind : later ≡ later_table_defs schema = back ∙ ap (λ (fs : List TableDef). drop n fs) all ∙ rest in (
          λ reported. (subst (All (HasTable there)) same (has_rows.0 given), subst (All (IsFree there)) behind (free.0 reported)),
          λ has. free.1 (subst (All (IsFree there)) (sym behind) has.1),
        )

  pub lacked : table_defs ≡ desk_table_defs → own ≡ take n table_defs → take n desk_table_defs ≡ table_defs_of schema → (a : Bool) → (a ≡ true) ↔ All (HasTable there) own → a ≡ false → (a ≡ true) ↔ HasTablesOf schema there
  lacked all prefix is a has_rows given = (
    λ reported. absurd (false≢true (sym given ∙ reported)),
    λ has. has_rows.1 (subst (All (HasTable there)) (sym (own_table_defs all prefix is)) has.0),
  )
