-- What is computed of a text that reads a table.
use Rattle.std.proofs.Common.{◌≡◌, refl, ap, Bool, true, List, [], ◌∷◌, ℕ, length, Ok}
use Rattle.sqlite_resolve.specs.Compile.{first}
use Rattle.sqlite_resolve.specs.Lowering.{Checked}
use Rattle.sqlite_syntax.specs.declared.statement.Parsed.{Parsed}
use Rattle.sql_tables.specs.{TableDef}
use Rattle.sql_queries.specs.{is_readable, names_at, all_column_indexes, first_of, select_of, parsed_as}
use Rattle.sql_queries.specs.Selects.{Selects}
use Rattle.plant_tables.proofs.TextsComputed.{AllTexts}

abbrev pub SelectsRows : List ℕ → TableDef → Type 0
SelectsRows text table_def = Selects table_def [] text

-- what is computed of a text and its table, and what it comes to
abbrev pub ReadsRows : List ℕ → TableDef → Type 0
ReadsRows text table_def = ◌≡◌ {A = Bool × Checked Parsed}
    (is_readable table_def, first text)
    (true, Ok (parsed_as (select_of table_def.name (names_at table_def (all_column_indexes table_def)) [] (names_at table_def (first_of table_def.keys))) [] (length text)))

-- texts of which that is computed read all rows of the tables
pub each_selects : (texts : List (List ℕ)) (table_defs : List TableDef) → AllTexts ReadsRows texts table_defs → AllTexts SelectsRows texts table_defs
each_selects [] [] all = tt
each_selects [] (table_def ∷ table_defs) all = all
each_selects (text ∷ texts) [] all = all
each_selects (text ∷ texts) (table_def ∷ table_defs) all = (record { readable = ap (λ x. x.0) all.0; compared = refl; parameters = []; written = ap (λ x. x.1) all.0 }, each_selects texts table_defs all.1)
