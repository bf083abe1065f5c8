-- What was read of the first tables.
use Rattle.std.proofs.Common.{◌≡◌, sym, ap, subst, ◌∙◌, ℕ, ◌<◌, ◌≤◌, ◌+◌, List, [], ◌∷◌, ◌++◌, map, Vec, Some, None, slice_get, slice_index_or, length, inl, inr, arith, Global}
use Rattle.std.proofs.lemmas.Option.{slice_get_cases, slice_get_within}
use Rattle.std.proofs.lemmas.List.{get_or_past, get_or_append_left, map-append, length-map}
use Rattle.std.proofs.Math.Seq.{get_or-append_seam}
use Rattle.sqlite.specs.Effect.{Database}
use Rattle.sqlite.specs.Order.{Row}
use Rattle.sql_tables.specs.{TableDef}
use Rattle.sql_queries.specs.{comes_before, Lists}
use Rattle.sql_queries.specs.Rises.{Rises}
use Rattle.sql_queries.proofs.RisingLists.{split}
use Rattle.plant_tables.specs.{table_defs_of}
use Rattle.plant_tables.specs.{AreLoaded, AreRising}
use Rattle.plant_tables.specs.declared.loaded.Loaded.{Loaded}

abbrev pub Tables : Type 0
Tables = List (Vec Row Global)

abbrev pub at_place : Tables → ℕ → List Row
at_place tables place = slice_index_or (map (λ table. table.items) tables) place []

-- the fact holds of the rows of each of the first tables, by its definition
abbrev pub Front : (TableDef → List Row → Type 0) → List TableDef → ℕ → Tables → Type 0
Front P table_defs n tables = (place : ℕ) (table_def : TableDef) → slice_get table_defs place ≡ Some table_def → place < n → P table_def (at_place tables place)

pub prefix_more : (P : TableDef → List Row → Type 0) (table_defs : List TableDef) (n : ℕ) (tables : Tables) (rows : Vec Row Global) (table_def : TableDef)
    → length tables ≡ n → slice_get table_defs n ≡ Some table_def → P table_def rows.items → Front P table_defs n tables → Front P table_defs (n + 1) (tables ++ rows ∷ [])
prefix_more P table_defs n tables rows table_def len this it prefix place other is low =
    let lists = map (λ (table : Vec Row Global). table.items) tables in
    let long : length lists ≡ n = length-map tables (λ (table : Vec Row Global). table.items) ∙ len in
    rw map-append (elim (split place n low) [
      | inl earlier ↦
          let within : place < length lists = omega arith in
          rw (get_or_append_left lists (rows.items ∷ []) [] place within) (prefix place other is earlier)
      | inr last ↦
          let at : place ≡ length lists = last ∙ sym long in
          let same : table_def ≡ other = let both : Some table_def ≡ Some other = sym this ∙ ap (slice_get table_defs) (sym last) ∙ is in cc in
          rw (at, get_or-append_seam lists rows.items [] []) (subst (λ f. P f rows.items) same it)
    ])

-- nothing comes after the last
beyond : (table_defs : List TableDef) (tables : Tables) (n : ℕ) → n ≡ length table_defs → length tables ≡ n → (place : ℕ) → slice_get table_defs place ≡ None → at_place tables place ≡ []
beyond table_defs tables n all len place none =
    let high : length table_defs ≤ place = elim ((slice_get_cases table_defs place).1) [
      | inl there ↦ absurd (let is = sym none ∙ there.2 in cc)
      | inr past ↦ past.0
    ] in
    get_or_past (map (λ (table : Vec Row Global). table.items) tables) place [] (omega (arith, length-map tables (λ (table : Vec Row Global). table.items)))

pub all_rising : (schema : ℕ) (x : Loaded) (n : ℕ) → n ≡ length (table_defs_of schema) → length x.tables.items ≡ n
    → Front (λ table_def rows. Rises (comes_before table_def) rows) (table_defs_of schema) n x.tables.items → AreRising schema x
all_rising schema x n all len rising = record {
  tables = λ place table_def is. rising place table_def is (let low = slice_get_within (table_defs_of schema) place table_def is in omega arith);
  no_more = beyond (table_defs_of schema) x.tables.items n all len;
}

pub all_loaded : (schema : ℕ) (db : Database) (x : Loaded) (n : ℕ) → n ≡ length (table_defs_of schema) → length x.tables.items ≡ n
    → Front (Lists db) (table_defs_of schema) n x.tables.items → Front (λ table_def rows. Rises (comes_before table_def) rows) (table_defs_of schema) n x.tables.items → AreLoaded schema db x
all_loaded schema db x n all len lists rising = record {
  tables = λ place table_def is. let low : place < n = (let within = slice_get_within (table_defs_of schema) place table_def is in omega arith) in record { rows = lists place table_def is low; rising = rising place table_def is low };
  no_more = beyond (table_defs_of schema) x.tables.items n all len;
}
