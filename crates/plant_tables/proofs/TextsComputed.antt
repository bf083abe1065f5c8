-- What is computed of a fixed text, and what it comes to.
use Rattle.std.proofs.Common.{◌≡◌, ap, Bool, ℕ, ◌+◌, ◌==◌, zero, suc, ltb, true, false, List, [], ◌∷◌, None, Ok, codes, length, take, drop, slice_range}
use Rattle.sqlite.specs.Schema.{Schema}
use Rattle.sqlite.specs.Source.TheVariants.{Values}
use Rattle.sqlite.specs.Term.{Term, col}
use Rattle.sqlite_ast.specs.declared.Conflict.TheVariants as conflict
use Rattle.sqlite_ast.specs.declared.CreateIndex.{CreateIndex}
use Rattle.sqlite_ast.specs.declared.CreateTable.{CreateTable}
use Rattle.sqlite_ast.specs.declared.Rows.{Rows}
use Rattle.sqlite_ast.specs.declared.Statement.{Statement}
use Rattle.sqlite_ast.specs.declared.Statement.TheVariants as written
use Rattle.sqlite_ast.specs.declared.Upsert.{Upsert}
use Rattle.sqlite_schema.specs.declared.schema.Table.{Table}
use Rattle.sqlite_schema.specs.Names.{same_name}
use Rattle.sqlite_syntax.specs.declared.statement.Parsed.{Parsed}
use Rattle.sqlite_resolve.specs.Compile.{first, is_reserved, new_rows, small, table_defined_by}
use Rattle.sqlite_resolve.specs.Define as define
use Rattle.sqlite_resolve.specs.Lowering.{Checked, max_budget}
use Rattle.sqlite_resolve.specs.Write as write
use Rattle.sqlite_resolve.specs.Write.{places, row}
use Rattle.sql_tables.specs.{IsCreateStatement, IsInsertStatement, IsUpsertStatement, are_above, parameters_from, terms_of, parse_or, rows_in, names_in, definition_in, TableDef, table_of, IndexDef, IsCreateIndexStatement, index_in, index_of, AreApart, AreCreateStatements}
use Rattle.sql_tables.proofs.ComputedTexts.{upserts_row, clause_of, names_of, all_column_indexes, are_excluded}
use Rattle.sql_tables.proofs.ExcludedTerms.{excluded_terms}
use Rattle.plant_tables.specs.DeskTableDefs.{added_table_defs}
use Rattle.std.specs.Bool.{⊤}

-- ---- what is computed of a text, and what it comes to

-- what the parser reads in a text
abbrev pub read_in : List ℕ → Parsed
read_in text = parse_or (first text)

-- a text that makes a table
module _ (text : List ℕ) (table_def : TableDef) where
  abbrev pub table_in : CreateTable
  table_in = definition_in (read_in text).statement

  -- the first of these are computed, and come to the others
  abbrev pub CreatesTable : Type 0
  CreatesTable = ◌≡◌ {A = Checked Parsed × Statement × List ℕ × Bool × Bool × Checked Table × List ℕ × Checked Table × Bool}
      (first text, (read_in text).statement, table_in.name, table_in.if_missing, table_in.resolves, define.table (read_in text).formats table_in, slice_range text (read_in text).start (read_in text).end, table_defined_by text, is_reserved table_def.name)
      (Ok (read_in text), written.CreateTable table_in, table_def.name, false, false, Ok (table_of table_def 0), text, Ok (table_of table_def 0), false)

  pub makes : CreatesTable → IsCreateStatement text table_def
  makes is = record { parsed = read_in text; reads = ap (λ x. x.0) is; def = table_in; statement = ap (λ x. x.1) is; name = ap (λ x. x.2) is; unconditional = ap (λ x. x.3) is; plain = ap (λ x. x.4) is; defines = ap (λ x. x.5) is; whole = ap (λ x. x.6) is; table_is = ap (λ x. x.7) is; own_name = ap (λ x. x.8) is }

-- a text that makes an index
module _ (text : List ℕ) (index : IndexDef) where
  abbrev pub written_in : CreateIndex
  written_in = index_in (read_in text).statement

  abbrev pub CreatesIndex : Type 0
  CreatesIndex = (◌≡◌ {A = Checked Parsed × List (List ℕ) × List ℕ × Statement × Bool × List ℕ × Bool}
      (first text, (read_in text).formats, slice_range text (read_in text).start (read_in text).end, (read_in text).statement, written_in.if_missing, written_in.table, is_reserved index.table.name)
      (Ok (read_in text), [], text, written.CreateIndex written_in, false, index.table.name, false)) × ((tree : ℕ) → define.index (table_of index.table tree) written_in ≡ Ok (index_of index tree 0))

  pub creates_index : CreatesIndex → IsCreateIndexStatement text index
  creates_index is = record { parsed = read_in text; reads = ap (λ x. x.0) is.0; untimed = ap (λ x. x.1) is.0; whole = ap (λ x. x.2) is.0; def = written_in; statement = ap (λ x. x.3) is.0; unconditional = ap (λ x. x.4) is.0; table_is = ap (λ x. x.5) is.0; own_name = ap (λ x. x.6) is.0; defines = is.1 }

-- a text that adds a row, with these clauses of ON CONFLICT
module _ (text : List ℕ) (table_def : TableDef) (clauses : List Upsert) where
  abbrev pub columns_in : List (List ℕ)
  columns_in = names_in (read_in text).statement

  abbrev pub values_in : Rows
  values_in = rows_in (read_in text).statement

  abbrev pub ReadsInsert : Type 0
  ReadsInsert = ◌≡◌ {A = Checked Parsed × Statement × List (List ℕ) × Bool}
      (first text, (read_in text).statement, (read_in text).formats, are_above table_def.keys)
      (Ok (read_in text), written.Insert conflict.Abort table_def.name columns_in values_in clauses [], [], true)

  abbrev pub MakesRow : Type 0
  MakesRow = (schema : Schema) (tree : ℕ) → new_rows schema (table_of table_def tree) (small (read_in text).names) columns_in values_in ≡ Ok (Values (terms_of table_def) (length table_def.columns + 1))

  abbrev pub inserts : ReadsInsert → MakesRow → IsInsertStatement text table_def clauses
  inserts is made = record { parsed = read_in text; reads = ap (λ x. x.0) is; columns = columns_in; rows = values_in; statement = ap (λ x. x.1) is; untimed = ap (λ x. x.2) is; made = made; above = ap (λ x. x.3) is }

-- a text that adds a row, or updates each column of the one that has its key
module _ (text : List ℕ) (table_def : TableDef) (key : List ℕ) where
  pub upserts : ReadsInsert text table_def (clause_of table_def key ∷ []) → MakesRow text table_def (clause_of table_def key ∷ [])
      → ◌≡◌ {A = ℕ × Bool × Bool × Bool}
      (small (read_in text).names, same_name table_def.name (codes "excluded"), ltb (length (names_of table_def)) max_budget, length (clause_of table_def key).sets == 0)
      (length table_def.columns, false, true, false)
      → ((tree : ℕ) → ◌≡◌ {A = Checked (List ℕ) × Bool × Checked (List ℕ) × Checked (List Term)}
      (places (table_of table_def tree) (clause_of table_def key).target, are_excluded (table_of table_def tree) (length table_def.columns) (length table_def.columns + 1) (names_of table_def), write.places_from (table_of table_def tree) [] (names_of table_def), row (table_of table_def tree) None (all_column_indexes table_def) (col 1 0 ∷ []) (excluded_terms (length table_def.columns + 1 + 1) (names_of table_def)))
      (Ok key, true, Ok (all_column_indexes table_def), Ok (col 1 0 ∷ col 1 0 ∷ parameters_from (length table_def.columns + 2) table_def.columns))) → IsUpsertStatement text table_def
  upserts is made counted updates =
      upserts_row text table_def key (inserts text table_def (clause_of table_def key ∷ []) is made) (ap (λ x. x.0) counted) (record {
        aims = λ tree. ap (λ x. x.0) (updates tree);
        apart = ap (λ x. x.1) counted;
        few = ap (λ x. x.2) counted;
        some = ap (λ x. x.3) counted;
        found = λ tree. ap (λ x. x.1) (updates tree);
        set = λ tree. ap (λ x. x.2) (updates tree);
        made = λ tree. ap (λ x. x.3) (updates tree);
      })

-- ---- the texts that make the tables

-- it is so of each text and what is at its position
abbrev pub AllTexts : {X : Type 0} → (List ℕ → X → Type 0) → List (List ℕ) → List X → Type 0
AllTexts so [] [] = ⊤
AllTexts so [] (x ∷ xs) = ⊥
AllTexts so (text ∷ texts) [] = ⊥
AllTexts so (text ∷ texts) (x ∷ xs) = so text x × AllTexts so texts xs

-- so it is of as many of the first
pub prefix : {X : Type 0} (so : List ℕ → X → Type 0) (n : ℕ) (texts : List (List ℕ)) (xs : List X) → AllTexts so texts xs → AllTexts so (take n texts) (take n xs)
prefix so zero texts xs all = tt
prefix so (suc n) [] [] all = tt
prefix so (suc n) [] (x ∷ xs) all = elim all [ ]
prefix so (suc n) (text ∷ texts) [] all = elim all [ ]
prefix so (suc n) (text ∷ texts) (x ∷ xs) all = (all.0, prefix so n texts xs all.1)

-- and of those after them
pub behind : {X : Type 0} (so : List ℕ → X → Type 0) (n : ℕ) (texts : List (List ℕ)) (xs : List X) → AllTexts so texts xs → AllTexts so (drop n texts) (drop n xs)
behind so zero texts xs all = all
behind so (suc n) [] [] all = tt
behind so (suc n) [] (x ∷ xs) all = elim all [ ]
behind so (suc n) (text ∷ texts) [] all = elim all [ ]
behind so (suc n) (text ∷ texts) (x ∷ xs) all = behind so n texts xs all.1

-- texts of which that is computed make the tables
pub each_makes : (texts : List (List ℕ)) (table_defs : List TableDef) → AllTexts CreatesTable texts table_defs → AreCreateStatements texts table_defs
each_makes [] [] all = tt
each_makes [] (table_def ∷ table_defs) all = all
each_makes (text ∷ texts) [] all = all
each_makes (text ∷ texts) (table_def ∷ table_defs) all = (makes text table_def all.0, each_makes texts table_defs all.1)

-- ---- those that a schema adds to the one before it

-- the texts make them, and no two share a name
abbrev pub AreAdded : ℕ → List (List ℕ) → Type 0
AreAdded schema texts = AreApart (added_table_defs schema) × AreCreateStatements texts (added_table_defs schema)
