-- What is shown of a text by computing it: one that takes rows away is read as DELETE with these columns given, and the columns
-- are those of the key; one that puts a row is read as INSERT with DO UPDATE of each column.
use Rattle.std.proofs.Common.{◌≡◌, refl, ℕ, ◌+◌, ◌-◌, ◌==◌, ◌&&◌, Bool, List, [], ◌∷◌, ◌++◌, length, map, true, false, Option, Some, None, is_some, Ok, ap, ◌∙◌, slice_get, get_or, ltb, eqb, codes, arith}
use Rattle.std.proofs.lemmas.Bool.{and_parts}
use Rattle.std.proofs.lemmas.Bool.Decides.{nat_tests}
use Rattle.std.specs.List.{list_all, range_with_len}
use Rattle.sqlite.specs.Kind.TheVariants.{Integer}
use Rattle.sqlite.specs.Term.{Term}
use Rattle.sqlite_ast.specs.declared.Statement.TheVariants as written
use Rattle.sqlite_schema.specs.declared.schema.Column.{Column}
use Rattle.sqlite_syntax.specs.declared.statement.Parsed.{Parsed}
use Rattle.sqlite_schema.specs.declared.schema.Table.{Table}
use Rattle.sqlite_schema.specs.Names.{same_name, column_named}
use Rattle.sqlite_sql.specs.Term.{col}
use Rattle.sqlite_ast.specs.declared.Upsert.{Upsert}
use Rattle.sqlite_resolve.specs.Compile.{first, small}
use Rattle.sqlite_resolve.specs.Lowering.{max_budget}
use Rattle.sqlite_resolve.specs.Write as write
use Rattle.sqlite_resolve.specs.Write.{places, row}
use Rattle.sqlite_resolve.specs.Given.{given}
use Rattle.sqlite_rules.specs.Probe.{equalities, other_rowid}
use Rattle.sqlite_value.specs.Keys.{plain}
use Rattle.sql_tables.specs.{TableDef, table_of, strict_column, column_indexes_from, Name, filter_of, excluded_sets, IsDeleteStatement, IsInsertStatement, IsUpsertStatement, taking, parameters_from}
use Rattle.sql_tables.proofs.WhereGiven.{Entry, AreColumns, IsGiven, test_of, one_deleted, two_deleted}
use Rattle.sql_tables.proofs.ExcludedTerms.{AreExcluded, excluded_terms, update_read}

-- the column with an index in the definition's rows, the first being 1
abbrev pub column_at : TableDef → ℕ → Column
column_at table_def column_index = get_or table_def.columns (column_index - 1) (strict_column [] Integer true)

abbrev pub entry_at : TableDef → ℕ → Entry
entry_at table_def column_index = record { name = (column_at table_def column_index).name; at = column_index - 1; column = column_at table_def column_index }

-- the indexes are those of columns that WHERE finds by their names, and that are compared as they are
pub record IsCompared (table_def : TableDef) (key : List ℕ) (entries : List Entry) (tests : ℕ → List Term) : Type 0 where
  pub above : list_all (λ p. ltb 0 p) key ≡ true
  pub found : (tree : ℕ) → AreColumns (table_of table_def tree) entries
  pub tested : (tree : ℕ) → tests tree ≡ equalities plain key (column_indexes_from 0 key) ++ other_rowid false

abbrev pub one_test : TableDef → ℕ → ℕ → List Term
one_test table_def i tree = test_of (table_of table_def tree) (entry_at table_def i) 0 ∷ []

abbrev pub two_tests : TableDef → ℕ → ℕ → ℕ → List Term
two_tests table_def i j tree = test_of (table_of table_def tree) (entry_at table_def i) 0 ∷ test_of (table_of table_def tree) (entry_at table_def j) 1 ∷ []

pub takes_one : (text : List ℕ) (table_def : TableDef) (p : Parsed) (i : ℕ) → first text ≡ Ok p → p.statement ≡ written.Delete table_def.name (filter_of ((entry_at table_def i).name ∷ [])) [] → p.formats ≡ []
    → IsCompared table_def (i ∷ []) (entry_at table_def i ∷ []) (one_test table_def i) → ((tree : ℕ) → IsGiven (table_of table_def tree) (entry_at table_def i)) → IsDeleteStatement text table_def (i ∷ [])
takes_one text table_def p i reads statement untimed compared given = record {
  parsed = p;
  reads = reads;
  test = filter_of ((entry_at table_def i).name ∷ []);
  statement = statement;
  untimed = untimed;
  above = compared.above;
  taken = λ schema at tree listed. one_deleted schema (table_of table_def tree) at listed (entry_at table_def i) (compared.found tree) (given tree) ∙ ap (λ ts. Ok (taking tree ts)) (compared.tested tree);
}

pub takes_two : (text : List ℕ) (table_def : TableDef) (p : Parsed) (i j : ℕ) → first text ≡ Ok p
    → p.statement ≡ written.Delete table_def.name (filter_of ((entry_at table_def i).name ∷ (entry_at table_def j).name ∷ [])) [] → p.formats ≡ []
    → IsCompared table_def (i ∷ j ∷ []) (entry_at table_def i ∷ entry_at table_def j ∷ []) (two_tests table_def i j) → ((tree : ℕ) → IsGiven (table_of table_def tree) (entry_at table_def i) × IsGiven (table_of table_def tree) (entry_at table_def j))
    → IsDeleteStatement text table_def (i ∷ j ∷ [])
takes_two text table_def p i j reads statement untimed compared given = record {
  parsed = p;
  reads = reads;
  test = filter_of ((entry_at table_def i).name ∷ (entry_at table_def j).name ∷ []);
  statement = statement;
  untimed = untimed;
  above = compared.above;
  taken = λ schema at tree listed.
      two_deleted schema (table_of table_def tree) at listed (entry_at table_def i) (entry_at table_def j) (compared.found tree) (given tree).0 (given tree).1 ∙ ap (λ ts. Ok (taking tree ts)) (compared.tested tree);
}

-- ---- a text that puts a row

abbrev pub names_of : TableDef → List Name
names_of table_def = map (λ (c : Column). c.name) table_def.columns

-- ON CONFLICT over the columns of a key, DO UPDATE SET a = excluded.a, .. for each column of the table definition
abbrev pub clause_of : TableDef → List ℕ → Upsert
clause_of table_def key = record { target = map (λ column_index. (column_at table_def column_index).name) key; sets = excluded_sets (names_of table_def); filter = None }

abbrev pub is_at : ℕ → Option ℕ → Bool
is_at p None = false
is_at p (Some q) = eqb q p

-- each name is that of the column with the next index, of a table as its rows are given after the parameters
abbrev pub are_excluded : Table → ℕ → ℕ → List Name → Bool
are_excluded table base p [] = true
are_excluded table base p (name ∷ more) = is_at p (column_named (given table base) name) && (is_some (slice_get (given table base).columns p) && are_excluded table base (p + 1) more)

is_at_is : (p : ℕ) (o : Option ℕ) → is_at p o ≡ true → o ≡ Some p
is_at_is p None h = absurd cc
is_at_is p (Some q) h = let same : q ≡ p = grind (arith, nat_tests) in ap Some same

some_is : {X : Type 0} (o : Option X) → is_some o ≡ true → (x : X) × (o ≡ Some x)
some_is None h = absurd cc
some_is (Some x) h = (x, refl)

excluded_are : (table : Table) (base p : ℕ) (names : List Name) → are_excluded table base p names ≡ true → AreExcluded table base p names
excluded_are table base p [] h = tt
excluded_are table base p (name ∷ more) h =
    let outer = and_parts _ _ h in
    let inner = and_parts _ _ outer.1 in
    (is_at_is p _ outer.0, some_is _ inner.0, excluded_are table base (p + 1) more inner.1)

abbrev pub all_column_indexes : TableDef → List ℕ
all_column_indexes table_def = range_with_len 1 (length table_def.columns)

-- The target's columns are those of the key, SET finds each column of the table definition, and together they make the new row.
pub record IsUpdated (table_def : TableDef) (key : List ℕ) : Type 0 where
  pub aims : (tree : ℕ) → places (table_of table_def tree) (clause_of table_def key).target ≡ Ok key
  pub apart : same_name table_def.name (codes "excluded") ≡ false
  pub few : ltb (length (names_of table_def)) max_budget ≡ true
  pub some : (length (clause_of table_def key).sets == 0) ≡ false
  pub found : (tree : ℕ) → are_excluded (table_of table_def tree) (length table_def.columns) (length table_def.columns + 1) (names_of table_def) ≡ true
  pub set : (tree : ℕ) → write.places_from (table_of table_def tree) [] (names_of table_def) ≡ Ok (all_column_indexes table_def)
  pub made : (tree : ℕ) → row (table_of table_def tree) None (all_column_indexes table_def) (col 1 0 ∷ []) (excluded_terms (length table_def.columns + 1 + 1) (names_of table_def)) ≡ Ok (col 1 0 ∷ col 1 0 ∷ parameters_from (length table_def.columns + 2) table_def.columns)

pub upserts_row : (text : List ℕ) (table_def : TableDef) (key : List ℕ) (inserts : IsInsertStatement text table_def (clause_of table_def key ∷ [])) → small inserts.parsed.names ≡ length table_def.columns → IsUpdated table_def key → IsUpsertStatement text table_def
upserts_row text table_def key inserts counted updated = record {
  clause = clause_of table_def key;
  inserts = inserts;
  counted = counted;
  key = key;
  aims = updated.aims;
  sets = updated.some;
  updates = λ schema at tree listed.
      let table = table_of table_def tree in
      let base = length table_def.columns in
      let are = excluded_are table base (base + 1) (names_of table_def) (updated.found tree) in
      update_read schema table at base updated.apart (clause_of table_def key).target (names_of table_def) (all_column_indexes table_def) _ are (updated.set tree) (grind (arith, nat_tests, updated.few)) (updated.made tree);
}
