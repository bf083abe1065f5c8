-- What a text that makes a definition's table leaves.
use Rattle.std.proofs.Common.{◌≡◌, inl, inr, ℕ, ◌+◌, ◌<◌, List, [], ◌∷◌, ◌++◌, map, length, Bool, true, false, not, cond, Option, Some, None, Ok, refl, sym, ap, subst, ◌∙◌, slice_get, get_or, codes, is_some, arith, add-zero, option_and_then, IsPermutation}
use Rattle.std.proofs.lemmas.Bool.{cases_Bool, and_parts, not-false, not-true}
use Rattle.std.proofs.lemmas.Bool.Decides.{nat_tests}
use Rattle.std.proofs.lemmas.List.Sorted.{IsPermutation-refl}
use Rattle.std.specs.List.{list_any, list_all, position_from}
use Rattle.sqlite.specs.Order.{Row, column}
use Rattle.sqlite.specs.Tree.{Trees}
use Rattle.sqlite.specs.Table.{Table}
use Rattle.sqlite.specs.Schema.{Schema}
use Rattle.sqlite.specs.Command.TheVariants.{CreateTable}
use Rattle.sqlite.specs.Does.{Tally, Does, lacks_sequence}
use Rattle.sqlite.specs.Rows.{sequence}
use Rattle.sqlite.specs.Effect.{Database, IsDatabase}
use Rattle.sqlite.specs.Change.{created, next_tree, automatics, KeepsRows}
use Rattle.sqlite.specs.State.{State, Shows, Executes, Writes, mode_of}
use Rattle.sqlite_ast.specs.declared.CreateTable as ast
use Rattle.sqlite_ast.specs.declared.Statement.TheVariants as written
use Rattle.sqlite_syntax.specs.declared.statement.Parsed.{Parsed}
use Rattle.sqlite_resolve.specs.Define as define
use Rattle.sqlite_resolve.specs.Compile.{compiled, first, meaning, timed, returning, command, create_table, creates, is_attached, is_reserved, small}
use Rattle.sqlite_schema.specs.declared.schema.Index.{Index}
use Rattle.sqlite_schema.specs.Names.{same_name, table_named, view_named, index_named}
use Rattle.sqlite_schema.specs.Rules.{guards}
use Rattle.sqlite_value.specs.Keys.{plain}
use Rattle.sqlite_rules.specs.Lists.{Has}
use Rattle.sqlite_rules.proofs.ListLemmas.{all_has, has_left, has_either, has_got}
use Rattle.sqlite_rules.proofs.ActionLemmas.{got_last, got_still}
use Rattle.sqlite_catalog.proofs.StepLemmas.{same_itself, no_table, no_index, no_view, table_below}
use Rattle.sqlite_catalog.specs.Listing.{IsSound}
use Rattle.sqlite_catalog.proofs.LayoutLemmas.{zipped_left, index_owner}
use Rattle.sqlite_trees.specs.View.{IsShaped}
use Rattle.sqlite_trees.specs.declared.store.Shape.TheVariants as shape
use Rattle.sql_tables.specs.{TableDef, table_of, columns_of, IsDeclared, HasStoredRows, IsFree, IsCreateStatement}
use Rattle.sql_tables.proofs.DistinctTableNames.{Differ}
use Rattle.sql_tables.proofs.StatementEffect.{ran_whole, represents_still}
use Rattle.sql_tables.proofs.PutUpserts.{went, same_value}
use Rattle.sql_tables.proofs.RowConflicts.{plains_are}
use Rattle.sql_tables.proofs.TextsCompile.{plain_command, compiles_to}
use Rattle.sqlite_trees.proofs.ListLemmas.{all-append}
use Rattle.std.proofs.lemmas.List.Folds.{list_any-append}

module _ (schema : Schema) (p : Parsed) (def : ast.CreateTable) (name : List ℕ) (table : Table) (statement : p.statement ≡ written.CreateTable def) (named : def.name ≡ name)
    (unconditional : def.if_missing ≡ false) (unresolved : def.resolves ≡ false) (defines : define.table p.formats def ≡ Ok table) (bare : (length table.computed ≡ 0) × (length table.stamps.places ≡ 0))
    (no_t : table_named schema name ≡ None) (no_v : view_named schema name ≡ None) (no_i : index_named schema name ≡ None) (own_name : is_reserved name ≡ false) where
  makes : create_table schema p.formats def ≡ Ok CreateTable
  unfolding create_table creates is_attached
  makes = rw (defines, named, unconditional, unresolved, no_t, no_v, no_i, own_name, bare.0, bare.1) refl

  times : timed schema p.formats p.statement ≡ []
  unfolding timed
  times = rw statement refl

  means : meaning schema p (small p.names) ≡ Ok (CreateTable, None)
  unfolding meaning returning command
  means = rw (statement, makes) refl

  pub compiles_create : (text : List ℕ) → first text ≡ Ok p → compiled schema text ≡ Ok (plain_command p CreateTable)
  compiles_create = compiles_to schema p (Ok CreateTable) times means

creates_by : (text : List ℕ) (table_def : TableDef) (says : IsCreateStatement text table_def) (old new : State) (count : ℕ) → IsFree old.now.schema table_def → Executes text [] old new (Ok count) → Writes old new None CreateTable text [] count
creates_by text table_def says old new count free h =
    let schema = old.now.schema in
    let is = compiles_create schema says.parsed says.def table_def.name (table_of table_def 0) says.statement says.name says.unconditional says.plain says.defines (refl, refl)
    (no_table schema table_def.name free.unused) (no_view schema table_def.name free.unused) (no_index schema table_def.name free.unused) says.own_name text says.reads in
    ran_whole text [] old new count says.parsed CreateTable is says.whole h

-- ---- the schema with one table more

column_index_new : {X : Type 0} (q : X → Bool) (xs : List X) (x : X) (from : ℕ) → position_from q from xs ≡ None → q x ≡ true → position_from q from (xs ++ x ∷ []) ≡ Some (from + length xs)
column_index_new q [] x from none hit = rw (hit, add-zero) refl
column_index_new q (y ∷ ys) x from none hit = elim (cases_Bool (q y)) [
  | inl is ↦ absurd (let e = rw is at none in cc)
  | inr isnt ↦ rw isnt (column_index_new q ys x (from + 1) (rw isnt at none) hit ∙ ap Some (omega arith))
]

place_kept : {X : Type 0} (q : X → Bool) (xs ys : List X) (from k : ℕ) → position_from q from xs ≡ Some k → position_from q from (xs ++ ys) ≡ Some k
place_kept q [] ys from k is = absurd cc
place_kept q (x ∷ xs) ys from k is = elim (cases_Bool (q x)) [
  | inl first ↦ rw first (rw first at is)
  | inr later ↦ rw later (place_kept q xs ys (from + 1) k (rw later at is))
]

-- what is found by its name is still found
found_kept : {X : Type 0} (q : X → Bool) (xs ys : List X) → is_some (option_and_then (slice_get xs) (position_from q 0 xs)) ≡ true → is_some (option_and_then (slice_get (xs ++ ys)) (position_from q 0 (xs ++ ys))) ≡ true
found_kept {X} q xs ys there = go _ refl there
  where
    at_place : (k : ℕ) (o : Option X) → position_from q 0 xs ≡ Some k → slice_get xs k ≡ o → is_some o ≡ true → is_some (option_and_then (slice_get (xs ++ ys)) (position_from q 0 (xs ++ ys))) ≡ true
    at_place k None at got some = absurd cc
    at_place k (Some x) at got some = rw (place_kept q xs ys 0 k at, got_still xs ys (xs ++ ys) k x refl got) refl

    go : (o : Option ℕ) → position_from q 0 xs ≡ o → is_some (option_and_then (slice_get xs) o) ≡ true → is_some (option_and_then (slice_get (xs ++ ys)) (position_from q 0 (xs ++ ys))) ≡ true
    go None at some = absurd cc
    go (Some k) at some = at_place k (slice_get xs k) at refl some

auto_is : (table : Table) (keys : List (List ℕ)) (at tree : ℕ) (i : Index) → Has (automatics table at tree keys) i → (i.table ≡ table.tree) × Has keys i.columns × ((k : ℕ) × (i.order ≡ get_or table.orders k plain))
auto_is table [] at tree i none = absurd none
auto_is table (key ∷ keys) at tree i (inl is) = (ap (λ (x : Index). x.table) is, inl (ap (λ (x : Index). x.columns) is), (at, ap (λ (x : Index). x.order) is))
auto_is table (key ∷ keys) at tree i (inr more) = let it = auto_is table keys (at + 1) (tree + 1) i more in (it.0, inr it.1, it.2)

-- each index is on a table of the schema
index_on : (schema : Schema) (db : Trees) (i : Index) → IsSound schema db → Has schema.indexes i → i.table < next_tree schema
index_on schema db i sound listed =
    let row = zipped_left _ _ schema.indexes i sound.lists.listed.indexes listed in
    let on : i.table ≡ row.2.table.tree = index_owner row.2.table i (column row.0 4) row.2.defined in
    let below : row.2.table.tree < next_tree schema = table_below schema row.2.table row.2.listed in
    omega arith

guarded_tree : (i : Index) (table : Table) → guards i table ≡ true → i.table ≡ table.tree
guarded_tree i table g = let each = and_parts i.is_unique _ g in grind (arith, nat_tests, each.1)

module _ (schema : Schema) (db : Trees) (table_def : TableDef) (sound : IsSound schema db) where
  abbrev new_tree : ℕ
  new_tree = next_tree schema

  abbrev new_table : Table
  new_table = table_of table_def new_tree

  abbrev after : Schema
  after = created schema (table_of table_def 0)

  declared_new : IsFree schema table_def → IsDeclared after table_def (length schema.tables) new_tree
  declared_new free = record {
    named = column_index_new (λ t. same_name t.name table_def.name) schema.tables new_table 0 (no_table schema table_def.name free.unused) (same_itself table_def.name) ∙ ap Some (omega arith);
    listed = got_last schema.tables new_table;
    own = λ t listed same. elim (has_either schema.tables (new_table ∷ []) t listed) [
      | inl old ↦ let below = table_below schema t old in absurd (omega arith)
      | inr (inl is) ↦ is
      | inr (inr none) ↦ absurd none
    ];
    keyed = λ i listed g. elim (has_either schema.indexes (automatics new_table 0 (new_tree + 1) table_def.keys) i listed) [
      | inl old ↦ let below = index_on schema db i sound old in let on = guarded_tree i new_table g in absurd (omega arith)
      | inr new ↦ let it = auto_is new_table table_def.keys 0 (new_tree + 1) i new in (it.2.1 ∙ plains_are table_def.keys it.2.0, it.1)
    ];
    alone = all-append _ schema.tables (new_table ∷ []) free.alone (tt, tt);
  }

  declared_kept : (f : TableDef) (at tree : ℕ) → IsDeclared schema f at tree → IsDeclared after f at tree
  declared_kept f at tree d =
      let low : tree < new_tree = table_below schema (table_of f tree) (has_got schema.tables at _ d.listed) in
      record {
        named = place_kept (λ t. same_name t.name f.name) schema.tables (new_table ∷ []) 0 at d.named;
        listed = got_still schema.tables (new_table ∷ []) _ at _ refl d.listed;
        own = λ t listed same. elim (has_either schema.tables (new_table ∷ []) t listed) [
          | inl old ↦ d.own t old same
          | inr (inl is) ↦ let e : t.tree ≡ new_tree = ap (λ (x : Table). x.tree) is in absurd (omega arith)
          | inr (inr none) ↦ absurd none
        ];
        keyed = λ i listed g. elim (has_either schema.indexes (automatics new_table 0 (new_tree + 1) table_def.keys) i listed) [
          | inl old ↦ d.keyed i old g
          | inr new ↦ let it = auto_is new_table table_def.keys 0 (new_tree + 1) i new in let on = guarded_tree i (table_of f tree) g in let e = it.0 in absurd (omega arith)
        ];
        alone = all-append _ schema.tables (new_table ∷ []) d.alone (tt, tt);
      }

  pub counted_kept : lacks_sequence schema ≡ false → lacks_sequence after ≡ false
  counted_kept none = elim (cases_Bool (list_any (λ (t : Table). t.is_counted) schema.tables)) [
    | inl some ↦
        let there : is_some (sequence schema) ≡ true = not-false _ (rw some at none) in
        let still : is_some (sequence after) ≡ true = found_kept (λ (t : Table). same_name t.name (codes "sqlite_sequence")) schema.tables (new_table ∷ []) there in
        rw (still, list_any-append (λ (t : Table). t.is_counted) schema.tables (new_table ∷ []), some) refl
    | inr nowhere ↦ rw (list_any-append (λ (t : Table). t.is_counted) schema.tables (new_table ∷ []), nowhere) refl
  ]

pub record Made (old new : State) (table_def : TableDef) : Type 0 where
  pub schema : new.now.schema ≡ created old.now.schema (table_of table_def 0)
  pub sound : IsDatabase new.now
  pub has_rows : HasStoredRows new.now table_def []
  pub kept : (f : TableDef) (rows : List Row) → HasStoredRows old.now f rows → HasStoredRows new.now f rows
  pub others : (t : Table) → Has old.now.schema.tables t → Has new.now.schema.tables t × (new.now.trees t.tree ≡ old.now.trees t.tree)
  pub shown : Shows old new new.now (cond old.in_transaction old.committed new.now) old.in_transaction

-- what the command makes of the database
made_is : (old new : State) (text : List ℕ) (table_def : TableDef) (tally : Tally) → IsCreateStatement text table_def → IsSound old.now.schema old.now.trees → lacks_sequence old.now.schema ≡ false
    → Does old.step_limit (mode_of old) [] old.now text None CreateTable (Ok (tally, new.now))
    → (new.now.schema ≡ created old.now.schema (table_of table_def 0)) × (new.now.trees (next_tree old.now.schema) ≡ []) × KeepsRows old.now.schema.tables old.now.trees new.now.trees
made_is old new text table_def tally says sound counted h =
    let all = went h in
    let first = went all.1 in
    let made = first.1 in
    let both : Ok made.table ≡ Ok (table_of table_def 0) = sym made.defined ∙ says.table_is in
    let same : made.table ≡ table_of table_def 0 = cc in
    let schema : first.0.schema ≡ created old.now.schema (table_of table_def 0) = made.is ∙ ap (created old.now.schema) same in
    let plain : lacks_sequence first.0.schema ≡ false = ap lacks_sequence schema ∙ counted_kept old.now.schema old.now.trees table_def sound counted in
    let now : new.now ≡ first.0 = ap (λ (q : Tally × Database). q.1) (same_value all.2) ∙ same_value (rw plain at first.2) in
    (ap (λ (d : Database). d.schema) now ∙ schema, ap (λ (d : Database). d.trees (next_tree old.now.schema)) now ∙ made.empty, subst (λ (t : Trees). KeepsRows old.now.schema.tables old.now.trees t) (sym (ap (λ (d : Database). d.trees) now)) made.others)

pub create_makes : (text : List ℕ) (table_def : TableDef) (says : IsCreateStatement text table_def) (old new : State) (count : ℕ) → IsDatabase old.now → IsFree old.now.schema table_def → lacks_sequence old.now.schema ≡ false → Executes text [] old new (Ok count) → Made old new table_def
create_makes text table_def says old new count sound free counted h =
    let schema = old.now.schema in
    let w = creates_by text table_def says old new count free h in
    let is = made_is old new text table_def w.tally says sound counted w.changed in
    record {
      schema = is.0;
      sound = w.sound;
      has_rows = record {
        at = length schema.tables;
        tree = next_tree schema;
        declared = subst (λ s. IsDeclared s table_def (length schema.tables) (next_tree schema)) (sym is.0) (declared_new schema old.now.trees table_def sound free);
        shaped = subst (IsShaped shape.Table) (sym is.1) (tt, tt);
        same = subst (λ (r : List Row). IsPermutation [] (map (columns_of table_def) r)) (sym is.1) (IsPermutation-refl []);
      };
      kept = λ f rows there.
          represents_still old.now new.now f rows there (subst (λ s. IsDeclared s f there.at there.tree) (sym is.0) (declared_kept schema old.now.trees table_def sound f there.at there.tree there.declared))
          (all_has _ schema.tables (table_of f there.tree) is.2 (has_got _ there.at _ there.declared.listed));
      others = λ t listed. (subst (λ s. Has s.tables t) (sym is.0) (has_left schema.tables _ t listed), all_has _ schema.tables t is.2 listed);
      shown = w.shown;
    }

-- ---- the next table to be made is still free

pub none_more : {X : Type 0} (q : X → Bool) (xs ys : List X) (from : ℕ) → position_from q from xs ≡ None → list_all (λ y. not (q y)) ys ≡ true → position_from q from (xs ++ ys) ≡ None
none_more q [] [] from none clear = refl
none_more q [] (y ∷ ys) from none clear = let each = and_parts _ _ clear in let miss : q y ≡ false = not-true _ each.0 in rw miss (none_more q [] ys (from + 1) refl each.1)
none_more q (x ∷ xs) ys from none clear = elim (cases_Bool (q x)) [
  | inl hit ↦ absurd (let e = rw hit at none in cc)
  | inr miss ↦ rw miss (none_more q xs ys (from + 1) (rw miss at none) clear)
]

pub free_still : (schema : Schema) (db : Trees) (f g : TableDef) → IsSound schema db → Differ f g → IsFree schema g → IsFree (created schema (table_of f 0)) g
free_still schema db f g sound differ free =
    let tree = next_tree schema in
    let tables : position_from (λ (t : Table). same_name t.name g.name) 0 (schema.tables ++ table_of f tree ∷ []) ≡ None =
    none_more _ schema.tables (table_of f tree ∷ []) 0 (no_table schema g.name free.unused) (rw differ.names refl) in
    let indexes : position_from (λ (i : Index). same_name i.name g.name) 0 (schema.indexes ++ automatics (table_of f tree) 0 (tree + 1) f.keys) ≡ None =
    none_more _ schema.indexes _ 0 (no_index schema g.name free.unused) (differ.guards tree) in
    record {
      unused = rw (tables, indexes, no_view schema g.name free.unused) refl;
      alone = all-append _ schema.tables (table_of f tree ∷ []) free.alone (tt, tt);
    }
