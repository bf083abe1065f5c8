-- What a statement makes of the definition's table, of the schema and of the other tables.
use Rattle.std.proofs.Common.{◌≡◌, ◌≢◌, ℕ, ◌+◌, List, [], ◌∷◌, length, true, false, cond, None, Ok, refl, sym, ap, subst, inl, inr, Err, slice_get, slice_range, ◌∙◌, map, IsPermutation}
use Rattle.sqlite.specs.Order.{Row}
use Rattle.sqlite.specs.Tree.{Trees}
use Rattle.sqlite.specs.Table.{Table}
use Rattle.sqlite.specs.Schema.{Schema}
use Rattle.sqlite.specs.Source.{Source}
use Rattle.sqlite.specs.Source.TheVariants.{Values}
use Rattle.sqlite.specs.Command.{Command}
use Rattle.sqlite.specs.Command.TheVariants.{Insert, InsertOr}
use Rattle.sqlite_schema.specs.declared.command.Upsert.{Upsert}
use Rattle.sqlite_syntax.specs.declared.statement.Parsed.{Parsed}
use Rattle.sqlite_resolve.specs.Lowering.{Checked}
use Rattle.sqlite_resolve.specs.Given.{upsert}
use Rattle.sqlite_resolve.specs.declared.error.CompileError.{CompileError}
use Rattle.sqlite.specs.Rows.{Task, Written}
use Rattle.sqlite.specs.Does.{Tally, OnRows, AtPlace, WritesRows}
use Rattle.sqlite_catalog.specs.Listing.{IsGuarded}
use Rattle.sqlite.specs.Effect.{Database, IsDatabase}
use Rattle.sqlite.specs.State.{State, Shows, Runs, Executes, ExecutesIn, mode_of, Writes}
use Rattle.sqlite.specs.Listing.{understood, misses_table}
use Rattle.sqlite_resolve.specs.Compile.{compiled}
use Rattle.sqlite_resolve.specs.declared.compiled.Compiled.{Compiled}
use Rattle.sqlite_schema.specs.declared.command.Conflict.TheVariants.{Abort}
use Rattle.sqlite_schema.specs.declared.schema.Keys.TheVariants.{Enforced}
use Rattle.sqlite_rules.specs.Lists.{Has}
use Rattle.sqlite_rules.proofs.ListLemmas.{all_has, has_got}
use Rattle.sqlite.proofs.Callers.{runs_as, command_of, IsPlain, statement_of}
use Rattle.sqlite_trees.specs.declared.store.Shape.TheVariants as shape
use Rattle.sql_tables.specs.{TableDef, table_of, fits_columns, put, columns_of, IsDeclared, HasStoredRows, IsInsertStatement, IsUpsertStatement, IsPutStatement, terms_of, updating}
use Rattle.sql_tables.proofs.TextsCompile.{plain_command, compiles, adds, clears, clause_read, upserting}
use Rattle.sql_tables.proofs.UpsertValues.{values_given}
use Rattle.sql_tables.proofs.PutUpserts.{went, same_value, task_of, Trees_turn, row_inserted, row_upserted}
use Rattle.sqlite_trees.specs.View.{IsShaped}

-- a text that compiles is understood so
pub understood_as : (schema : Schema) (text : List ℕ) (c : Compiled) → compiled schema text ≡ Ok c → understood schema text ≡ Ok c
unfolding understood
understood_as schema text c is = rw is

-- and a plain command ran, where the text ran
pub ran_as : (text : List ℕ) (params : Row) (old new : State) (count : ℕ) (p : Parsed) (c : Command) → compiled old.now.schema text ≡ Ok (plain_command p c) → Executes text params old new (Ok count)
    → Runs old new None c (statement_of text (understood old.now.schema text)) params count
ran_as text params old new count p c is h =
    let known = understood_as old.now.schema text (plain_command p c) is in
    runs_as text params old new old.now.schema refl c (ap command_of known) (subst IsPlain (sym known) (refl, refl)) count h

-- the text being no more than its statement
pub ran_whole : (text : List ℕ) (params : Row) (old new : State) (count : ℕ) (p : Parsed) (c : Command) → compiled old.now.schema text ≡ Ok (plain_command p c) → slice_range text p.start p.end ≡ text
    → Executes text params old new (Ok count) → Runs old new None c text params count
ran_whole text params old new count p c is whole h =
    subst (λ t. Runs old new None c t params count) (ap (statement_of text) (understood_as old.now.schema text (plain_command p c) is) ∙ whole) (ran_as text params old new count p c is h)

-- A table that is still declared, and whose tree is the same, still has its rows.
pub represents_still : (old new : Database) (table_def : TableDef) (rows : List Row) (there : HasStoredRows old table_def rows) → IsDeclared new.schema table_def there.at there.tree → new.trees there.tree ≡ old.trees there.tree → HasStoredRows new table_def rows
represents_still old new table_def rows there declared same = record {
  at = there.at;
  tree = there.tree;
  declared = declared;
  shaped = subst (IsShaped shape.Table) (sym same) there.shaped;
  same = subst (λ (r : List Row). IsPermutation rows (map (columns_of table_def) r)) (sym same) there.same;
}

pub record Turns (old new : State) (table_def : TableDef) (tree : ℕ) (rows : List Row) : Type 0 where
  pub schema : new.now.schema ≡ old.now.schema
  pub sound : IsDatabase new.now
  pub has_rows : HasStoredRows new.now table_def rows
  pub others : (t : Table) → Has old.now.schema.tables t → t.tree ≢ tree → new.now.trees t.tree ≡ old.now.trees t.tree
  pub shown : Shows old new new.now (cond old.in_transaction old.committed new.now) old.in_transaction

-- a write on rows leaves the schema
pub concluded : (task : Task) (old : State) (command : Command) (db : Trees) (tally : Tally) (after : Database) → OnRows task (mode_of old) None command db (Ok (tally, after))
    → (w : Written) × WritesRows task db command (Ok w) × (after ≡ record { schema = task.schema; trees = w.trees })
concluded task old command db tally after h =
    let made = went h in
    let ended = went made.2 in
    let shown = went ended.2 in
    (made.0, made.1, ap (λ (p : Tally × Database). p.1) (same_value shown.2))

pub turns_from : (old new : State) (table_def : TableDef) (at tree : ℕ) (rows : List Row) → new.now.schema ≡ old.now.schema → IsDatabase new.now → IsDeclared old.now.schema table_def at tree
    → Trees_turn old.now.schema table_def tree old.now.trees new.now.trees rows → Shows old new new.now (cond old.in_transaction old.committed new.now) old.in_transaction → Turns old new table_def tree rows
turns_from old new table_def at tree rows schema sound declared turned shown = record {
  schema = schema;
  sound = sound;
  has_rows = record { at = at; tree = tree; declared = subst (λ s. IsDeclared s table_def at tree) (sym schema) declared; shaped = turned.shaped; same = turned.same };
  others = turned.others;
  shown = shown;
}

-- a statement on the rows of the definition's table leaves them so, where its write does
pub turned_by : (old new : State) (table_def : TableDef) (params : Row) (rows become : List Row) (has_rows : HasStoredRows old.now table_def rows) (command : Command) (text : List ℕ) (count : ℕ) (w : Writes old new None command text params count)
    → AtPlace (λ (table : Table). OnRows (record { limit = old.step_limit; keys = Enforced; schema = old.now.schema; table = table; params = params }) (mode_of old) None command old.now.trees)
    (slice_get old.now.schema.tables has_rows.at) (Ok (w.tally, new.now))
    → ((it : Written) → WritesRows (task_of old.step_limit Enforced old.now.schema table_def has_rows.at has_rows.tree has_rows.declared params) old.now.trees command (Ok it)
    → Trees_turn old.now.schema table_def has_rows.tree old.now.trees it.trees become)
    → Turns old new table_def has_rows.tree become
turned_by old new table_def params rows become has_rows command text count w changed turned =
    let schema = old.now.schema in
    let tree = has_rows.tree in
    let db = old.now.trees in
    let task = task_of old.step_limit Enforced schema table_def has_rows.at tree has_rows.declared params in
    let on : OnRows task (mode_of old) None command db (Ok (w.tally, new.now)) =
    subst (λ o. AtPlace (λ (table : Table). OnRows (record { limit = old.step_limit; keys = Enforced; schema = schema; table = table; params = params }) (mode_of old) None command db) o (Ok (w.tally, new.now)))
    has_rows.declared.listed changed in
    let made = concluded task old command db w.tally new.now on in
    let schema_is : new.now.schema ≡ schema = ap (λ (d : Database). d.schema) made.2 in
    let trees_are : new.now.trees ≡ made.0.trees = ap (λ (d : Database). d.trees) made.2 in
    turns_from old new table_def has_rows.at tree become schema_is w.sound has_rows.declared (subst (λ (t : Trees). Trees_turn schema table_def tree db t become) (sym trees_are) (turned made.0 made.1)) w.shown

-- a text that does not compile did not run, unless it names no table of the schema
not_compiled : (schema : Schema) (text : List ℕ) (e : CompileError) (c : Compiled) → compiled schema text ≡ Err e → misses_table (Err e) ≡ false → understood schema text ≡ Ok c → ⊥
unfolding understood
not_compiled schema text e c wrong found is = let same = rw (wrong, found) at is in cc

pub not_run : (text : List ℕ) (params : Row) (old new : State) (count : ℕ) (e : CompileError) → compiled old.now.schema text ≡ Err e → misses_table (Err e) ≡ false → Executes text params old new (Ok count) → ⊥
unfolding ExecutesIn
not_run text params old new count e wrong found h = not_compiled old.now.schema text e h.0 wrong found h.1.is

-- ---- a text that puts a row

module _ (table_def : TableDef) (text : List ℕ) (params : Row) (fit : fits_columns table_def.columns params ≡ true) (old new : State) (count : ℕ) (rows : List Row) (sound : IsDatabase old.now) (has_rows : HasStoredRows old.now table_def rows)
    (h : Executes text params old new (Ok count)) where
  abbrev schema : Schema
  schema = old.now.schema

  abbrev source : Source
  source = Values (terms_of table_def) (length table_def.columns + 1)

  guarded : IsGuarded schema.indexes (table_of table_def has_rows.tree)
  guarded = all_has (IsGuarded schema.indexes) schema.tables (table_of table_def has_rows.tree) sound.lists.guarded (has_got schema.tables has_rows.at _ has_rows.declared.listed)

  inserts_turn : IsInsertStatement text table_def [] → Turns old new table_def has_rows.tree (put table_def params rows)
  inserts_turn says =
      let d = has_rows.declared in
      let table = table_of table_def has_rows.tree in
      let p = says.parsed in
      let made = says.made schema has_rows.tree in
      let c = Insert has_rows.at source in
      let adding = adds schema p table_def.name says.columns says.rows [] has_rows.at table source says.statement says.untimed refl d.named d.listed made refl in
      let is = compiles schema p table_def.name says.columns says.rows [] has_rows.at table source says.statement says.untimed refl d.named d.listed made (Ok c) adding text says.reads in
      let w = ran_as text params old new count p c is h in
      turned_by old new table_def params rows (put table_def params rows) has_rows c _ count w w.changed
      (λ it. row_inserted old.step_limit Enforced schema table_def has_rows.at has_rows.tree d params says.above guarded fit old.now.trees has_rows.shaped rows has_rows.same (terms_of table_def) (length table_def.columns + 1) it (values_given table_def params fit))

  upserts_turn : IsUpsertStatement text table_def → Turns old new table_def has_rows.tree (put table_def params rows)
  upserts_turn says =
      let d = has_rows.declared in
      let table = table_of table_def has_rows.tree in
      let in' = says.inserts in
      let p = in'.parsed in
      let made = in'.made schema has_rows.tree in
      let draft = updating table_def has_rows.tree in
      let base = length table_def.columns in
      let compiles_as = λ (c : Checked Command) (is : _).
      compiles schema p table_def.name in'.columns in'.rows (says.clause ∷ []) has_rows.at table source in'.statement in'.untimed refl d.named d.listed made c is text in'.reads in
      let clearing = λ (u : Checked Upsert) (is : upsert schema has_rows.at table base says.clause ≡ u).
      clears schema p table_def.name in'.columns in'.rows (says.clause ∷ []) has_rows.at table source in'.statement in'.untimed refl d.named d.listed made says.clause refl u (subst (λ n. upsert schema has_rows.at table n says.clause ≡ u) (sym says.counted) is) in
      elim (clause_read schema has_rows.at table base says.clause says.key (says.aims has_rows.tree) draft says.sets (says.updates schema has_rows.at has_rows.tree d.listed)) [
        | inl fine ↦
            let c = InsertOr has_rows.at Abort source (upserting draft fine.0 ∷ []) in
            let w = ran_as text params old new count p c (compiles_as (Ok c) (clearing (Ok (upserting draft fine.0)) fine.1)) h in
            turned_by old new table_def params rows (put table_def params rows) has_rows c _ count w w.changed
            (λ it. row_upserted old.step_limit Enforced schema table_def has_rows.at has_rows.tree d params in'.above guarded fit old.now.trees has_rows.shaped rows has_rows.same fine.0 (terms_of table_def) (length table_def.columns + 1) it (values_given table_def params fit))
        | inr wrong ↦ absurd (not_run text params old new count wrong.0 (compiles_as (Err wrong.0) (clearing (Err wrong.0) wrong.1.0)) wrong.1.1 h)
      ]

pub put_turns : (table_def : TableDef) (text : List ℕ) → IsPutStatement text table_def → (params : Row) → fits_columns table_def.columns params ≡ true
    → (old new : State) (count : ℕ) (rows : List Row) → IsDatabase old.now → (has_rows : HasStoredRows old.now table_def rows) → Executes text params old new (Ok count) → Turns old new table_def has_rows.tree (put table_def params rows)
put_turns table_def text (inl says) params fit old new count rows sound has_rows h = inserts_turn table_def text params fit old new count rows sound has_rows h says
put_turns table_def text (inr says) params fit old new count rows sound has_rows h = upserts_turn table_def text params fit old new count rows sound has_rows h says
