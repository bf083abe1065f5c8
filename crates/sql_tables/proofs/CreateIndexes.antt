-- What texts that make indexes leave.
use Rattle.std.proofs.Common.{◌≡◌, ◌⊎◌, inl, inr, ℕ, zero, suc, ◌+◌, ◌<◌, ◌≤◌, List, [], ◌∷◌, ◌++◌, map, length, Bool, true, false, Some, None, Ok, Err, refl, sym, ap, subst, ◌∙◌, slice_get, get_or, is_some, IsTrue, arith, if◌then◌else◌}
use Rattle.std.proofs.lemmas.Bool.{cases_Bool, and_parts, not-true}
use Rattle.std.specs.List.{list_all, position_from}
use Rattle.std.specs.Option.{option_or}
use Rattle.sqlite.specs.Order.{Row}
use Rattle.sqlite.specs.Tree.{Trees}
use Rattle.sqlite.specs.Table.{Table}
use Rattle.sqlite.specs.Schema.{Schema}
use Rattle.sqlite.specs.Command.{Command}
use Rattle.sqlite.specs.Command.TheVariants.{CreateIndex, Nothing}
use Rattle.sqlite.specs.Effect.{Database, IsDatabase}
use Rattle.sqlite.specs.State.{State, Shows, Executes, Writes, mode_of}
use Rattle.sqlite.specs.Does.{Tally, Does, AtPlace, Defines, MakesIndex, lacks_sequence}
use Rattle.sqlite_catalog.specs.Change.{indexed, next_tree, KeepsRows}
use Rattle.sqlite_ast.specs.declared.CreateIndex as ast
use Rattle.sqlite_ast.specs.declared.Statement.TheVariants as written
use Rattle.sqlite_syntax.specs.declared.statement.Parsed.{Parsed}
use Rattle.sqlite_resolve.specs.Lowering.{Checked, and_then}
use Rattle.sqlite_resolve.specs.declared.error.CompileError.{CompileError}
use Rattle.sqlite_resolve.specs.declared.error.CompileError.TheVariants.{Misuse, Exists}
use Rattle.sqlite_resolve.specs.Define as define
use Rattle.sqlite_resolve.specs.Compile.{compiled, first, meaning, timed, returning, command, create_index, creates, is_reserved, small, index_defined_by, index_in}
use Rattle.sqlite_schema.specs.declared.schema.Index.{Index}
use Rattle.sqlite_schema.specs.Names.{same_name, table_named, view_named, index_named}
use Rattle.sqlite_catalog.proofs.StepLemmas.{no_table, no_index, no_view}
use Rattle.sqlite_rules.specs.Lists.{Has}
use Rattle.sqlite_rules.proofs.ListLemmas.{all_has, has_left, has_right, has_either, has_got}
use Rattle.sql_tables.specs.{TableDef, table_of, Contents, IsDeclared, HasStoredRows, HaveStoredRows, IsFree, AreFree, RunsInside, Founds, IndexDef, index_of, HasIndex, IsCreateIndexStatement, AreCreateIndexStatements, AreOf, AddsIndexes, are_named_apart}
use Rattle.sql_tables.proofs.TextsCompile.{plain_command, compiled_as, IsRefusedBy, compiles_to}
use Rattle.sql_tables.proofs.StatementEffect.{not_run, ran_whole, represents_still}
use Rattle.sql_tables.proofs.PutUpserts.{went, same_value}
use Rattle.sql_tables.proofs.CreateMakesTable.{none_more}
use Rattle.sql_tables.proofs.StatementSequence.{others_then, shown_then}
use Rattle.sql_tables.proofs.ListsAgree.{one_further, there_too, past_all}

-- ---- what the text compiles to

module _ (schema : Schema) (p : Parsed) (def : ast.CreateIndex) (table : Table) (index : Index) (at : ℕ) (statement : p.statement ≡ written.CreateIndex def) (untimed : p.formats ≡ [])
    (unconditional : def.if_missing ≡ false) (own_name : is_reserved def.table ≡ false) (named : table_named schema def.table ≡ Some at) (listed : slice_get schema.tables at ≡ Some table)
    (defines : define.index table def ≡ Ok index) where
  abbrev naming : Checked Bool
  naming = creates false def.name (index_named schema def.name) (option_or (table_named schema def.name) (view_named schema def.name))

  -- The name is free, or the text is refused.
  named_so : (naming ≡ Ok true) ⊎ ((e : CompileError) × IsRefusedBy naming e)
  unfolding creates
  named_so = elim (cases_Bool (is_reserved def.name)) [
    | inl reserved ↦ inr (Misuse, (rw reserved refl, refl))
    | inr other ↦ elim (cases_Bool (is_some (option_or (table_named schema def.name) (view_named schema def.name)))) [
      | inl taken ↦ inr (Exists, (rw (other, taken) refl, refl))
      | inr clear ↦ elim (cases_Bool (is_some (index_named schema def.name))) [
        | inl again ↦ inr (Exists, (rw (other, clear, again) refl, refl))
        | inr none ↦ inl (rw (other, clear, none) refl)
      ]
    ]
  ]

  makes : (is_new : Checked Bool) → naming ≡ is_new → create_index schema def ≡ and_then is_new (λ is_new. if is_new then Ok (CreateIndex at) else Ok Nothing)
  unfolding create_index
  makes (Ok true) is = rw (own_name, named, listed, defines, unconditional, is) refl
  makes (Ok false) is = rw (own_name, named, listed, unconditional, is) refl
  makes (Err e) is = rw (own_name, named, listed, unconditional, is) refl

  means : (c : Checked Command) → create_index schema def ≡ c → meaning schema p (small p.names) ≡ and_then c (λ c. Ok (c, None))
  unfolding meaning returning command
  means c is = rw (statement, is) refl

  times : timed schema p.formats p.statement ≡ []
  unfolding timed
  times = rw (statement, untimed) refl

  compiles : (c : Checked Command) → create_index schema def ≡ c → (text : List ℕ) → first text ≡ Ok p → compiled schema text ≡ compiled_as p c
  compiles c is = compiles_to schema p c times (means c is)

  -- what a text that was not refused compiles to
  pub compiles_index : (text : List ℕ) → first text ≡ Ok p → (compiled schema text ≡ Ok (plain_command p (CreateIndex at))) ⊎ ((e : CompileError) × IsRefusedBy (compiled schema text) e)
  compiles_index text reads = elim named_so [
    | inl free ↦ inl (compiles (Ok (CreateIndex at)) (makes (Ok true) free) text reads)
    | inr barred ↦ inr (barred.0, (compiles (Err barred.0) (makes (Err barred.0) barred.1.0) text reads, barred.1.1))
  ]

-- the index that the text defines
defined_so : (text : List ℕ) (index : IndexDef) (says : IsCreateIndexStatement text index) (tree : ℕ) → index_defined_by (table_of index.table tree) text ≡ Ok (index_of index tree 0)
unfolding index_defined_by index_in
defined_so text index says tree = rw (says.reads, says.statement, says.defines tree) refl

indexes_by : (text : List ℕ) (index : IndexDef) (says : IsCreateIndexStatement text index) (old new : State) (at tree count : ℕ) → IsDeclared old.now.schema index.table at tree → Executes text [] old new (Ok count)
    → Writes old new None (CreateIndex at) text [] count
indexes_by text index says old new at tree count d h =
    let schema = old.now.schema in
    let own_name : is_reserved says.def.table ≡ false = subst (λ n. is_reserved n ≡ false) (sym says.table_is) says.own_name in
    let named : table_named schema says.def.table ≡ Some at = subst (λ n. table_named schema n ≡ Some at) (sym says.table_is) d.named in
    elim (compiles_index schema says.parsed says.def (table_of index.table tree) (index_of index tree 0) at says.statement says.untimed says.unconditional own_name named d.listed (says.defines tree) text says.reads) [
      | inl is ↦ ran_whole text [] old new count says.parsed (CreateIndex at) is says.whole h
      | inr barred ↦ absurd (not_run text [] old new count barred.0 barred.1.0 barred.1.1 h)
    ]

-- ---- the schema with one index more

declared_still : (schema : Schema) (table_def : TableDef) (at tree : ℕ) (index : Index) → index.is_unique ≡ false → IsDeclared schema table_def at tree → IsDeclared (record schema { indexes = schema.indexes ++ index ∷ [] }) table_def at tree
declared_still schema table_def at tree index plain d = record {
  named = d.named;
  listed = d.listed;
  own = d.own;
  keyed = λ i listed g. elim (has_either schema.indexes (index ∷ []) i listed) [
    | inl old ↦ d.keyed i old g
    | inr (inl is) ↦ absurd (let unbarred : i.is_unique ≡ false = ap (λ (x : Index). x.is_unique) is ∙ plain in let e = rw unbarred at g in cc)
    | inr (inr none) ↦ absurd none
  ];
  alone = d.alone;
}

-- a table whose name isn't that of the index can still be made
still_free : (schema : Schema) (table_def : TableDef) (index : Index) → same_name index.name table_def.name ≡ false → IsFree schema table_def → IsFree (record schema { indexes = schema.indexes ++ index ∷ [] }) table_def
still_free schema table_def index differs free =
    let indexes : position_from (λ (i : Index). same_name i.name table_def.name) 0 (schema.indexes ++ index ∷ []) ≡ None =
    none_more _ schema.indexes (index ∷ []) 0 (no_index schema table_def.name free.unused) (rw differs refl) in
    record {
      unused = rw (no_table schema table_def.name free.unused, indexes, no_view schema table_def.name free.unused) refl;
      alone = free.alone;
    }

pub record Indexed (old new : State) (index : IndexDef) : Type 0 where
  pub sound : IsDatabase new.now
  pub made : HasIndex new.now.schema index
  pub kept : (f : TableDef) (rows : List Row) → HasStoredRows old.now f rows → HasStoredRows new.now f rows
  pub still : (other : IndexDef) → HasIndex old.now.schema other → HasIndex new.now.schema other
  pub others : (t : Table) → Has old.now.schema.tables t → Has new.now.schema.tables t × (new.now.trees t.tree ≡ old.now.trees t.tree)
  pub free : (table_def : TableDef) → same_name index.name table_def.name ≡ false → IsFree old.now.schema table_def → IsFree new.now.schema table_def
  pub counted : lacks_sequence new.now.schema ≡ lacks_sequence old.now.schema

-- what the command makes of the database
added_is : (old new : State) (text : List ℕ) (index : IndexDef) (says : IsCreateIndexStatement text index) (at tree : ℕ) (tally : Tally) → IsDeclared old.now.schema index.table at tree
    → Does old.step_limit (mode_of old) [] old.now text None (CreateIndex at) (Ok (tally, new.now))
    → (new.now.schema ≡ indexed old.now.schema (table_of index.table tree) (index_of index tree 0)) × KeepsRows old.now.schema.tables old.now.trees new.now.trees
added_is old new text index says at tree tally d h =
    let on : Defines (mode_of old) (MakesIndex text old.now (table_of index.table tree)) (Ok (tally, new.now)) =
    subst (λ o. AtPlace (λ (t : Table). Defines (mode_of old) (MakesIndex text old.now t)) o (Ok (tally, new.now))) d.listed h in
    let all = went on in
    let added = all.1 in
    let both : Ok added.index ≡ Ok (index_of index tree 0) = sym added.defined ∙ defined_so text index says tree in
    let same : added.index ≡ index_of index tree 0 = cc in
    let now : new.now ≡ all.0 = ap (λ (q : Tally × Database). q.1) (same_value all.2) in (
      ap (λ (d : Database). d.schema) now ∙ (added.is ∙ ap (indexed old.now.schema (table_of index.table tree)) same),
      subst (λ (t : Trees). KeepsRows old.now.schema.tables old.now.trees t) (sym (ap (λ (d : Database). d.trees) now)) added.rows,
    )

indexed_by : (text : List ℕ) (index : IndexDef) (says : IsCreateIndexStatement text index) (old new : State) (at tree count : ℕ) → IsDeclared old.now.schema index.table at tree → Executes text [] old new (Ok count) → Indexed old new index
indexed_by text index says old new at tree count d h =
    let schema = old.now.schema in
    let w = indexes_by text index says old new at tree count d h in
    let is = added_is old new text index says at tree w.tally d w.changed in
    let added : Index = index_of index tree (next_tree schema) in
    let declared : (f : TableDef) (a t : ℕ) → IsDeclared schema f a t → IsDeclared new.now.schema f a t = λ f a t there. subst (λ s. IsDeclared s f a t) (sym is.0) (declared_still schema f a t added refl there) in
    record {
      sound = w.sound;
      made = record { at = at; table = tree; tree = next_tree schema; declared = declared index.table at tree d; listed = subst (λ s. Has s.indexes added) (sym is.0) (has_right schema.indexes (added ∷ []) added (inl refl)) };
      kept = λ f rows there.
          represents_still old.now new.now f rows there (declared f there.at there.tree there.declared) (all_has _ schema.tables (table_of f there.tree) is.1 (has_got _ there.at _ there.declared.listed));
      still = λ other there. record {
        at = there.at;
        table = there.table;
        tree = there.tree;
        declared = declared other.table there.at there.table there.declared;
        listed = subst (λ s. Has s.indexes (index_of other there.table there.tree)) (sym is.0) (has_left schema.indexes _ _ there.listed);
      };
      others = λ t listed. (subst (λ s. Has s.tables t) (sym is.0) listed, all_has _ schema.tables t is.1 listed);
      free = λ table_def differs unused. subst (λ s. IsFree s table_def) (sym is.0) (still_free schema table_def added differs unused);
      counted = ap lacks_sequence is.0;
    }

-- ---- in turn

-- what is there once the first so many indexes are made
pub record Grown (table_defs : List TableDef) (indexes : List IndexDef) (count : ℕ) (contents : Contents) (old new : Database) : Type 0 where
  pub has_rows : HaveStoredRows table_defs new contents
  pub made : (i : ℕ) (index : IndexDef) → i < count → slice_get indexes i ≡ Some index → HasIndex new.schema index
  pub kept : (table_def : TableDef) (rows : List Row) → HasStoredRows old table_def rows → HasStoredRows new table_def rows
  pub others : (t : Table) → Has old.schema.tables t → Has new.schema.tables t × (new.trees t.tree ≡ old.trees t.tree)
  pub free : (more : List TableDef) → are_named_apart indexes more ≡ true → AreFree more old.schema → AreFree more new.schema

abbrev pub Indexing : List TableDef → List IndexDef → ℕ → State → State → Type 0
Indexing table_defs indexes count old new = (contents : Contents) → HaveStoredRows table_defs old.now contents → Grown table_defs indexes count contents old.now new.now

pub none_indexed : (table_defs : List TableDef) (indexes : List IndexDef) (s : State) → Indexing table_defs indexes 0 s s
none_indexed table_defs indexes s contents have_rows = record {
  has_rows = have_rows;
  made = λ i index early is. absurd (omega arith);
  kept = λ table_def rows there. there;
  others = λ t listed. (listed, refl);
  free = λ more differ unused. unused;
}

-- what every one of a list passes, the one at a position passes
passed_at : {X : Type 0} (p : X → Bool) (xs : List X) (i : ℕ) (x : X) → list_all p xs ≡ true → slice_get xs i ≡ Some x → p x ≡ true
passed_at p [] i x all is = absurd cc
passed_at p (y ∷ ys) zero x all is = let same : y ≡ x = cc in subst (λ z. p z ≡ true) same (and_parts _ _ all).0
passed_at p (y ∷ ys) (suc i) x all is = passed_at p ys i x (and_parts _ _ all).1 is

named_apart : (indexes : List IndexDef) (more : List TableDef) (i j : ℕ) (index : IndexDef) (table_def : TableDef) → are_named_apart indexes more ≡ true → slice_get indexes i ≡ Some index → slice_get more j ≡ Some table_def → same_name index.name table_def.name ≡ false
named_apart indexes more i j index table_def apart is at = not-true _ (passed_at _ more j table_def (passed_at _ indexes i index apart is) at)

-- the position of one of a list
pub placed : {X : Type 0} (xs : List X) (x : X) → Has xs x → (i : ℕ) × (slice_get xs i ≡ Some x)
placed [] x none = absurd none
placed (y ∷ ys) x (inl is) = (zero, ap Some (sym is))
placed (y ∷ ys) x (inr more) = let it = placed ys x more in (suc it.0, it.1)

module _ (table_defs : List TableDef) (indexes : List IndexDef) (count : ℕ) (first old new : State) (text : List ℕ) (index : IndexDef) (is : slice_get indexes count ≡ Some index) (on : Has table_defs index.table)
    (says : IsCreateIndexStatement text index) (runs : ℕ) (ran : RunsInside text [] old new runs) where
  one_grown : (contents : Contents) → Grown table_defs indexes count contents first.now old.now → Grown table_defs indexes (count + 1) contents first.now new.now
  one_grown contents g =
      let column_index = placed table_defs index.table on in
      let there = g.has_rows.each column_index.0 index.table column_index.1 in
      let made = indexed_by text index says old new there.at there.tree runs there.declared ran.ran in
      record {
        has_rows = record { sound = made.sound; each = λ i f at. made.kept f (contents i) (g.has_rows.each i f at) };
        made = one_further (HasIndex new.now.schema) indexes count index is (λ i other before at. made.still other (g.made i other before at)) made.made;
        kept = λ f rows had_rows. made.kept f rows (g.kept f rows had_rows);
        others = λ t listed.
            let before = g.others t listed in
            let after = made.others t before.0 in
            (after.0, after.1 ∙ before.1);
        free = λ more differ unused.
            let before = g.free more differ unused in
            record {
              each = λ j f at. made.free f (named_apart indexes more count j index f differ is at) (before.each j f at);
              counted = made.counted ∙ before.counted;
            };
      }

pub next_indexed : {X : Type 0} (f : X → List ℕ) (texts : List X) (table_defs : List TableDef) (indexes : List IndexDef) → AreOf indexes table_defs → AreCreateIndexStatements (map f texts) indexes → (i : ℕ) (d : X) → i < length texts
    → (first old new : State) → (count : ℕ) × RunsInside (f (get_or texts i d)) [] old new count → Indexing table_defs indexes i first old → Indexing table_defs indexes (i + 1) first new
next_indexed f texts table_defs indexes of_these says i d low first old new ran so_far =
    let it = there_too IsCreateIndexStatement f texts indexes says i d low in
    let on : Has table_defs it.0.table = all_has (λ (index : IndexDef). Has table_defs index.table) indexes it.0 of_these (has_got indexes i it.0 it.1) in
    λ contents have_rows. one_grown table_defs indexes i first old new (f (get_or texts i d)) it.0 it.1 on it.2 ran.0 ran.1 contents (so_far contents have_rows)

pub all_indexed : {X : Type 0} (f : X → List ℕ) (texts : List X) (table_defs : List TableDef) (indexes : List IndexDef) → AreCreateIndexStatements (map f texts) indexes → (old new : State) (count : ℕ) → length texts ≤ count
    → Indexing table_defs indexes count old new → (IsTrue old.is_open → IsTrue old.in_transaction → Shows old new new.now old.committed true) → AddsIndexes table_defs indexes old new
all_indexed f texts table_defs indexes says old new count whole so_far shown = record {
  made = λ contents have_rows i index is. (so_far contents have_rows).made i index (past_all IsCreateIndexStatement f texts indexes says count whole i index is) is;
  has_rows = λ contents have_rows. (so_far contents have_rows).has_rows;
  kept = λ contents have_rows. (so_far contents have_rows).kept;
  others = λ contents have_rows. record { kept = λ t listed foreign. (so_far contents have_rows).others t listed };
  free = λ contents have_rows. (so_far contents have_rows).free;
  shown = shown;
}

-- ---- with tables that were made before

-- Tables that were made, and then indexes of them.
pub founds_then : (table_defs : List TableDef) (indexes : List IndexDef) (a b c : State) → Founds table_defs a b → AddsIndexes table_defs indexes b c → Founds table_defs a c
founds_then table_defs indexes a b c founds adds = record {
  has_rows = λ sound free. adds.has_rows (λ _. []) (founds.has_rows sound free);
  kept = λ sound free table_def rows had_rows. adds.kept (λ _. []) (founds.has_rows sound free) table_def rows (founds.kept sound free table_def rows had_rows);
  others = λ sound free. others_then table_defs a.now b.now c.now (founds.others sound free) (adds.others (λ _. []) (founds.has_rows sound free));
  shown = shown_then a b c founds.shown adds.shown;
}
