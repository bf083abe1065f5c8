-- From one table to all of them, and from one write to many.
use Rattle.std.proofs.Common.{◌≡◌, ◌≢◌, ◌⊎◌, inl, inr, ℕ, List, true, false, cond, Some, Ok, Err, Result, refl, sym, ap, subst, ◌∙◌, slice_get, eqb, IsTrue, IfOk, arith}
use Rattle.std.proofs.lemmas.Bool.{cases_Bool}
use Rattle.std.proofs.lemmas.Bool.Decides.{nat_tests}
use Rattle.sqlite.specs.Order.{Row}
use Rattle.sqlite.specs.Table.{Table}
use Rattle.sqlite.specs.Effect.{Database, IsDatabase}
use Rattle.sqlite.specs.declared.error.Error.{Error}
use Rattle.sqlite.specs.State.{State, Shows, Survives, ExecutesInside, KeepsCommit, IsUnchanged, IsRolledBack}
use Rattle.sqlite.proofs.StateLemmas.{survives_then}
use Rattle.sqlite_schema.specs.Names.{same_name}
use Rattle.sqlite_rules.specs.Lists.{Has}
use Rattle.sqlite_rules.proofs.ListLemmas.{has_got, some_from}
use Rattle.sqlite_catalog.proofs.StepLemmas.{same_itself}
use Rattle.sql_tables.specs.{TableDef, table_of, put, delete_by_key, Contents, IsDeclared, HasStoredRows, HaveStoredRows, KeepsOtherTables, is_among, AreApart, RunsInside, Upserts, DeletesRows}
use Rattle.sql_tables.specs.Moves.{Moves}
use Rattle.sql_tables.proofs.DistinctTableNames.{same_column_index}
use Rattle.sql_tables.proofs.StatementEffect.{Turns, put_turns, represents_still}
use Rattle.sql_tables.proofs.DeleteByKey.{take_turns}

pub kept_none : (s : State) → KeepsCommit s s
kept_none s = record { was_open = λ live. live; committed = λ _. refl }

pub kept_then : (a b c : State) → KeepsCommit a b → KeepsCommit b c → KeepsCommit a c
kept_then a b c p q = record { was_open = λ live. p.was_open (q.was_open live); committed = λ live. q.committed live ∙ p.committed (q.was_open live) }

-- ---- the frame of one write

module _ (table_defs : List TableDef) (apart : AreApart table_defs) (old new : State) (i : ℕ) (table_def : TableDef) (is : slice_get table_defs i ≡ Some table_def) (contents : Contents) (have_rows : HaveStoredRows table_defs old.now contents) (rows : List Row)
    (turns : Turns old new table_def ((have_rows.each i table_def is).tree) rows) where
  abbrev here : HasStoredRows old.now table_def (contents i)
  here = have_rows.each i table_def is

  other_tree : (j : ℕ) (f : TableDef) (there : HasStoredRows old.now f (contents j)) → slice_get table_defs j ≡ Some f → (i ≡ j → ⊥) → there.tree ≢ here.tree
  other_tree j f there at differ same =
      let own : table_of f there.tree ≡ table_of table_def here.tree = here.declared.own (table_of f there.tree) (has_got _ there.at _ there.declared.listed) same in
      differ (same_column_index table_defs apart i j table_def f is at (sym (ap (λ (t : Table). t.name) own)))

  kept : (j : ℕ) (f : TableDef) → slice_get table_defs j ≡ Some f → (i ≡ j → ⊥) → HasStoredRows new.now f (contents j)
  kept j f at differ =
      let there = have_rows.each j f at in
      represents_still old.now new.now f (contents j) there (subst (λ s. IsDeclared s f there.at there.tree) (sym turns.schema) there.declared)
      (turns.others (table_of f there.tree) (has_got _ there.at _ there.declared.listed) (other_tree j f there at differ))

  form_same : (j : ℕ) (f : TableDef) → slice_get table_defs j ≡ Some f → j ≡ i → table_def ≡ f
  form_same j f at e = let both : slice_get table_defs i ≡ Some f = subst (λ k. slice_get table_defs k ≡ Some f) e at in let two : Some table_def ≡ Some f = sym is ∙ both in cc

  pub stored_rows : HaveStoredRows table_defs new.now (λ j. cond (eqb j i) rows (contents j))
  stored_rows = record {
    sound = turns.sound;
    each = λ j f at. elim (cases_Bool (eqb j i)) [
      | inl same ↦ rw same (subst (λ (g : TableDef). HasStoredRows new.now g rows) (form_same j f at (grind (arith, nat_tests))) turns.has_rows)
      | inr other ↦ rw other (kept j f at (λ e. absurd (grind (arith, nat_tests))))
    ];
  }

  other_kept : (t : Table) → Has old.now.schema.tables t → is_among table_defs t.name ≡ false → Has new.now.schema.tables t × (new.now.trees t.tree ≡ old.now.trees t.tree)
  other_kept t listed foreign =
      let away : t.tree ≢ here.tree = λ same.
      let own = here.declared.own t listed same in
      let ours : is_among table_defs table_def.name ≡ true = some_from (λ (f : TableDef). same_name f.name table_def.name) table_defs table_def (has_got table_defs i table_def is) (same_itself table_def.name) in
      let names : t.name ≡ table_def.name = ap (λ (t : Table). t.name) own in
      absurd (let e = rw names at foreign in cc) in
      (subst (λ s. Has s.tables t) (sym turns.schema) listed, turns.others t listed away)

  pub keeping : KeepsOtherTables table_defs old.now new.now
  keeping = record { kept = other_kept }

-- the table of an index gets other rows
pub moves_from : (table_defs : List TableDef) → AreApart table_defs → (old new : State) (i : ℕ) (table_def : TableDef) → slice_get table_defs i ≡ Some table_def → (become : List Row → List Row)
    → ((rows : List Row) → IsDatabase old.now → (has_rows : HasStoredRows old.now table_def rows) → Turns old new table_def has_rows.tree (become rows))
    → Shows old new new.now old.committed true → Moves table_defs old new (λ contents j. cond (eqb j i) (become (contents i)) (contents j))
moves_from table_defs apart old new i table_def is become turns shown = record {
  has_rows = λ contents have_rows. stored_rows table_defs apart old new i table_def is contents have_rows (become (contents i)) (turns (contents i) have_rows.sound (have_rows.each i table_def is));
  others = λ contents have_rows. keeping table_defs apart old new i table_def is contents have_rows (become (contents i)) (turns (contents i) have_rows.sound (have_rows.each i table_def is));
  schema = λ contents have_rows. (turns (contents i) have_rows.sound (have_rows.each i table_def is)).schema;
  shown = λ _ _. shown;
}

-- ---- what a statement that ran does

pub puts_from : (text : List ℕ) (params : Row) (old new : State) (count : ℕ) → RunsInside text params old new count → Upserts text params old new
puts_from text params old new count h table_defs column_index table_def apart is says fit =
    moves_from table_defs apart old new column_index table_def is (put table_def params) (λ rows sound has_rows. put_turns table_def text says params fit old new count rows sound has_rows h.ran) h.shown

pub takes_from : (text : List ℕ) (params : Row) (old new : State) (count : ℕ) → RunsInside text params old new count → DeletesRows text params old new
takes_from text params old new count h table_defs column_index table_def key apart is says =
    moves_from table_defs apart old new column_index table_def is (delete_by_key key params) (λ rows sound has_rows. take_turns text table_def key says params old new count rows sound has_rows h.ran) h.shown

-- what `execute` ensures, in the words of `run`
pub runs_from : (text : List ℕ) (params : Row) (old new : State) (r : Result ℕ Error) (late : Error) → (old.in_transaction ≡ false → r ≡ Err late) → (IsTrue old.in_transaction → ExecutesInside 0 text params old new r) → IfOk r (RunsInside text params old new)
runs_from text params old new (Err e) late ended runs = tt
runs_from text params old new (Ok count) late ended runs = elim (cases_Bool old.in_transaction) [
  | inl on ↦ let ran = runs on in record { ran = ran.0; shown = ran.1 }
  | inr off ↦ absurd (let e = ended off in cc)
]

commit_kept : (old new : State) → IsUnchanged old new ⊎ IsRolledBack old new → KeepsCommit old new
commit_kept old new (inl same) = record { was_open = λ _. same.0.was_open; committed = λ _. same.0.committed_is }
commit_kept old new (inr back) = record { was_open = back.was_open; committed = λ live. (back.undone live).1 }

pub kept_from : (text : List ℕ) (params : Row) (old new : State) (r : Result ℕ Error) → (old.in_transaction ≡ false → new ≡ old) → (IsTrue old.in_transaction → ExecutesInside 0 text params old new r) → KeepsCommit old new
kept_from text params old new (Err e) ended runs = elim (cases_Bool old.in_transaction) [
  | inl on ↦ elim (runs on) [ inl ran ↦ commit_kept old new ran.1 | inr barred ↦ commit_kept old new (inl barred.2) ]
  | inr off ↦ subst (KeepsCommit old) (sym (ended off)) (kept_none old)
]
kept_from text params old new (Ok count) ended runs = elim (cases_Bool old.in_transaction) [
  | inl on ↦ let ran = runs on in record { was_open = λ _. ran.1.was_open; committed = λ _. ran.1.committed_is }
  | inr off ↦ subst (KeepsCommit old) (sym (ended off)) (kept_none old)
]

-- ---- in turn

pub survives_none : (s : State) → Survives s s (λ _. ⊥)
survives_none s = record { clean = omega arith; shield = λ h. h; counts = omega arith; limit = refl; closes = λ clean live. inl live; crash = λ clean db left. inl left }

pub survives_on : (a b c : State) → Survives a b (λ _. ⊥) → Survives b c (λ _. ⊥) → Survives a c (λ _. ⊥)
survives_on a b c = survives_then a b c (λ _. ⊥) (λ _. ⊥) (λ _. ⊥) (λ _ db none. none) (λ _ db none. none)

pub others_then : (table_defs : List TableDef) (a b c : Database) → KeepsOtherTables table_defs a b → KeepsOtherTables table_defs b c → KeepsOtherTables table_defs a c
others_then table_defs a b c p q = record {
  kept = λ t listed foreign.
      let first = p.kept t listed foreign in
      let second = q.kept t first.0 foreign in
      (second.0, second.1 ∙ first.1);
}

pub shown_then : (a b c : State) → (IsTrue a.is_open → IsTrue a.in_transaction → Shows a b b.now a.committed true) → (IsTrue b.is_open → IsTrue b.in_transaction → Shows b c c.now b.committed true)
    → IsTrue a.is_open → IsTrue a.in_transaction → Shows a c c.now a.committed true
shown_then a b c p q live inside =
    let first = p live inside in
    let second = q first.is_open first.mode in
    record { was_open = live; is_open = second.is_open; now_is = refl; committed_is = second.committed_is ∙ first.committed_is; mode = second.mode }

pub moves_then : (table_defs : List TableDef) (a b c : State) (f g : Contents → Contents) → Moves table_defs a b f → Moves table_defs b c g → Moves table_defs a c (λ t. g (f t))
moves_then table_defs a b c f g p q = record {
  has_rows = λ t h. q.has_rows (f t) (p.has_rows t h);
  others = λ t h. others_then table_defs a.now b.now c.now (p.others t h) (q.others (f t) (p.has_rows t h));
  schema = λ t h. q.schema (f t) (p.has_rows t h) ∙ p.schema t h;
  shown = shown_then a b c p.shown q.shown;
}

pub moves_as : (table_defs : List TableDef) (a b : State) (f g : Contents → Contents) → ((t : Contents) → f t ≡ g t) → Moves table_defs a b f → Moves table_defs a b g
moves_as table_defs a b f g same m = record { has_rows = λ t h. subst (HaveStoredRows table_defs b.now) (same t) (m.has_rows t h); others = m.others; schema = m.schema; shown = m.shown }
