-- Tables made in turn.
use Rattle.std.proofs.Common.{◌≡◌, ℕ, suc, ◌+◌, ◌<◌, ◌≤◌, List, [], ◌∷◌, ◌++◌, length, true, false, Some, refl, sym, ap, subst, ◌∙◌, slice_get, get_or, map, IsTrue, arith}
use Rattle.sqlite.specs.Order.{Row}
use Rattle.sqlite.specs.Table.{Table}
use Rattle.sqlite.specs.Effect.{Database, IsDatabase}
use Rattle.sqlite.specs.Does.{lacks_sequence}
use Rattle.sqlite.specs.State.{State, Shows}
use Rattle.sqlite_rules.specs.Lists.{Has}
use Rattle.sqlite_rules.proofs.ActionLemmas.{got_still}
use Rattle.sql_tables.specs.{TableDef, HasStoredRows, IsFree, AreFree, IsCreateStatement, AreApart, AreCreateStatements, RunsInside, Founds, KeepsFurtherNamesFree}
use Rattle.sql_tables.proofs.DistinctTableNames.{apart_at}
use Rattle.sql_tables.proofs.CreateMakesTable.{create_makes, free_still, counted_kept}
use Rattle.sql_tables.proofs.ListsAgree.{one_further, there_too, past_all}
use Rattle.std.proofs.lemmas.Option.{slice_get_within}

-- what is there once the tables of the first so many definitions are made
pub record Begun (table_defs : List TableDef) (count : ℕ) (old new : Database) : Type 0 where
  pub sound : IsDatabase new
  pub counted : lacks_sequence new.schema ≡ false
  pub made : (i : ℕ) (table_def : TableDef) → i < count → slice_get table_defs i ≡ Some table_def → HasStoredRows new table_def []
  pub free : (i : ℕ) (table_def : TableDef) → count ≤ i → slice_get table_defs i ≡ Some table_def → IsFree new.schema table_def
  pub kept : (table_def : TableDef) (rows : List Row) → HasStoredRows old table_def rows → HasStoredRows new table_def rows
  pub others : (t : Table) → Has old.schema.tables t → Has new.schema.tables t × (new.trees t.tree ≡ old.trees t.tree)
  pub further : (more : List TableDef) → AreApart (table_defs ++ more) → AreFree more old.schema → AreFree more new.schema

abbrev pub Founding : List TableDef → ℕ → State → State → Type 0
Founding table_defs count old new = IsDatabase old.now → AreFree table_defs old.now.schema → Begun table_defs count old.now new.now

-- what is got of the second list is got after the first
pub got_behind : {X : Type 0} (xs ys : List X) (j : ℕ) (y : X) → slice_get ys j ≡ Some y → slice_get (xs ++ ys) (length xs + j) ≡ Some y
got_behind [] ys j y is = let same : j ≡ 0 + j = omega arith in subst (λ k. slice_get ys k ≡ Some y) same is
got_behind (x ∷ xs) ys j y is =
    let same : suc (length xs + j) ≡ suc (length xs) + j = omega arith in
    subst (λ k. slice_get (x ∷ (xs ++ ys)) k ≡ Some y) same (got_behind xs ys j y is)

pub none_made : (table_defs : List TableDef) (s : State) → Founding table_defs 0 s s
none_made table_defs s sound free = record {
  sound = sound;
  counted = free.counted;
  made = λ i table_def early is. absurd (omega arith);
  free = λ i table_def late is. free.each i table_def is;
  kept = λ table_def rows there. there;
  others = λ t listed. (listed, refl);
  further = λ more clear unused. unused;
}

module _ (table_defs : List TableDef) (apart : AreApart table_defs) (count : ℕ) (first old new : State) (text : List ℕ) (table_def : TableDef) (is : slice_get table_defs count ≡ Some table_def) (says : IsCreateStatement text table_def)
    (runs : ℕ) (ran : RunsInside text [] old new runs) where
  one_begun : Begun table_defs count first.now old.now → Begun table_defs (count + 1) first.now new.now
  one_begun b =
      let made = create_makes text table_def says old new runs b.sound (b.free count table_def (omega arith) is) b.counted ran.ran in
      record {
        sound = made.sound;
        counted = ap lacks_sequence made.schema ∙ counted_kept old.now.schema old.now.trees table_def b.sound b.counted;
        made = one_further (λ g. HasStoredRows new.now g []) table_defs count table_def is (λ i f before there. made.kept f [] (b.made i f before there)) made.has_rows;
        free = λ i f late there.
            subst (λ s. IsFree s f) (sym made.schema)
            (free_still old.now.schema old.now.trees table_def f b.sound (apart_at table_defs apart count i table_def f (omega arith) is there) (b.free i f (omega arith) there));
        kept = λ f rows there. made.kept f rows (b.kept f rows there);
        others = λ t listed.
            let before = b.others t listed in
            let after = made.others t before.0 in
            (after.0, after.1 ∙ before.1);
        further = λ more clear unused. record {
          each = λ j f there.
              let late : count < length table_defs + j = let here = slice_get_within table_defs count table_def is in omega (arith, here) in
              let differ = apart_at (table_defs ++ more) clear count (length table_defs + j) table_def f late (got_still table_defs more (table_defs ++ more) count table_def refl is) (got_behind table_defs more j f there) in
              subst (λ s. IsFree s f) (sym made.schema) (free_still old.now.schema old.now.trees table_def f b.sound differ ((b.further more clear unused).each j f there));
          counted = ap lacks_sequence made.schema ∙ counted_kept old.now.schema old.now.trees table_def b.sound b.counted;
        };
      }

pub next_made : {X : Type 0} (f : X → List ℕ) (texts : List X) (table_defs : List TableDef) → AreApart table_defs → AreCreateStatements (map f texts) table_defs → (i : ℕ) (d : X) → i < length texts → (first old new : State)
    → (count : ℕ) × RunsInside (f (get_or texts i d)) [] old new count → Founding table_defs i first old → Founding table_defs (i + 1) first new
next_made f texts table_defs apart says i d low first old new ran so_far =
    let it = there_too IsCreateStatement f texts table_defs says i d low in
    λ sound free. one_begun table_defs apart i first old new (f (get_or texts i d)) it.0 it.1 it.2 ran.0 ran.1 (so_far sound free)

pub all_names_kept_free : (table_defs : List TableDef) (old new : State) (count : ℕ) → Founding table_defs count old new → KeepsFurtherNamesFree table_defs old.now new.now
all_names_kept_free table_defs old new count so_far = λ sound free. (so_far sound free).further

pub all_made : {X : Type 0} (f : X → List ℕ) (texts : List X) (table_defs : List TableDef) → AreCreateStatements (map f texts) table_defs → (old new : State) (count : ℕ) → length texts ≤ count → Founding table_defs count old new
    → (IsTrue old.is_open → IsTrue old.in_transaction → Shows old new new.now old.committed true) → Founds table_defs old new
all_made f texts table_defs says old new count whole so_far shown = record {
  has_rows = λ sound free.
      let b = so_far sound free in
      record { sound = b.sound; each = λ i table_def is. b.made i table_def (past_all IsCreateStatement f texts table_defs says count whole i table_def is) is };
  kept = λ sound free. (so_far sound free).kept;
  others = λ sound free. let b = so_far sound free in record { kept = λ t listed foreign. b.others t listed };
  shown = shown;
}
