-- The tables of a schema, migrated to the next.
use Rattle.std.proofs.Common.{◌≡◌, ◌⊎◌, inl, inr, refl, sym, ap, subst, ◌∙◌, ℕ, zero, suc, ◌+◌, List, [], ◌∷◌, ◌++◌, length, true, false, slice_get, Some, Ok, Err, Result, OnOk, OnErr, arith}
use Rattle.std.proofs.lemmas.Bool.{or_parts}
use Rattle.std.proofs.lemmas.List.Folds.{list_any-append}
use Rattle.sqlite.specs.Effect.{Database}
use Rattle.sqlite.specs.Schema.{Schema}
use Rattle.sqlite.specs.State.{State}
use Rattle.sqlite_tied.specs.Compute.{everything}
use Rattle.plant_base.specs.{Position}
use Rattle.plant_view.specs.{changed, changed_all, RowChange}
use Rattle.plant_view.specs.TableRows.{Tables}
use Rattle.plant_view.specs.declared.change.RowChange.TheVariants as change
use Rattle.sql_tables.specs.{TableDef, Contents, HasStoredRows, KeepsOtherTables, AreFree, is_among, IsSettled, IsUndone, Founds, KeepsFurtherNamesFree, AreApart, AddsIndexes, are_named_apart}
use Rattle.sql_tables.specs.Moves.{Moves}
use Rattle.sql_tables.proofs.CreateTables.{got_behind}
use Rattle.sql_tables.proofs.StatementSequence.{others_then, moves_then, moves_as}
use Rattle.plant_tables.specs.DeskTableDefs.{table_defs_of, later_table_defs, added_table_defs, desk_table_defs}
use Rattle.plant_tables.specs.{added_indexes, contents_of, rows_changed, all_rows_changed, HoldsTablesOf, LacksLater, AreFresh, AreOfSchema, MovesTablesOf, IsAtOf, FailureLeavesOf, IsOlder, AreMigratable, MigratesTables, migration}
use Rattle.plant_tables.proofs.StatementsOnDesk.{one_more_change}
use Rattle.plant_tables.proofs.WritingEnds.{tables_moved, ended_at, cut_at}
use Rattle.plant_tables.proofs.EachSchema.{by_older}
use Rattle.plant_tables.proofs.TablesInSchemas.{none_added}

-- the tables of the next schema are those of this one, and those that it adds
next_is : (version : ℕ) → IsOlder version → table_defs_of (version + 1) ≡ table_defs_of version ++ added_table_defs (version + 1)
next_is = by_older (λ v. table_defs_of (v + 1) ≡ table_defs_of v ++ added_table_defs (v + 1)) refl refl refl

later_is : (version : ℕ) → IsOlder version → later_table_defs version ≡ added_table_defs (version + 1) ++ later_table_defs (version + 1)
later_is = by_older (λ v. later_table_defs v ≡ added_table_defs (v + 1) ++ later_table_defs (v + 1)) refl refl refl

desk_is : (version : ℕ) → IsOlder version → desk_table_defs ≡ table_defs_of (version + 1) ++ later_table_defs (version + 1)
desk_is = by_older (λ v. desk_table_defs ≡ table_defs_of (v + 1) ++ later_table_defs (v + 1)) refl refl refl

-- ---- a list after another

-- a position is one of the first list, or of the second
parted : {X : Type 0} (xs ys : List X) (i : ℕ) (x : X) → slice_get (xs ++ ys) i ≡ Some x → (slice_get xs i ≡ Some x) ⊎ ((j : ℕ) × (i ≡ length xs + j) × (slice_get ys j ≡ Some x))
parted [] ys i x is = let same : i ≡ 0 + i = omega arith in inr (i, same, is)
parted (z ∷ zs) ys zero x is = inl is
parted (z ∷ zs) ys (suc i) x is = elim (parted zs ys i x is) [
  | inl early ↦ inl early
  | inr late ↦ let at : suc i ≡ suc (length zs) + late.0 = omega (arith, late.1) in inr (late.0, at, late.2)
]

in_prefix : {X : Type 0} (xs ys : List X) (i : ℕ) (x : X) → slice_get xs i ≡ Some x → slice_get (xs ++ ys) i ≡ Some x
in_prefix [] ys i x is = absurd cc
in_prefix (z ∷ zs) ys zero x is = is
in_prefix (z ∷ zs) ys (suc i) x is = in_prefix zs ys i x is

-- a name that is none of both's is none of either's
none_among : (xs ys : List TableDef) (name : List ℕ) → is_among (xs ++ ys) name ≡ false → (is_among xs name ≡ false) × (is_among ys name ≡ false)
none_among xs ys name none = or_parts (is_among xs name) (is_among ys name) (sym (list_any-append _ xs ys) ∙ none)

-- a name that is none of the desk's is none of the next schema's, nor of those that it adds
foreign_next : (version : ℕ) → IsOlder version → (name : List ℕ) → is_among desk_table_defs name ≡ false → is_among (table_defs_of (version + 1)) name ≡ false
foreign_next version older name foreign = (none_among (table_defs_of (version + 1)) (later_table_defs (version + 1)) name (subst (λ fs. is_among fs name ≡ false) (desk_is version older) foreign)).0

foreign_added : (version : ℕ) → IsOlder version → (name : List ℕ) → is_among desk_table_defs name ≡ false → is_among (added_table_defs (version + 1)) name ≡ false
foreign_added version older name foreign = (none_among (table_defs_of version) (added_table_defs (version + 1)) name (subst (λ fs. is_among fs name ≡ false) (next_is version older) (foreign_next version older name foreign))).1

-- where all later tables can be made, those of the next schema can
pub free_next : (version : ℕ) → IsOlder version → (schema : Schema) → AreFree (later_table_defs version) schema → AreFree (added_table_defs (version + 1)) schema
free_next version older schema free = record {
  each = λ i table_def is. free.each i table_def (subst (λ fs. slice_get fs i ≡ Some table_def) (sym (later_is version older)) (in_prefix (added_table_defs (version + 1)) (later_table_defs (version + 1)) i table_def is));
  counted = free.counted;
}

-- and those of the ones after it
free_after : (version : ℕ) → IsOlder version → (schema : Schema) → AreFree (later_table_defs version) schema → AreFree (later_table_defs (version + 1)) schema
free_after version older schema free = record {
  each = λ i table_def is. free.each (length (added_table_defs (version + 1)) + i) table_def
      (subst (λ fs. slice_get fs (length (added_table_defs (version + 1)) + i) ≡ Some table_def) (sym (later_is version older)) (got_behind (added_table_defs (version + 1)) (later_table_defs (version + 1)) i table_def is));
  counted = free.counted;
}

-- the names of what a schema adds are not those of later tables
tables_apart : (version : ℕ) → IsOlder version → AreApart (added_table_defs (version + 1) ++ later_table_defs (version + 1))
unfolding everything
tables_apart = by_older (λ v. AreApart (added_table_defs (v + 1) ++ later_table_defs (v + 1))) (record { apart = λ tree. refl }) (record { apart = λ tree. refl }) (record { apart = λ tree. refl })

indexes_apart : (version : ℕ) → IsOlder version → are_named_apart (added_indexes (version + 1)) (later_table_defs (version + 1)) ≡ true
unfolding everything
indexes_apart = by_older (λ v. are_named_apart (added_indexes (v + 1)) (later_table_defs (v + 1)) ≡ true) refl refl refl

-- The tables that exist, and the added ones, which were made and are empty, are those of the next schema.
module _ (version : ℕ) (older : IsOlder version) (a b : State) (t : Tables) (founds : Founds (added_table_defs (version + 1)) a b) (lacks : LacksLater version t) (free : AreFree (later_table_defs version) a.now.schema) (holds : HoldsTablesOf version a.now t) where
  can_make : AreFree (added_table_defs (version + 1)) a.now.schema
  can_make = free_next version older a.now.schema free

  each_represents : (i : ℕ) (table_def : TableDef) → slice_get (table_defs_of version ++ added_table_defs (version + 1)) i ≡ Some table_def → HasStoredRows b.now table_def (contents_of t i)
  each_represents i table_def is = elim (parted (table_defs_of version) (added_table_defs (version + 1)) i table_def is) [
    | inl early ↦ founds.kept holds.sound can_make table_def (contents_of t i) (holds.each i table_def early)
    | inr late ↦
        let empty : contents_of t i ≡ [] = ap (contents_of t) late.1 ∙ none_added t version older lacks late.0 table_def late.2 in
        subst (HasStoredRows b.now table_def) (sym empty) ((founds.has_rows holds.sound can_make).each late.0 table_def late.2)
  ]

  pub are_all_declared : HoldsTablesOf (version + 1) b.now t
  are_all_declared = record {
    sound = (founds.has_rows holds.sound can_make).sound;
    each = λ i table_def is. each_represents i table_def (subst (λ fs. slice_get fs i ≡ Some table_def) (next_is version older) is);
  }

  pub foreign_tables_stand : KeepsOtherTables desk_table_defs a.now b.now
  foreign_tables_stand = record { kept = λ x listed foreign. (founds.others holds.sound can_make).kept x listed (foreign_added version older x.name foreign) }

-- tables of names that are none of the next schema's are kept, and so are those of names that are none of the desk's
keeps_desk : (version : ℕ) → IsOlder version → (a b : Database) → KeepsOtherTables (table_defs_of (version + 1)) a b → KeepsOtherTables desk_table_defs a b
keeps_desk version older a b kept = record { kept = λ x listed foreign. kept.kept x listed (foreign_next version older x.name foreign) }

-- ---- the rows that are added, and the next schema

fresh_then : (cs : List RowChange) (t : Tables) (m : RowChange) → AreFresh cs t → ((u : Tables) → AreFresh (m ∷ []) u) → AreFresh (cs ++ m ∷ []) t
fresh_then [] t m fresh last = last t
fresh_then (c ∷ cs) t m fresh last = (fresh.0, fresh_then cs (changed c t) m fresh.1 last)

module _ (version : ℕ) (position : Position) (added : List RowChange) where
  abbrev meta : RowChange
  meta = change.Meta (record { schema = version + 1; position = position })

  pub fresh_migration : (t : Tables) → AreFresh added t → AreFresh (migration version position added) t
  fresh_migration t fresh = fresh_then added t meta fresh (λ u. (tt, tt))

  rows_then_meta : (c d e : State) → Moves (table_defs_of (version + 1)) c d (all_rows_changed added) → Moves (table_defs_of (version + 1)) d e (rows_changed meta) → Moves (table_defs_of (version + 1)) c e (λ u. rows_changed meta (all_rows_changed added u))
  rows_then_meta c d e rows last = moves_then (table_defs_of (version + 1)) c d e (all_rows_changed added) (rows_changed meta) rows last

  meta_then : (c d e : State) → Moves (table_defs_of (version + 1)) c d (all_rows_changed added) → Moves (table_defs_of (version + 1)) d e (rows_changed meta) → MovesTablesOf (version + 1) (migration version position added) c.now e.now
  meta_then c d e rows last =
      let both = rows_then_meta c d e rows last in
      tables_moved (version + 1) (migration version position added) c e (moves_as (table_defs_of (version + 1)) c e _ _ (λ (u : Contents). one_more_change added meta u) both)

  -- the tables that later schemas add can still be made
  no_crash_state_added : (a b c d e : State) (t : Tables) (older : IsOlder version) (can : AreMigratable version added a.now t) → KeepsFurtherNamesFree (added_table_defs (version + 1)) a.now b.now → HoldsTablesOf (version + 1) b.now t
      → AddsIndexes (table_defs_of (version + 1)) (added_indexes (version + 1)) b c → Moves (table_defs_of (version + 1)) c d (all_rows_changed added) → Moves (table_defs_of (version + 1)) d e (rows_changed meta) → AreFree (later_table_defs (version + 1)) e.now.schema
  no_crash_state_added a b c d e t older can crash_states had_rows adds rows last =
      let later = later_table_defs (version + 1) in
      let schema = a.now.schema in
      let made : AreFree later b.now.schema = crash_states can.holds.sound (free_next version older schema can.free) later (tables_apart version older) (free_after version older schema can.free) in
      let indexed : AreFree later c.now.schema = adds.free (contents_of t) had_rows later (indexes_apart version older) made in
      subst (AreFree later) (sym ((rows_then_meta c d e rows last).schema (contents_of t) (adds.has_rows (contents_of t) had_rows))) indexed

  pub migrated : {X E : Type 0} (a b c d e : State) (r : Result X E) → Founds (added_table_defs (version + 1)) a b → KeepsFurtherNamesFree (added_table_defs (version + 1)) a.now b.now → AddsIndexes (table_defs_of (version + 1)) (added_indexes (version + 1)) b c
      → (AreOfSchema (version + 1) added → Moves (table_defs_of (version + 1)) c d (all_rows_changed added)) → OnOk r (Moves (table_defs_of (version + 1)) d e (rows_changed meta))
      → OnOk r (MigratesTables version position added a.now e.now)
  migrated a b c d e (Err x) founds crash_states adds rows last = tt
  migrated a b c d e (Ok x) founds crash_states adds rows last = λ older t can.
      let had_rows : HoldsTablesOf (version + 1) b.now t = are_all_declared version older a b t founds can.lacks can.free can.holds in
      let others = foreign_tables_stand version older a b t founds can.lacks can.free can.holds in
      let it = meta_then c d e (rows can.kept) last t can.keyed (fresh_migration t can.fresh) (adds.has_rows (contents_of t) had_rows) in (
        it.0,
        others_then desk_table_defs a.now b.now e.now others (others_then desk_table_defs b.now c.now e.now (keeps_desk version older b.now c.now (adds.others (contents_of t) had_rows)) (keeps_desk version older c.now e.now it.1)),
        no_crash_state_added a b c d e t older can crash_states had_rows adds (rows can.kept) last,
      )

  -- ---- how it ends

  module _ (older : IsOlder version) (old new : State) (t : Tables) (settled : IsSettled old) (can : AreMigratable version added old.now t) where
    at : IsAtOf version old t
    at = record { settled = settled; holds = can.holds }

    leads : (db : Database) → MigratesTables version position added old.now db → HoldsTablesOf (version + 1) db (changed_all (migration version position added) t) × KeepsOtherTables desk_table_defs old.now db
    leads db made = let it = made older t can in (it.0, it.1)

    pub migrated_at : {X E : Type 0} (r : Result X E) → OnOk r (IsSettled new × MigratesTables version position added old.now new.now)
        → OnOk r (IsAtOf (version + 1) new (changed_all (migration version position added) t) × KeepsOtherTables desk_table_defs old.now new.now)
    migrated_at r done = ended_at (version + 1) (MigratesTables version position added) old new (changed_all (migration version position added) t) leads r done

    pub unmigrated_at : {X E : Type 0} (r : Result X E) → OnErr r (IsUndone (MigratesTables version position added) old new)
        → OnErr r (FailureLeavesOf version (version + 1) old new t (changed_all (migration version position added) t))
    unmigrated_at r undone = cut_at (version + 1) (MigratesTables version position added) old new (changed_all (migration version position added) t) leads version t at r undone
