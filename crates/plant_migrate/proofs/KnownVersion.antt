-- The version that is read, and what follows of the tables of a state.
use Rattle.std.proofs.Common.{◌≡◌, ◌∙◌, refl, sym, ap, subst, ℕ, ◌≤◌, ◌<◌, ℤ, pos, true, false, nat_le, [], ◌∷◌, IsTrue, arith, ◌≤ℤ◌}
use Rattle.std.proofs.lemmas.Bool.Decides.{nat_tests}
use Rattle.std.proofs.lemmas.Int.{ints, to_z-of_z}
use lib.Dec.{leb→le}
use lib.IntN.{negsuc, nat_abs}
use lib.Signed.{le_z}
use mir.Syntax.{w64}
use mir.Val.{SFits, to_z, of_z}
use Rattle.std.specs.List.Sorted.{IsStrictlySortedBy}
use Rattle.sqlite.specs.Effect.{Database}
use Rattle.sqlite.specs.declared.types.Value.TheVariants.{Int}
use Rattle.sqlite.specs.State as store
use Rattle.sqlite.specs.Tree.{Trees}
use Rattle.plant_base.specs.{State, newest_schema}
use Rattle.plant_view.specs.{tables_of}
use Rattle.plant_view.specs.TableRows.{Tables}
use Rattle.sql_tables.specs.{Keeps, HasStoredRows, KeepsOtherTables, IsSettled}
use Rattle.sql_tables.proofs.TransactionEnds.{IsStore}
use Rattle.plant_tables.specs.{desk_table_defs, meta_table, HoldsTablesOf, IsAtOf}
use Rattle.plant_tables_columns.specs.{row_of_meta}
use Rattle.plant_tables.specs.{Loads, IsVersion}
use Rattle.plant_tables.proofs.AllRowsDecoded.{loaded_rows}
use Rattle.plant_migrate.specs.{IsReadable, FailureLeavesAmid, IsMigratedFrom, IsMigratedTo, HasKnownVersion, migrated_to}
use Rattle.plant_migrate.proofs.MigrationEnds.{migrated_to_is}
use Rattle.plant_migrate.proofs.RowsBeforeMigration.{from_since}
use Rattle.plant_migrate.proofs.NothingWritten.{at_still, amid_since}

pub version_is : (version : ℕ) (db : Database) (t : Tables) (n : ℤ) → HoldsTablesOf version db t → IsVersion db n → n ≡ pos t.meta.schema
unfolding IsStrictlySortedBy
version_is version db t n holds v =
    let has_rows : HasStoredRows db meta_table (row_of_meta t.meta ∷ []) = holds.each 0 meta_table refl in
    let loads : Loads db meta_table (v.row ∷ []) = record { rows = v.alone; rising = λ k d low. absurd (omega (arith, low)) } in
    let rows : v.row ∷ [] ≡ row_of_meta t.meta ∷ [] = loaded_rows db meta_table (v.row ∷ []) (row_of_meta t.meta ∷ []) loads has_rows (tt, tt) in
    let row : v.row ≡ row_of_meta t.meta = cc in
    let numbers : Int (pos 1) ∷ Int v.valid.schema ∷ Int v.valid.seq ∷ Int v.valid.at ∷ [] ≡ Int (pos 1) ∷ Int (pos t.meta.schema) ∷ Int (pos t.meta.position.seq) ∷ Int (pos t.meta.position.at) ∷ [] = sym v.valid.is ∙ row in
    let same : v.valid.schema ≡ pos t.meta.schema = cc in
    sym v.reports ∙ same

-- the version in meta is a number from 1
pub version_number : (db : Database) (v : ℤ) → IsVersion db v → (n : ℕ) × (v ≡ pos n) × (1 ≤ n)
version_number db v reported = from v (subst (λ z. pos 1 ≤ℤ z) reported.reports reported.valid.schema_low)
  where
    from : (z : ℤ) → pos 1 ≤ℤ z → (n : ℕ) × (z ≡ pos n) × (1 ≤ n)
    from (pos n) low = (n, refl, leb→le 1 n low.le)
    from (negsuc n) low = absurd low.le

pub has_known_version : (db : Database) (v : ℤ) → IsVersion db v → v ≤ℤ pos newest_schema → HasKnownVersion db
has_known_version db v reported low =
    let number = version_number db v reported in
    let high : pos number.0 ≤ℤ pos newest_schema = subst (λ z. z ≤ℤ pos newest_schema) number.1 low in
    (number.0, subst (IsVersion db) number.1 reported, (number.2, leb→le number.0 newest_schema high.le))

-- what the test of a version says of the numbers
pub not_below : (version to : ℕ) (n : ℤ) → SFits w64 n → n ≡ pos version → to ≤ newest_schema → le_z (to_z w64 to) (to_z w64 (of_z w64 n)) ≡ true → to ≤ version
not_below version to n fits is few test = let at : le_z (to_z w64 to) (pos version) ≡ true = rw (to_z-of_z w64 n fits, is) at test in grind (arith, ints)

pub below : (version to : ℕ) (n : ℤ) → SFits w64 n → n ≡ pos version → to ≤ newest_schema → le_z (to_z w64 to) (to_z w64 (of_z w64 n)) ≡ false → version < to
below version to n fits is few test = let at : le_z (to_z w64 to) (pos version) ≡ false = rw (to_z-of_z w64 n fits, is) at test in grind (arith, ints)

-- it is at least the schema that is asked for
pub stays_at : (version to : ℕ) (old new : store.State) (s : State) → to ≤ version → IsReadable version old s → Keeps old new → IsStore new → IsTrue new.is_open
    → IsAtOf (migrated_to version to) new (tables_of (migrated_to version to) s) × KeepsOtherTables desk_table_defs old.now new.now
stays_at version to old new s low readable kept laws live =
    let test : nat_le to version ≡ true = grind (arith, nat_tests) in
    let is : migrated_to version to ≡ version = rw test refl in
    (subst (λ k. IsAtOf k new (tables_of k s)) (sym is) (at_still version old new (tables_of version s) readable.at kept laws live), subst (KeepsOtherTables desk_table_defs old.now) (sym (kept.now live)) (record { kept = λ x listed foreign. (listed, refl) }))

-- still readable after calls that only read
still_readable : (version : ℕ) (old mid : store.State) (s : State) → IsReadable version old s → Keeps old mid → IsStore mid → IsTrue mid.is_open → IsReadable version mid s
still_readable version old mid s readable kept laws live = record { known = readable.known; at = at_still version old mid (tables_of version s) readable.at kept laws live; whole = readable.whole; ordered = readable.ordered; valid = readable.valid }

-- the number that is handed on is the version
pub handed_on : (version : ℕ) (v : ℤ) → SFits w64 v → v ≡ pos version → nat_abs (to_z w64 (of_z w64 v)) ≡ version
handed_on version v fits is = ap nat_abs (to_z-of_z w64 v fits ∙ is)

-- it is below the one that is asked for
pub rises_to : (version handed to : ℕ) (old mid new : store.State) (s : State) → handed ≡ version → version < to → IsReadable version old s → Keeps old mid → IsStore mid → IsTrue mid.is_open
    → ((u : State) → IsReadable handed mid u → IsAtOf to new (tables_of to u) × KeepsOtherTables desk_table_defs mid.now new.now)
    → IsAtOf (migrated_to version to) new (tables_of (migrated_to version to) s) × KeepsOtherTables desk_table_defs old.now new.now
rises_to version handed to old mid new s same under readable kept laws live done =
    let it = done s (subst (λ k. IsReadable k mid s) (sym same) (still_readable version old mid s readable kept laws live)) in
    let is : migrated_to version to ≡ to = migrated_to_is version to (omega (arith, under)) in
    (subst (λ k. IsAtOf k new (tables_of k s)) (sym is) it.0, subst (λ (d : Database). KeepsOtherTables desk_table_defs d new.now) (kept.now live) it.1)

pub cut_from : (version handed to : ℕ) (old mid new : store.State) (s : State) → handed ≡ version → IsReadable version old s → Keeps old mid → IsStore mid → IsTrue mid.is_open
    → ((u : State) → IsReadable handed mid u → FailureLeavesAmid handed to mid new u) → FailureLeavesAmid version to old new s
cut_from version handed to old mid new s same readable kept laws live done =
    let here = done s (subst (λ k. IsReadable k mid s) (sym same) (still_readable version old mid s readable kept laws live)) in
    amid_since version to old mid new s (kept.now live) (subst (λ k. FailureLeavesAmid k to mid new s) same here)

-- what was made of the tables of the version that is read
pub migrated_reported : (to : ℕ) (old mid : store.State) (trees : Trees) (v : ℤ) → SFits w64 v → IsVersion old.now v → to ≤ newest_schema → le_z (to_z w64 to) (to_z w64 (of_z w64 v)) ≡ false → mid.now ≡ old.now → (IsSettled old → IsSettled mid)
    → IsMigratedFrom (nat_abs (to_z w64 (of_z w64 v))) to mid trees → IsMigratedTo to old trees
migrated_reported to old mid trees v fits reported few test same settles made =
    let number = version_number old.now v reported in
    let here : IsMigratedFrom number.0 to mid trees = subst (λ k. IsMigratedFrom k to mid trees) (handed_on number.0 v fits number.1) made in
    record {
      version = number.0;
      reported = subst (IsVersion old.now) number.1 reported;
      below = below number.0 to v fits number.1 few test;
      migrated = from_since number.0 to old mid trees same settles here;
    }
