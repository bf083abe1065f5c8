-- What is read of the tables of a state before they are migrated.
use Rattle.std.proofs.Common.{◌≡◌, ◌∙◌, inl, inr, ◌-◌, ◌<◌, refl, sym, ap, subst, ℕ, List, [], ◌∷◌, Some, Result, OnOk, OnErr}
use Rattle.std.proofs.lemmas.Result.{on_err_weaker}
use Rattle.std.specs.List.Sorted.{IsStrictlySortedBy}
use Rattle.sqlite.specs.Effect.{Database}
use Rattle.sqlite.specs.Order.{Row}
use Rattle.sqlite.specs.Tree.{Trees}
use Rattle.sqlite.specs.State as store
use Rattle.plant_base.specs.{State, Meta}
use Rattle.plant_view.specs.{tables_of, position_of}
use Rattle.sql_tables.specs.{KeepsOtherTables, IsSettled}
use Rattle.plant_tables.specs.{desk_table_defs, meta_table, IsAtOf}
use Rattle.plant_tables.proofs.TablesInSchemas.{lacks_later}
use Rattle.plant_tables_columns.specs.{only_meta, row_of_meta}
use Rattle.plant_tables_columns.proofs.RowLaws.{meta_reads}
use Rattle.plant_tables.specs.{AreLoaded, Loads, DeskRows, Loaded, rows_from, rows_in, rows_listed}
use Rattle.plant_tables.proofs.RowsReadAgain.{read_again}
use Rattle.plant_tables.proofs.AllRowsDecoded.{loaded_rows}
use Rattle.plant_migrate.specs.{edges_from, IsMigratedBy, IsReadable, FailureLeavesAmid, IsRead, IsMigratedFrom}
use Rattle.plant_migrate.proofs.MigrationEnds.{migrated_since}
use Rattle.plant_migrate.proofs.NothingWritten.{amid_since}

pub rows_read : (version : ℕ) (old : store.State) (s : State) (x : Loaded) (rows : DeskRows) → IsReadable version old s → AreLoaded version old.now x → Some (rows_listed rows) ≡ rows_from x → rows_listed rows ≡ rows_in (tables_of version s)
rows_read version old s x rows readable loaded are =
    let again : rows_from x ≡ Some (rows_in (tables_of version s)) = read_again version old.now (tables_of version s) readable.at.holds (lacks_later version s) readable.ordered readable.valid x loaded in
    let both : Some (rows_listed rows) ≡ Some (rows_in (tables_of version s)) = are ∙ again in
    cc

pub meta_read : (version : ℕ) (old : store.State) (s : State) (stored : List Row) (meta : Meta) → IsReadable version old s → Loads old.now meta_table stored → Some meta ≡ only_meta stored → meta.position ≡ position_of s
unfolding only_meta IsStrictlySortedBy
meta_read version old s stored meta readable loads are =
    let t = tables_of version s in
    let rows : stored ≡ row_of_meta t.meta ∷ [] = loaded_rows old.now meta_table stored (row_of_meta t.meta ∷ []) loads (readable.at.holds.each 0 meta_table refl) (tt, tt) in
    let again : only_meta stored ≡ Some t.meta = ap only_meta rows ∙ meta_reads.again t.meta readable.valid.meta tt in
    let both : Some meta ≡ Some t.meta = are ∙ again in
    let same : meta ≡ t.meta = cc in
    ap (λ (m : Meta). m.position) same

-- what is so of a store that shows the same as before
pub ends_since : {X E : Type 0} (to : ℕ) (first mid new : store.State) (s : State) (r : Result X E) → mid.now ≡ first.now → OnOk r (IsAtOf to new (tables_of to s) × KeepsOtherTables desk_table_defs mid.now new.now)
    → OnOk r (IsAtOf to new (tables_of to s) × KeepsOtherTables desk_table_defs first.now new.now)
ends_since to first mid new s r same done = subst (λ (d : Database). OnOk r (IsAtOf to new (tables_of to s) × KeepsOtherTables desk_table_defs d new.now)) same done

pub cut_since : {X E : Type 0} (version to : ℕ) (first mid new : store.State) (s : State) (r : Result X E) → mid.now ≡ first.now → OnErr r (FailureLeavesAmid version to mid new s) → OnErr r (FailureLeavesAmid version to first new s)
cut_since version to first mid new s r same = on_err_weaker r (amid_since version to first mid new s same)

-- ---- what was made of it

-- of the first schema, by the rows of its tables
pub first_migrated : (to : ℕ) (first mid : store.State) (trees : Trees) (x : Loaded) (rows : DeskRows) → mid.now ≡ first.now → (IsSettled first → IsSettled mid) → AreLoaded 1 first.now x → Some (rows_listed rows) ≡ rows_from x
    → IsMigratedBy 1 (to - 1) rows.meta.position (edges_from 1 rows.movements.items) mid trees → IsMigratedFrom 1 to first trees
unfolding rows_listed
first_migrated to first mid trees x rows same settles loaded reported made = record {
  position = rows.meta.position;
  booked = rows.movements.items;
  read = inl (refl, record { loaded = x; are = loaded; rows = rows_listed rows; valid = sym reported; at = refl; movements = refl });
  migrated = migrated_since 1 (to - 1) rows.meta.position (edges_from 1 rows.movements.items) first mid trees same settles made;
}

-- of a later one, by the row of table meta
pub later_migrated : (version to : ℕ) (first mid : store.State) (trees : Trees) (stored : List Row) (meta : Meta) → 1 < version → mid.now ≡ first.now → (IsSettled first → IsSettled mid) → Loads first.now meta_table stored → Some meta ≡ only_meta stored
    → IsMigratedBy version (to - version) meta.position (edges_from version []) mid trees → IsMigratedFrom version to first trees
later_migrated version to first mid trees stored meta later same settles loads reported made = record {
  position = meta.position;
  booked = [];
  read = inr (later, record { stored = stored; are = loads; meta = meta; valid = sym reported; at = refl });
  migrated = migrated_since version (to - version) meta.position (edges_from version []) first mid trees same settles made;
}

-- as seen from a store before that shows the same
pub from_since : (version to : ℕ) (first mid : store.State) (trees : Trees) → mid.now ≡ first.now → (IsSettled first → IsSettled mid) → IsMigratedFrom version to mid trees → IsMigratedFrom version to first trees
from_since version to first mid trees same settles made = record {
  position = made.position;
  booked = made.booked;
  read = subst (λ (d : Database). IsRead version d made.position made.booked) same made.read;
  migrated = migrated_since version (to - version) made.position (edges_from version made.booked) first mid trees same settles made.migrated;
}
