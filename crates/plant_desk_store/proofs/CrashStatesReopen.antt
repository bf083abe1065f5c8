-- What is opened over what a stop left.
use Rattle.std.proofs.Common.{◌≡◌, ◌<◌, ◌≤◌, ℕ, inl, inr, refl, sym, ap, ap₂, subst, arith, ◌⊎◌, All}
use Rattle.sqlite.specs.Tree.{Trees}
use Rattle.sqlite.specs.Schema.{Schema}
use Rattle.sqlite.specs.Effect.{Database, IsDatabase}
use Rattle.sqlite_catalog.specs.Listing.{IsSound}
use Rattle.plant_base.specs.{State, opening, newest_schema}
use Rattle.plant_view.specs.{tables_of}
use Rattle.plant_view.specs.TableRows.{Tables}
use Rattle.plant_answers.proofs.PlainTables.{whole_in_newest}
use Rattle.plant_invariant.proofs.StepPreservesInvariant.{opening_is_valid}
use Rattle.sql_tables.specs.{AreFree, IsFree, KeepsOtherTables}
use Rattle.plant_tables.specs.{desk_table_defs, later_table_defs, FindsOf, HoldsTablesOf}
use Rattle.plant_tables.specs.{IsKnown}
use Rattle.plant_desk_store.specs.{HoldsValidState, IsMigrated, IsAdoptable, IsOpenedAfter, ValidIsAdoptedAgain, FindsStateOf}
use Rattle.plant_desk_store.proofs.ValidTablesAreAdopted.{not_free, one_reported, version_held}
use Rattle.plant_desk_store.proofs.SchemaIsUnique.{one_schema}
use Rattle.plant_migrate.specs.{FindsMigratable}
use Rattle.plant_migrate.proofs.LaterNamesFree.{each_is_free}
use Rattle.plant_migrate.proofs.ChangesOfState.{whole_on}
use Rattle.plant_migrate.proofs.StepsCompose.{keeps_all}

abbrev database_of : Schema → Trees → Database
database_of schema trees = record { schema = schema; trees = trees }

-- sound databases over the same trees are one
pub same_database : (a b : Database) → IsDatabase a → IsDatabase b → b.trees ≡ a.trees → b ≡ a
same_database a b sound other same =
    let listed : b.schema ≡ a.schema = one_schema b.schema a.schema a.trees (subst (IsSound b.schema) same other) sound in
    ap₂ database_of listed same

pub reopened : (version : ℕ) (trees : Trees) (s : State) → IsKnown version → (finds : FindsStateOf version trees s) → (db : Database) → db.trees ≡ trees → IsDatabase db → HoldsValidState version db s × (db.schema ≡ finds.schema)
reopened version trees s known finds db same sound =
    let is : db ≡ database_of finds.schema trees = same_database _ db finds.holds.sound sound same in
    let holds = subst (λ (d : Database). HoldsTablesOf version d (tables_of version s)) (sym is) finds.holds in
    (record { known = known; valid = finds.valid; holds = holds; whole = finds.whole }, ap (λ (d : Database). d.schema) is)

-- no table is added after the newest schema
pub none_later : (later : ℕ) (schema : Schema) → later ≡ newest_schema → All (IsFree schema) (later_table_defs later)
none_later later schema newest = subst (λ k. All (IsFree schema) (later_table_defs k)) (sym newest) (λ i d low. let none : i < 0 = low in absurd (omega (arith, none)))

-- ---- adopted, stopped, opened again

module _ (old db : Database) (sound : IsDatabase db) where
  -- the database that is opened over the trees has what is to be found in them
  found_here : (version : ℕ) (t : Tables) → FindsOf version old db.trees t → HoldsTablesOf version db t × KeepsOtherTables desk_table_defs old db
  found_here version t finds =
      let is : db ≡ database_of finds.schema db.trees = same_database _ db finds.holds.sound sound refl in
      (subst (λ (d : Database). HoldsTablesOf version d t) (sym is) finds.holds, subst (KeepsOtherTables desk_table_defs old) (sym is) finds.others)

  -- and so it is with the names that are free there
  free_here : (version : ℕ) (t : Tables) → FindsMigratable version old db.trees t → All (IsFree db.schema) (later_table_defs version)
  free_here version t found =
      let is : db ≡ database_of found.finds.schema db.trees = same_database _ db found.finds.holds.sound sound refl in
      subst (λ (d : Database). All (IsFree d.schema) (later_table_defs version)) (sym is) (each_is_free found.finds.schema (later_table_defs version) found.free)

  migrated_here : (version : ℕ) (s : State) → HoldsValidState version old s → (migrated : IsMigrated old db.trees) → (later : ℕ) × (version ≤ later) × IsAdoptable later db s × KeepsOtherTables desk_table_defs old db
  migrated_here version s held migrated =
      let one : migrated.version ≡ version = one_reported version old s held migrated.version (version_held migrated.version old migrated.represented.0 migrated.represented.1) in
      let here : HoldsValidState migrated.version old s = subst (λ k. HoldsValidState k old s) (sym one) held in
      let found = migrated.finds s here in
      let represents = found_here migrated.later (tables_of migrated.later s) found.finds in
      let low : 1 ≤ migrated.version = migrated.represented.1.known.0 in
      let known : IsKnown migrated.later = (omega (arith, low, migrated.above), migrated.known) in
      let whole = whole_on migrated.version migrated.later s (omega (arith, migrated.above)) here.whole in
      let there : HoldsValidState migrated.later db s = record { known = known; valid = held.valid; holds = represents.0; whole = whole } in
      (migrated.later, omega (arith, one, migrated.above), record { held = there; free = free_here migrated.later (tables_of migrated.later s) found }, represents.1)

pub adopted_again : ValidIsAdoptedAgain
adopted_again version old s adoptable db (sound, inl same) =
    let is : db ≡ old = same_database old db adoptable.held.holds.sound sound same in
    (version, omega arith, subst (λ (d : Database). IsAdoptable version d s) (sym is) adoptable, subst (KeepsOtherTables desk_table_defs old) (sym is) (keeps_all desk_table_defs old))
adopted_again version old s adoptable db (sound, inr (inl made)) = absurd (not_free version old s adoptable.held made.free)
adopted_again version old s adoptable db (sound, inr (inr migrated)) = migrated_here old db sound version s adoptable.held migrated

pub opening_adopted : (old : Database) → IsDatabase old → AreFree desk_table_defs old.schema → (db : Database) → IsOpenedAfter old db → (db ≡ old) ⊎ (IsAdoptable newest_schema db opening × KeepsOtherTables desk_table_defs old db)
opening_adopted old was free db (sound, inl same) = inl (same_database old db was sound same)
opening_adopted old was free db (sound, inr (inl made)) =
    let represents = found_here old db sound newest_schema (tables_of newest_schema opening) made.finds in
    let held : HoldsValidState newest_schema db opening = record { known = (omega arith, omega arith); valid = opening_is_valid; holds = represents.0; whole = whole_in_newest opening } in
    inr (record { held = held; free = none_later newest_schema db.schema refl }, represents.1)
opening_adopted old was free db (sound, inr (inr migrated)) = absurd (not_free migrated.version old migrated.represented.0 migrated.represented.1 free)

pub foreign_tables_kept : (old : Database) → IsDatabase old → (AreFree desk_table_defs old.schema → ⊥) → ((version : ℕ) (s : State) → ¬ HoldsValidState version old s) → (db : Database) → IsOpenedAfter old db → db ≡ old
foreign_tables_kept old was taken none db (sound, inl same) = same_database old db was sound same
foreign_tables_kept old was taken none db (sound, inr (inl made)) = absurd (taken made.free)
foreign_tables_kept old was taken none db (sound, inr (inr migrated)) = absurd (none migrated.version migrated.represented.0 migrated.represented.1)
