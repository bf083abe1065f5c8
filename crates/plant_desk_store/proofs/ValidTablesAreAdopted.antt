-- The tables of a valid state are adopted again.
use Rattle.std.proofs.Common.{◌≡◌, ◌∙◌, ◌<◌, ◌≤◌, ℕ, ◌^◌, pos, List, [], ◌∷◌, inl, inr, refl, sym, subst, arith, ◌⊎◌, All, ◌≤ℤ◌}
use Rattle.std.specs.Int.Signed.{le_z_yes}
use Rattle.std.proofs.lemmas.Bool.Decides.{nat_tests}
use Rattle.std.proofs.lemmas.Option.{slice_get-get_or}
use lib.Dec.{le→leb}
use Rattle.sqlite.specs.Order.{Row}
use Rattle.sqlite.specs.declared.types.Value.TheVariants.{Int}
use Rattle.sqlite.specs.Table.{Table}
use Rattle.sqlite.specs.Schema.{Schema}
use Rattle.sqlite.specs.Tree.{Trees}
use Rattle.sqlite.specs.Effect.{Database}
use Rattle.sqlite_rules.specs.Lists.{Has}
use Rattle.sqlite_rules.proofs.ListLemmas.{has_got}
use Rattle.sqlite_catalog.specs.Listing.{IsSound, IsTableRow}
use Rattle.sqlite_catalog.proofs.LayoutLemmas.{zipped_left}
use Rattle.plant_base.specs.{greatest_moment, greatest_seq, State}
use Rattle.plant_view.specs.{tables_of}
use Rattle.sql_tables.specs.{TableDef, table_of, HasTable, HasStoredRows, AreFree, IsFree}
use Rattle.plant_tables.specs.{desk_table_defs, meta_table, table_defs_of, later_table_defs, HoldsTablesOf}
use Rattle.plant_invariant.specs.StateInvariant.{StateInvariant}
use Rattle.plant_tables.specs.{IsVersion, IsKnown, HasTablesOf, AreLoaded}
use Rattle.plant_tables.proofs.OneVersion.{one_version, each_free, free_reports_nothing}
use Rattle.plant_check_laws.proofs.InvariantImpliesChecksPass.{read_valid}
use Rattle.plant_desk_store.specs.{HoldsValidState, IsRefusedBy, IsFirstBroken, IsAdoptable}
use Rattle.plant_check_rules.specs.{Rule}
use Rattle.plant_desk_store.specs.declared.adopting.AdoptFault.{AdoptFault}
use Rattle.plant_desk_store.specs.declared.adopting.AdoptFault.TheVariants as fault

-- a tree that is listed is one of few
below : (schema : Schema) (trees : Trees) → IsSound schema trees → (t : Table) → Has schema.tables t → t.tree < 65536
below schema trees sound t listed = let row = zipped_left IsTableRow _ schema.tables t sound.lists.listed.tables listed in row.2.described.low

low_held : (db : Database) (table_def : TableDef) (rows : List Row) → IsSound db.schema db.trees → (represents : HasStoredRows db table_def rows) → represents.tree < 2 ^ 31
low_held db table_def rows sound represents = let few = below db.schema db.trees sound (table_of table_def represents.tree) (has_got db.schema.tables represents.at _ represents.declared.listed) in omega (arith, few)

table_held : (db : Database) (table_def : TableDef) (rows : List Row) → IsSound db.schema db.trees → HasStoredRows db table_def rows → HasTable db.schema table_def
table_held db table_def rows sound represents = record { at = represents.at; tree = represents.tree; declared = represents.declared; low = low_held db table_def rows sound represents }

pub pos_le : (m n : ℕ) → m ≤ n → pos m ≤ℤ pos n
pos_le m n h = le_z_yes (le→leb m n h)

pos_same : (m n : ℕ) → pos m ≡ pos n → m ≡ n
pos_same m n e = cc

module _ (version : ℕ) (db : Database) (s : State) (held : HoldsValidState version db s) where
  abbrev known_version : IsKnown version
  known_version = held.known

  abbrev valid : StateInvariant s
  valid = held.valid

  abbrev holds : HoldsTablesOf version db (tables_of version s)
  holds = held.holds

  tables_held : All (HasTable db.schema) (table_defs_of version)
  tables_held i d low = table_held db _ _ holds.sound (holds.each i _ (slice_get-get_or (table_defs_of version) i d low))

  pub version_held : IsVersion db (pos version)
  version_held =
      let meta = holds.each 0 meta_table refl in
      let known : s.at ≤ greatest_moment = grind (arith, nat_tests, valid.values.at) in
      record {
        row = Int (pos 1) ∷ Int (pos version) ∷ Int (pos s.seq) ∷ Int (pos s.at) ∷ [];
        alone = record { at = meta.at; tree = meta.tree; declared = meta.declared; low = low_held db meta_table _ holds.sound meta; same = meta.same };
        valid = record {
          schema = pos version;
          seq = pos s.seq;
          at = pos s.at;
          is = refl;
          schema_low = pos_le 1 version known_version.0;
          seq_low = pos_le 0 s.seq (omega arith);
          seq_high = pos_le s.seq greatest_seq valid.values.seq;
          at_low = pos_le 0 s.at (omega arith);
          at_high = pos_le s.at greatest_moment known;
        };
        reports = refl;
      }

  pub not_free : AreFree desk_table_defs db.schema → ⊥
  not_free free = free_reports_nothing db (pos version) (each_free db.schema free) version_held

  -- whatever version is in meta is this one
  pub one_reported : (other : ℕ) → IsVersion db (pos other) → other ≡ version
  one_reported other reported = pos_same other version (one_version db (pos other) (pos version) reported version_held)

  module _ (later : All (IsFree db.schema) (later_table_defs version)) where
    unbroken_here : (r : Rule) → IsFirstBroken db r → ⊥
    unbroken_here r (inl (first, inl none)) = absurd (none _ version_held)
    unbroken_here r (inl (first, inr (other, reported, lacking))) = absurd (lacking (subst (λ k. HasTablesOf k db.schema) (sym (one_reported other reported)) (tables_held, later)))
    unbroken_here r (inr (other, reported, whole, (x, loaded, broken))) =
        let here : AreLoaded version db x = subst (λ k. AreLoaded k db x) (one_reported other reported) loaded in
        let unbroken = (read_valid version db s x known_version valid holds here).1 in
        let both = sym unbroken ∙ broken in
        absurd (cc)

    pub unrefused_here : (f : AdoptFault) → IsRefusedBy db f → (f ≡ fault.Store) ⊎ (f ≡ fault.Memory)
    unrefused_here fault.Store refused = inl refl
    unrefused_here (fault.Newer n) refused = let same = one_reported n refused.0 in absurd (omega (arith, refused.1, same, known_version.1))
    unrefused_here (fault.Damaged r) refused = absurd (unbroken_here r refused.broken)
    unrefused_here fault.Memory refused = inr refl

pub unrefused : (version : ℕ) (db : Database) (s : State) → IsAdoptable version db s → (f : AdoptFault) → IsRefusedBy db f → (f ≡ fault.Store) ⊎ (f ≡ fault.Memory)
unrefused version db s adoptable = unrefused_here version db s adoptable.held adoptable.free
