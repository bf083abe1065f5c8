-- Tables that are migrated by some versions.
use Rattle.std.proofs.Common.{◌≡◌, ◌⊎◌, inl, inr, refl, sym, ap, subst, ◌∙◌, ℕ, zero, suc, ◌+◌, ◌≤◌, ◌<◌, ◌==◌, nat_le, true, false, eqb-true, List, [], ◌∷◌, ◌++◌, Option, Some, None, option_map, arith, filter_map}
use Rattle.std.proofs.lemmas.Bool.{cases_Bool}
use Rattle.std.proofs.lemmas.Bool.Decides.{nat_tests}
use Rattle.std.specs.List.{cons_option}
use Rattle.sqlite.specs.Effect.{Database}
use Rattle.plant_base.specs.{edge_order, put, EdgeRow, Meta, Position}
use Rattle.plant_view.specs.{changed, changed_all, RowChange}
use Rattle.plant_view.specs.TableRows.{Tables}
use Rattle.plant_view.specs.declared.change.RowChange.TheVariants as change
use Rattle.sql_tables.specs.{AreFree}
use Rattle.plant_tables.specs.{later_table_defs, HoldsTablesOf, AreFresh, IsOfSchema, AreOfSchema, AreMigratable, migration}
use Rattle.plant_tables.proofs.RowChangeIsTableChange.{keyed_after_all}
use Rattle.plant_tables_columns.specs.{BookedRow}
use Rattle.plant_migrate.specs.{edge_booked, edge_change, edges_from, AreEdges, added_rows, migrated_once, migrated_by, IsMigratable}

-- ---- changes that put edges

edges_of : (booked : List BookedRow) → AreEdges (filter_map edge_change booked)
edges_of [] = tt
edges_of (b ∷ bs) = one (edge_booked b) (edges_of bs)
  where
    one : (o : Option EdgeRow) → AreEdges (filter_map edge_change bs) → AreEdges (cons_option (option_map change.Edge o) (filter_map edge_change bs))
    one None more = more
    one (Some e) more = ((e, refl), more)

pub edges_from_are : (version : ℕ) (booked : List BookedRow) → AreEdges (edges_from version booked)
edges_from_are version booked = elim (cases_Bool (version == 1)) [ inl first ↦ rw first (edges_of booked) | inr later ↦ rw later tt ]

-- the edges that were listed of these bookings are those of others that are the same
pub listed_from : (version : ℕ) (edges items : List RowChange) (slice booked : List BookedRow) → edges ≡ items → items ≡ edges_from version slice → slice ≡ booked → edges ≡ edges_from version booked
listed_from version edges items slice booked here listed same = here ∙ listed ∙ ap (edges_from version) same

-- none are added to tables of a later version
pub none_from : (version : ℕ) (booked : List BookedRow) → 1 < version → edges_from version booked ≡ []
none_from version booked later = elim (cases_Bool (version == 1)) [
  | inl first ↦ let one : version ≡ 1 = eqb-true version 1 first in absurd (omega (arith, one, later))
  | inr other ↦ rw other refl
]

added_are : (version : ℕ) (edges : List RowChange) → AreEdges edges → AreEdges (added_rows version edges)
added_are version edges are = elim (cases_Bool (version == 1)) [ inl first ↦ rw first are | inr later ↦ rw later tt ]

fresh_edges : (cs : List RowChange) → AreEdges cs → (t : Tables) → AreFresh cs t
fresh_edges [] are t = tt
fresh_edges (c ∷ cs) are t = subst (λ d. AreFresh (d ∷ cs) t) (sym are.0.1) (tt, fresh_edges cs are.1 (changed (change.Edge are.0.0) t))

kept_edges : (schema : ℕ) → nat_le 2 schema ≡ true → (cs : List RowChange) → AreEdges cs → AreOfSchema schema cs
kept_edges schema second [] are = tt
kept_edges schema second (c ∷ cs) are = (subst (IsOfSchema schema) (sym are.0.1) second, kept_edges schema second cs are.1)

added_kept : (version : ℕ) (edges : List RowChange) → AreEdges edges → AreOfSchema (version + 1) (added_rows version edges)
added_kept version edges are = elim (cases_Bool (version == 1)) [
  | inl first ↦
      let one : version ≡ 1 = eqb-true version 1 first in
      let second : nat_le 2 (version + 1) ≡ true = grind (arith, nat_tests) in
      rw first (kept_edges (version + 1) second edges are)
  | inr later ↦ rw later tt
]

-- no rows are changed but edges and that of meta
others_stay : (cs : List RowChange) → AreEdges cs → (m : Meta) (t : Tables) → (edges : List EdgeRow) × (changed_all (cs ++ change.Meta m ∷ []) t ≡ record t { meta = m; edges = edges })
others_stay [] are m t = (t.edges, refl)
others_stay (c ∷ cs) are m t =
    let rest = others_stay cs are.1 m (record t { edges = put edge_order are.0.0 t.edges }) in
    (rest.0, subst (λ d. changed_all (d ∷ (cs ++ change.Meta m ∷ [])) t ≡ record t { meta = m; edges = rest.0 }) (sym are.0.1) rest.1)

-- ---- one version

pub can_migrate : (version : ℕ) (edges : List RowChange) (db : Database) (t : Tables) → AreEdges edges → AreFree (later_table_defs version) db.schema → IsMigratable version db t → AreMigratable version (added_rows version edges) db t
can_migrate version edges db t are free can = record {
  holds = can.holds;
  keyed = can.keyed;
  lacks = can.lacks;
  free = free;
  fresh = fresh_edges (added_rows version edges) (added_are version edges are) t;
  kept = added_kept version edges are;
}

-- what is held once they were migrated can be migrated again
pub still_migratable : (version : ℕ) (position : Position) (edges : List RowChange) (old new : Database) (t : Tables) → 1 ≤ version → AreEdges edges → IsMigratable version old t
    → HoldsTablesOf (version + 1) new (migrated_once version position edges t) → IsMigratable (version + 1) new (migrated_once version position edges t)
still_migratable version position edges old new t low are can holds =
    let stay = others_stay (added_rows version edges) (added_are version edges are) (record { schema = version + 1; position = position }) t in
    record {
      holds = holds;
      keyed = keyed_after_all (migration version position (added_rows version edges)) t can.keyed;
      lacks = record {
        edges = λ lacking. absurd (grind (arith, nat_tests));
        receipts = λ lacking. let below : nat_le 3 version ≡ false = grind (arith, nat_tests) in ap (λ (u : Tables). u.receipts) stay.1 ∙ can.lacks.receipts below;
        recalls = λ lacking. let below : nat_le 4 version ≡ false = grind (arith, nat_tests) in ap (λ (u : Tables). u.recalls) stay.1 ∙ can.lacks.recalls below;
        marks = λ lacking. let below : nat_le 4 version ≡ false = grind (arith, nat_tests) in ap (λ (u : Tables). u.marks) stay.1 ∙ can.lacks.marks below;
      };
    }

-- ---- some versions

-- a number is none, or more
pub none_or_more : (n : ℕ) → (n ≡ 0) ⊎ (0 < n)
none_or_more zero = inl refl
none_or_more (suc n) = inr (omega arith)

pub one_more : (version n : ℕ) (position : Position) (edges : List RowChange) (t : Tables) → migrated_by (n + 1) version position edges t ≡ migrated_once (version + n) position edges (migrated_by n version position edges t)
one_more version n position edges t = let next : n + 1 ≡ suc n = omega arith in ap (λ k. migrated_by k version position edges t) next

-- what is so of the tables to which these rows are added is so of the migrated ones
pub once_led : (P : Tables → Type 0) (version : ℕ) (position : Position) (edges added : List RowChange) (db : Database) (t : Tables) → added ≡ added_rows version edges → AreEdges edges → AreFree (later_table_defs version) db.schema → IsMigratable version db t
    → (AreMigratable version added db t → P (changed_all (migration version position added) t)) → P (migrated_once version position edges t)
once_led P version position edges added db t same are free can all =
    let here : AreMigratable version added db t = subst (λ cs. AreMigratable version cs db t) (sym same) (can_migrate version edges db t are free can) in
    subst (λ cs. P (changed_all (migration version position cs) t)) same (all here)
