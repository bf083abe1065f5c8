-- A store has one version at most, and none where the names are free.
use Rattle.std.proofs.Common.{◌≡◌, sym, ap, subst, subst₂, ◌∙◌, ◌≤◌, ◌<◌, length, get_or, Bool, true, false, ℤ, pos, List, [], ◌∷◌, All, arith, ◌↔◌}
use Rattle.std.proofs.lemmas.Bool.{false≢true}
use Rattle.std.proofs.lemmas.Option.{get_or_from_slice_get, slice_get-get_or, slice_get_within}
use Rattle.sqlite.proofs.Callers.{one_permutation}
use Rattle.sqlite.specs.Does.{lacks_sequence}
use Rattle.sqlite.specs.Effect.{Database}
use Rattle.sqlite.specs.Order.{Row}
use Rattle.sqlite.specs.Schema.{Schema}
use Rattle.sqlite.specs.declared.types.Value.TheVariants.{Int}
use Rattle.sql_tables.specs.{TableDef, IsFree, AreFree}
use Rattle.sql_queries.specs.{Lists}
use Rattle.sql_queries.proofs.RowsUpToOrder.{lists_same}
use Rattle.plant_tables.specs.{desk_table_defs, meta_table}
use Rattle.plant_tables.specs.{row_of, IsValidMeta, IsVersion}
use Rattle.plant_tables.specs.declared.finding.MetaNumbers.{MetaNumbers}

-- the rows that were read are the one row of a version
pub version_row : (db : Database) (list : List Row) (n : ℤ) → Lists db meta_table list → (v : IsVersion db n) → list ≡ v.row ∷ []
version_row db list n lists v = one_permutation v.row list (lists_same db meta_table _ _ v.alone lists)

pub no_version : (db : Database) (list : List Row) → Lists db meta_table list → ((row : Row) → list ≡ row ∷ [] → ¬ IsValidMeta row) → (n : ℤ) → ¬ IsVersion db n
no_version db list lists none n v = none v.row (version_row db list n lists v) v.valid

-- equal rows have one version
schema_kept : (row row' : Row) → row ≡ row' → (a : IsValidMeta row) (b : IsValidMeta row') → a.schema ≡ b.schema
schema_kept row row' same a b =
    let both : Int (pos 1) ∷ Int a.schema ∷ Int a.seq ∷ Int a.at ∷ [] ≡ Int (pos 1) ∷ Int b.schema ∷ Int b.seq ∷ Int b.at ∷ [] = sym a.is ∙ same ∙ b.is in
    cc

-- a row of valid numbers is a valid row
pub reported_valid : (row : Row) (meta : MetaNumbers) → row ≡ row_of meta → IsValidMeta (row_of meta) → (valid : IsValidMeta row) × (valid.schema ≡ meta.schema)
reported_valid row meta is valid =
    let numbers : Int meta.k ∷ Int meta.schema ∷ Int meta.seq ∷ Int meta.at ∷ [] ≡ Int (pos 1) ∷ Int valid.schema ∷ Int valid.seq ∷ Int valid.at ∷ [] = valid.is in
    let same : valid.schema ≡ meta.schema = cc in (
      record {
        schema = valid.schema;
        seq = valid.seq;
        at = valid.at;
        is = is ∙ valid.is;
        schema_low = valid.schema_low;
        seq_low = valid.seq_low;
        seq_high = valid.seq_high;
        at_low = valid.at_low;
        at_high = valid.at_high;
      },
      same,
    )

-- a list of one row
pub only_one : (list : List Row) (row : Row) → 1 ≤ length list → length list < 2 → row ≡ get_or list 0 row → list ≡ row ∷ []
only_one [] row least most is = absurd (omega (arith, least))
only_one (a ∷ []) row least most is = ap (λ r. r ∷ []) (sym is)
only_one (a ∷ b ∷ more) row least most is = absurd (omega (arith, most))

pub one_version : (db : Database) (n k : ℤ) → IsVersion db n → IsVersion db k → n ≡ k
one_version db n k v w =
    let rows : v.row ∷ [] ≡ w.row ∷ [] = version_row db (v.row ∷ []) k v.alone w in
    let row : v.row ≡ w.row = cc in
    sym v.reports ∙ schema_kept v.row w.row row v.valid w.valid ∙ w.reports

-- names that are free one by one are those of tables that can be made, where no table still wants SQLite's table of counts
pub are_free : (schema : Schema) → All (IsFree schema) desk_table_defs → lacks_sequence schema ≡ false → AreFree desk_table_defs schema
are_free schema free counted = record {
  each = λ i table_def is. subst (IsFree schema) (get_or_from_slice_get desk_table_defs i table_def table_def is) (free i table_def (slice_get_within desk_table_defs i table_def is));
  counted = counted;
}

pub each_free : (schema : Schema) → AreFree desk_table_defs schema → All (IsFree schema) desk_table_defs
each_free schema free i d low = free.each i _ (slice_get-get_or desk_table_defs i d low)

-- where a test of the names finds that not all of them are free
pub not_free : (there schema : Schema) (table_defs : List TableDef) (all : Bool) → there ≡ schema → table_defs ≡ desk_table_defs → (all ≡ true) ↔ All (IsFree there) table_defs → all ≡ false → ¬ All (IsFree schema) desk_table_defs
not_free there schema table_defs all here same reported failed free = false≢true (sym failed ∙ reported.1 (subst₂ (λ s fs. All (IsFree s) fs) (sym here) (sym same) free))

-- where the names are free there is no version
pub free_reports_nothing : (db : Database) (n : ℤ) → All (IsFree db.schema) desk_table_defs → ¬ IsVersion db n
free_reports_nothing db n free v =
    let meta : IsFree db.schema meta_table = free 0 meta_table (omega arith) in
    let unused = meta.unused in
    let named = v.alone.declared.named in
    absurd (let both = rw named at unused in cc)
