-- A page whose rows were decoded is a page of the table's rows.
use Rattle.std.proofs.Common.{◌≡◌, ℕ, false, List, [], Option, Some, Result, Ok, Err, IfOk, IfErr, sym, subst}
use Rattle.sqlite.specs.Effect.{Database}
use Rattle.sqlite.specs.Order.{Row}
use Rattle.sql_tables.specs.{TableDef, StoreFault}
use Rattle.sql_queries.specs.{IsPage, RowPage as StoredPage}
use Rattle.plant_tables_columns.specs.{all_from}
use Rattle.plant_questions.specs.{page_size, Page}
use Rattle.plant_keyed.specs.{AreAbove, IsPaged, row_limit}

pub paged_by : {R : Type 0} (row_from : Row → Option R) (db : Database) (t : TableDef) (by places : List ℕ) (next : ℕ) (values : Row) (r : Result StoredPage StoreFault) (q : Result (Page R) StoreFault)
    → IfOk r (λ p. IsPage db t by places next values page_size p.rows.items p.has_more) → IfErr r (λ f. q ≡ Err f)
    → IfOk r (λ p. IfOk q (λ page. (all_from row_from p.rows.items ≡ Some page.rows) × (page.has_more ≡ p.has_more)))
    → IfOk q (IsPaged db t by row_from places next values)
paged_by row_from db t by places next values (Ok p) (Ok page) found failed decoded = record {
  stored = p.rows.items;
  paged = subst (λ more. IsPage db t by places next values page_size p.rows.items more) (sym decoded.1) found;
  read = decoded.0;
}
paged_by row_from db t by places next values (Ok p) (Err f) found failed decoded = tt
paged_by row_from db t by places next values (Err e) (Ok page) found failed decoded = absurd (let is : Ok page ≡ Err e = failed in cc)
paged_by row_from db t by places next values (Err e) (Err f) found failed decoded = tt

-- all rows that were decoded are the table's rows
pub above_by : {R A : Type 0} (items : A → List R) (row_from : Row → Option R) (db : Database) (t : TableDef) (by : List ℕ) (next : ℕ) (values : Row) (r : Result StoredPage StoreFault) (q : Result A StoreFault)
    → IfOk r (λ p. IsPage db t by [] next values row_limit p.rows.items p.has_more) → IfErr r (λ f. q ≡ Err f)
    → IfOk r (λ p. IfOk q (λ rows. (all_from row_from p.rows.items ≡ Some (items rows)) × (p.has_more ≡ false)))
    → IfOk q (λ rows. AreAbove db t by row_from next values (items rows))
above_by items row_from db t by next values (Ok p) (Ok rows) found failed decoded = record {
  stored = p.rows.items;
  all = subst (λ more. IsPage db t by [] next values row_limit p.rows.items more) decoded.1 found;
  read = decoded.0;
}
above_by items row_from db t by next values (Ok p) (Err f) found failed decoded = tt
above_by items row_from db t by next values (Err e) (Ok rows) found failed decoded = absurd (let is : Ok rows ≡ Err e = failed in cc)
above_by items row_from db t by next values (Err e) (Err f) found failed decoded = tt
