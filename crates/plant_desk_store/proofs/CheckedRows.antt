-- What is judged of loaded rows.
use Rattle.std.proofs.Common.{◌≡◌, ◌∙◌, ℕ, ◌≤◌, true, leb-true, List, [], ◌∷◌, Bool, Some, is_some, Result, IfOk, sym, ap, subst, if◌then◌else◌}
use Rattle.std.proofs.lemmas.Result.{IfOk-weaker}
use Rattle.sqlite.specs.Order.{Row}
use Rattle.plant_base.specs.{Meta}
use Rattle.plant_view.proofs.ListLemmas.{and_left}
use Rattle.plant_tables.specs.{contents_loaded, DeskRows, Loaded, Rows, rows_from, rows_listed}
use Rattle.plant_tables.proofs.EachTable.{rows_back}
use Rattle.plant_tables_columns.specs.{only_meta}
use Rattle.plant_tables_columns.proofs.RowLaws.{meta_reads}
use Rattle.plant_check_rules.specs.{first_broken, first_broken_of, broken_rows}
use Rattle.plant_check_rules.specs.declared.rule.Rule.TheVariants as rule
use Rattle.plant_desk_store.specs.{FailsChecks, PassesChecks, FailsChecksBy, PassesChecksOf, FailsChecksOf}
use Rattle.plant_desk_store.specs.declared.check_error.CheckError.{CheckError}
use Rattle.plant_desk_store.specs.declared.check_error.CheckError.TheVariants as check_error

-- the rule that is broken first, by whether there is one row of meta
pub broken_where : (x : Loaded) (b : Bool) → is_some (only_meta (contents_loaded x 0)) ≡ b → first_broken x ≡ (if b then broken_rows (rows_from x) else Some rule.Tables)
unfolding first_broken
broken_where x b e = ap (λ c. if c then broken_rows (rows_from x) else Some rule.Tables) e

same_broken : (x : Loaded) (r : Rows) → is_some (only_meta (contents_loaded x 0)) ≡ true → rows_from x ≡ Some r → first_broken x ≡ first_broken_of r
same_broken x r e f = broken_where x true e ∙ ap broken_rows f

pub passing_of : (x : Loaded) (schema : ℕ) (rows : DeskRows) (checked : Result DeskRows CheckError) → is_some (only_meta (contents_loaded x 0)) ≡ true → rows_from x ≡ Some (rows_listed rows)
    → IfOk checked (PassesChecksOf rows schema) → IfOk checked (PassesChecks x schema)
passing_of x schema rows checked e f = IfOk-weaker checked _ _ (λ found h. subst (PassesChecks x schema) (sym h.same) (record {
  read = f;
  unbroken = h.unbroken;
  whole = same_broken x (rows_listed rows) e f ∙ h.unbroken;
  reports = h.reports;
}))

-- rows that aren't of the schema
other_schema : (x : Loaded) (schema : ℕ) (rows : DeskRows) → rows_from x ≡ Some (rows_listed rows) → ¬ (rows.meta.schema ≡ schema) → FailsChecks x schema
unfolding rows_listed
other_schema x schema rows is other = λ r reported fine reports.
    let same : rows_listed rows ≡ r = (let both = sym is ∙ reported in cc) in
    other (subst (λ (q : Rows). q.meta.schema ≡ schema) (sym same) reports)

pub check_error_by : (x : Loaded) (schema : ℕ) (rows : DeskRows) (u : CheckError) → is_some (only_meta (contents_loaded x 0)) ≡ true → rows_from x ≡ Some (rows_listed rows) → FailsChecksOf rows schema u → FailsChecksBy x schema u
check_error_by x schema rows (check_error.Broken r) e f h = same_broken x (rows_listed rows) e f ∙ h
check_error_by x schema rows check_error.Schema e f h = (same_broken x (rows_listed rows) e f ∙ h.0, other_schema x schema rows f h.1)
check_error_by x schema rows check_error.Memory e f h = tt

-- ---- the version in rows

meta_numbered : (rows : List Row) (m : Meta) → only_meta rows ≡ Some m → 1 ≤ m.schema
unfolding only_meta
meta_numbered [] m h = absurd (cc)
meta_numbered (row ∷ []) m h = leb-true 1 m.schema (and_left _ _ (meta_reads.keeps row m h).schema)
meta_numbered (row ∷ other ∷ rows) m h = absurd (cc)

rows_numbered : (x : Loaded) (r : Rows) → rows_from x ≡ Some r → 1 ≤ r.meta.schema
rows_numbered x r h = meta_numbered (contents_loaded x 0) r.meta (rows_back x r h).meta

-- it is the first or a later one
pub numbered : (x : Loaded) (schema : ℕ) (rows : DeskRows) → PassesChecks x schema rows → 1 ≤ schema
unfolding rows_listed
numbered x schema rows fit = subst (λ k. 1 ≤ k) fit.reports (rows_numbered x (rows_listed rows) fit.read)
