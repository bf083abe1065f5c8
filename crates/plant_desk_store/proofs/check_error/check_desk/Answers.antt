use Rattle.std.proofs.Common.{◌≡◌, ◌∙◌, ap, true, false, None, Some, is_some, rules}
use Rattle.std.proofs.lemmas.Result.{IfErr-weaker}
use Rattle.plant_tables.specs.{contents_loaded, rows_from, rows_listed}
use Rattle.plant_tables_columns.specs.{only_meta}
use Rattle.plant_check_rules.specs.{broken_rows}
use Rattle.plant_desk_store.proofs.CheckedRows.{broken_where, passing_of, check_error_by}
use Rattle.plant_desk_store.proofs.check_error.check_desk.Goals as goal

pub returns-then-not-has_meta-clause-check_error : goal.returns-then-not-has_meta-clause-check_error
returns-then-not-has_meta-clause-check_error c =
    let none : is_some (only_meta (contents_loaded c.args.loaded 0)) ≡ false = search rules in
    broken_where c.args.loaded false none

pub returns-in-Ok-None-clause-check_error : goal.returns-in-Ok-None-clause-check_error
returns-in-Ok-None-clause-check_error c =
    let there : is_some (only_meta (contents_loaded c.args.loaded 0)) ≡ true = search rules in
    let nothing : rows_from c.args.loaded ≡ None = search rules in
    broken_where c.args.loaded true there ∙ ap broken_rows nothing

pub returns-in-Ok-Some-clause-fit : goal.returns-in-Ok-Some-clause-fit
returns-in-Ok-Some-clause-fit c =
    let there : is_some (only_meta (contents_loaded c.args.loaded 0)) ≡ true = search rules in
    let from : rows_from c.args.loaded ≡ Some (rows_listed c.in-Ok-Some.rows) = search rules in
    passing_of c.args.loaded c.args.schema c.in-Ok-Some.rows c.check_all.result there from c.check_all.ensures.fit

pub returns-in-Ok-Some-clause-check_error : goal.returns-in-Ok-Some-clause-check_error
returns-in-Ok-Some-clause-check_error c =
    let there : is_some (only_meta (contents_loaded c.args.loaded 0)) ≡ true = search rules in
    let from : rows_from c.args.loaded ≡ Some (rows_listed c.in-Ok-Some.rows) = search rules in
    IfErr-weaker c.check_all.result _ _ (λ u. check_error_by c.args.loaded c.args.schema c.in-Ok-Some.rows u there from) c.check_all.ensures.check_error
