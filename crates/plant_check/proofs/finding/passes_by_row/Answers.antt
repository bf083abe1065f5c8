use Rattle.std.proofs.Common.{◌∙◌, sym, ap, is_none}
use Rattle.plant_tables.specs.{rows_listed}
use Rattle.plant_check.proofs.FoundIfDisobeyed.{none_where_obeyed}
use Rattle.plant_check.proofs.finding.passes_by_row.Goals as goal

pub returns-in-Ok-None : goal.returns-in-Ok-None
returns-in-Ok-None c =
    let arm = c.in-Ok-None in
    ap is_none (sym arm.field-0-is) ∙ none_where_obeyed c.args.rule (rows_listed c.args.rows.now) arm.field-0 arm.ensures c.requires

pub returns-in-Ok-Some : goal.returns-in-Ok-Some
returns-in-Ok-Some c =
    let arm = c.in-Ok-Some in
    ap is_none (sym arm.field-0-is) ∙ none_where_obeyed c.args.rule (rows_listed c.args.rows.now) arm.field-0 arm.ensures c.requires
