use Rattle.sqlite.specs.Held.{state}
use Rattle.file_reports.proofs.FileReportIsRight.{all_reported_on, all_damaged}
use Rattle.file_reports.proofs.file_report.report_on_store.Goals as goal

pub returns-in-Ok-clause-reported : goal.returns-in-Ok-clause-reported
returns-in-Ok-clause-reported g c clean =
    let old = state g.S.Store c.args.connection.now in
    all_reported_on old.now c.in-Ok.held c.file_report_of.result (c.in-Ok.ensures.held clean) c.file_report_of.ensures

pub returns-in-Ok-clause-first : goal.returns-in-Ok-clause-first
returns-in-Ok-clause-first g c clean =
    let old = state g.S.Store c.args.connection.now in
    all_damaged old.now c.in-Ok.held c.file_report_of.result (c.in-Ok.ensures.held clean) c.file_report_of.ensures
