use Rattle.std.proofs.Common.{subst, sym, string_bytes}
use Rattle.file_reports.specs.{IsErrorText, error_of}
use Rattle.file_reports.proofs.SentencesConcatenate.{some_text}
use Rattle.file_reports.proofs.report.write_error.Goals as goal

pub returns-in-Ok : goal.returns-in-Ok
returns-in-Ok g c =
    let asked = subst (λ e. IsErrorText e (string_bytes c.in-Ok.text)) c.error.ensures c.in-Ok.ensures in
    some_text c.write_report.result (IsErrorText (error_of c.args.open_error)) _ _ c.as_bytes.result.now
    (subst (IsErrorText (error_of c.args.open_error)) (sym c.as_bytes.ensures.value) asked) c.write_report.ensures
