use Rattle.std.proofs.Common.{ap, ◌∙◌}
use Rattle.std.proofs.lemmas.Result.{IfOk-weaker}
use Rattle.serde_json.specs.Written.{has_float, compact_text}
use Rattle.file_reports.proofs.OutcomeHasNoFloats.{of_outcome}
use Rattle.file_reports.proofs.json.object_text.Goals as goal

pub returns : goal.returns
returns c =
    let reported = c.in_ok-value.ensures in
    IfOk-weaker c.to_string.result _ _ (λ s h. (reported.0, reported.1, h (ap has_float reported.2 ∙ of_outcome c.args.outcome.now reported.0) ∙ ap compact_text reported.2)) c.to_string.ensures.text
