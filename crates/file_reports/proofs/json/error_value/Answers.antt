use Rattle.std.proofs.Common.{refl, Some}
use Rattle.std.proofs.lemmas.Result.{IfOk-weaker}
use Rattle.file_reports.proofs.json.error_value.Goals as goal

pub returns-in_ok-text-in-Some : goal.returns-in_ok-text-in-Some
returns-in_ok-text-in-Some c = rw c.in-Some.is (IfOk-weaker c.text_value.result _ _ (λ v shown. (Some c.as_str.result.now, refl, shown)) c.text_value.ensures)
