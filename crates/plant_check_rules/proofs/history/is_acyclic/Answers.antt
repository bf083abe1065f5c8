use Rattle.std.proofs.Common.{◌≡◌, Bool, ◌↔◌, IsTrue}
use Rattle.std.proofs.lemmas.Result.{IfOk-weaker}
use Rattle.plant_trace.specs.{IsAcyclic}
use Rattle.plant_check_rules.specs.{are_acyclic}
use Rattle.plant_check_rules.proofs.CycleTestIsExact.{acyclic_tested}
use Rattle.plant_check_rules.proofs.history.is_acyclic.Goals as goal

pub returns : goal.returns
returns c =
    let pairs = c.args.pairs.now in
    IfOk-weaker c.acyclic.result (λ (yes : Bool). IsTrue yes ↔ IsAcyclic pairs) (λ (b : Bool). b ≡ are_acyclic pairs) (λ b h. acyclic_tested pairs b h) c.acyclic.ensures
