use Rattle.std.proofs.Common.{ap, Some}
use Rattle.plant_trace.proofs.HoldsIfHonest.{HoldsIfHonest-weaker}
use Rattle.plant_answers_genealogy.proofs.balances.balance_if.Goals as goal

pub returns : goal.returns
returns g c = HoldsIfHonest-weaker (λ q sound known.
    let reported = q sound known in
    (rw c.in-Some.is (ap Some reported.0), reported.1, rw c.in-Some.is reported.2)) c.in_ok-lot_balance.ensures
