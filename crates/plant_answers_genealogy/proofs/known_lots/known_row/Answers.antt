use Rattle.std.proofs.Common.{◌≡◌}
use Rattle.std.proofs.lemmas.Result.{IfOk-weaker}
use Rattle.plant_trace.proofs.HoldsIfHonest.{HoldsIfHonest-weaker}
use Rattle.plant_questions.specs.{prefetched_lots}
use Rattle.plant_answers_genealogy.specs.{after_row}
use Rattle.plant_answers_genealogy.specs.declared.known_lots.KnownLots.{KnownLots}
use Rattle.plant_answers_genealogy.proofs.PairOfHonestFacts.{both_hold}
use Rattle.plant_answers_genealogy.proofs.known_lots.known_row.Goals as goal

pub returns : goal.returns
returns g c =
    let s = g.V.View.state c.args.view.now in
    let id = c.args.id.now in
    let known_old = c.args.known.now in
    let made : KnownLots = record known_old { lots = c.prefetched_lot.new.prefetch } in
    HoldsIfHonest-weaker (λ q sound known.
    let row = q.0 sound known.lots in
    let ahead = IfOk-weaker c.prefetched_lot.result (λ _. c.prefetched_lot.new.prefetch ≡ prefetched_lots s id known_old.lots) (λ _. made ≡ after_row s id known_old) (λ _ is. λ i. record known_old { lots = is i }) (q.1 sound) in
    (row.0, record { lots = row.1; sublots = known.sublots; holds = known.holds; definition = known.definition }, ahead)) (both_hold c.prefetched_lot.ensures.found c.prefetched_lot.ensures.ahead)
