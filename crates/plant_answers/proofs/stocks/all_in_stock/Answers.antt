use Rattle.plant_trace.proofs.HoldsIfHonest.{HoldsIfHonest-then}
use Rattle.plant_answers.specs.Stock.{all_in_stock}
use Rattle.plant_answers.proofs.stocks.all_in_stock.Goals as goal

pub returns : goal.returns
unfolding all_in_stock
returns g c = HoldsIfHonest-then g.met.V.Edges.kept_trans g.met.V.Edges.frame_trans c.in_ok-lots.ensures c.each_row.ensures (λ k p q sound.
    let here = rw (g.met.V.View.kept_state _ _ k, c.as_slice.ensures.value, p sound) at q in
    here sound)
