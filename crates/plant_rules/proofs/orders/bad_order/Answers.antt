use Rattle.plant_rules.proofs.orders.bad_order.Goals as goal

pub returns : goal.returns
returns g c = rw c.in_ok-listed.ensures at c.first_bad_order.ensures
