use Rattle.plant_trace.proofs.HoldsIfHonest.{HoldsIfHonest-weaker}
use Rattle.plant_rules.proofs.items.item_of.Goals as goal

pub returns-in-ImportOrders : goal.returns-in-ImportOrders
returns-in-ImportOrders g c = rw c.in-ImportOrders.is (HoldsIfHonest-weaker (λ found sound. found) (rw c.as_slice.ensures at c.bad_order.ensures))

pub returns-in-Merge : goal.returns-in-Merge
returns-in-Merge g c = rw c.in-Merge.is (rw c.as_slice-in-Merge.ensures at c.bad_part.ensures)
