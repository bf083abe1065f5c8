use Rattle.std.proofs.Common.{◌≡◌, take}
use Rattle.plant_answers.specs.Stock.{each_once}
use Rattle.plant_answers.proofs.stock.set_of.Given as goal

-- the first ones were put
abbrev pub invariant-loop-item : goal.invariant-loop-item
invariant-loop-item g l = record {
  first : l.set.keys ≡ each_once g.T.Ord.cmp (take l.item-index l.items);
}
