use Rattle.std.proofs.Common.{◌≡◌, ◌+◌, drop}
use Rattle.serde_json.specs.View.{items_view}
use Rattle.plant_json_in.proofs.MembersByInduction.{so_far}
use Rattle.plant_json_in.specs.{items_from}
use Rattle.plant_json_in.proofs.lists.items_of.Given as goal

abbrev pub invariant-loop-value : goal.invariant-loop-value
invariant-loop-value g l = record {
  number : l.number ≡ l.value-index + 1;
  list : l.list ≡ g.T.Item.list;
  later : items_from g.T.Item.make g.T.Item.row_at g.T.Item.list 1 (items_view l.values) ≡ so_far l.items.items (items_from g.T.Item.make g.T.Item.row_at g.T.Item.list l.number (items_view (drop l.value-index l.values)));
}
