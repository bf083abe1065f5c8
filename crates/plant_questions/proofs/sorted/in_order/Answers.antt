use Rattle.std.proofs.Common.{rules, ◌≡◌, ◌∙◌, ◌+◌, ◌∷◌, [], length, length-append, sym, ap, arith}
use Rattle.plant_questions.proofs.InsertionFromEnd.{put_each, put_last, put_all}
use Rattle.plant_questions.proofs.sorted.in_order.Goals as goal

pub loop-row-init : goal.loop-row-init
loop-row-init g c = record {
  rows = rw c.in_ok-sorted.ensures.items (put_all g.R.HasKey.order c.args.rows.items);
  room = omega (arith, c.len.ensures, c.in_ok-sorted.ensures.len, c.in_ok-sorted.ensures.capacity);
}

pub loop-row-preserved : goal.loop-row-preserved
loop-row-preserved g c =
    let order = g.R.HasKey.order in
    let row = c.in-Some.row in
    let rest = c.pop.new.self.items in
    let items = c.in-Some.ensures.items in
    let longer : length c.loop-row.left.items ≡ length rest + 1 = omega (arith, ap length items, length-append rest (row ∷ [])) in
    record {
      rows = ap (put_each order rest) c.put_row.ensures.items ∙ sym (put_last order rest row c.loop-row.sorted.items) ∙ ap (λ xs. put_each order xs c.loop-row.sorted.items) (sym items) ∙ c.loop-row.invariant.rows;
      room = omega (arith, longer, c.put_row.ensures.len, c.put_row.ensures.capacity, c.loop-row.invariant.room);
    }

pub returns : goal.returns
returns g c =
    let empty : c.loop-row.left.items ≡ [] = search rules in
    ap (λ xs. put_each g.R.HasKey.order xs c.loop-row.sorted.items) (sym empty) ∙ c.loop-row.invariant.rows
