use Rattle.std.proofs.Common.{◌≡◌, refl, ap, length, map, arith, Bor, List, ℕ, []}
use Rattle.sqlite_value.specs.Keys.{plain}
use Rattle.sqlite_value.specs.declared.keys.Order.{Order}
use Rattle.sql_tables.proofs.ListsAgree.{same_map, image_at}
use Rattle.sql_tables.proofs.stored_rows.are_plain.Goals as goal
use Rattle.std.proofs.lemmas.List.{length-map}

pub returns-then-orders-at-ne0 : goal.returns-then-orders-at-ne0
returns-then-orders-at-ne0 c = (
  λ no'. absurd cc,
  λ same. absurd (
      let keys = map (λ (key : Bor (List ℕ)). key.now) c.args.keys.now in
      let is = ap (λ (o : Order). o.digits) (image_at (λ key. plain) c.args.orders.now keys same c.loop-at.at plain [] c.loop-at-test.true) in
      omega (arith, c.if-orders-at-ne0.true, is)),
)

pub returns : goal.returns
returns c =
    let keys = map (λ (key : Bor (List ℕ)). key.now) c.args.keys.now in
    let same = length-map c.args.keys.now (λ (key : Bor (List ℕ)). key.now) in
    let len : length c.args.orders.now ≡ length keys = omega (arith, c.if-orders-keys.false) in
    (λ _. same_map (λ key. plain) c.args.orders.now keys len (λ k d e low. c.loop-at.invariant k d (omega arith)), λ _. refl)
