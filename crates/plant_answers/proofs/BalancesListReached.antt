-- The lots of a balance are those that the start is and that the least relation reaches.
use Rattle.std.proofs.Common.{◌≡◌, ◌∙◌, ℕ, ◌+◌, List, Option, Some, None, refl, sym, subst, ap, Contains, Less}
use Rattle.std.specs.List.Sorted.{IsStrictlySortedBy}
use Rattle.plant_base.specs.{State, same, id_cmp, lot_at, Lot}
use Rattle.plant_view.proofs.ListLemmas.{found_passes, same_id}
use Rattle.plant_view.specs.DecisionInvariant.{DecisionInvariant}
use Rattle.plant_trace.specs.{node_cmp, Node}
use Rattle.plant_trace.specs.declared.direction.Direction.TheVariants.{Forward}
use Rattle.plant_trace.specs.declared.node.Node.TheVariants as node
use Rattle.plant_answers_genealogy.specs.{nodes_around, balance_if, balance_at, balances_around, entered_in_all, left_in_all, lot_balance, IsAround}
use Rattle.plant_answers.specs.{BalancedFrom, balance_order}
use Rattle.plant_questions.specs.{LotBalance}
use Rattle.plant_answers_genealogy.proofs.BalancesClose.{closes}
use Rattle.plant_answers_genealogy.proofs.FilterKeepsOrder.{picked_in, picked_from, picked_sorted}
use Rattle.plant_answers_genealogy.proofs.GoodsAreReached.{around_lists}

-- a lot that is reported is there
lot_there : (s : State) (id : List ℕ) (b : LotBalance) (o : Option Lot) → lot_at s id ≡ o → balance_if s o ≡ Some b → (l : Lot) × ((lot_at s id ≡ Some l) × ((b.standing.known.lot ≡ id) × (b ≡ lot_balance s l)))
lot_there s id b None e h = absurd (cc)
lot_there s id b (Some l) e h =
    let is : lot_balance s l ≡ b = cc in
    let named : l.id ≡ id = same_id l.id id (found_passes (λ (r : Lot). same r.id id) s.lots l e) in
    (l, (e, (ap (λ (x : LotBalance). x.standing.known.lot) (sym is) ∙ named, sym is)))

reported_by : (s : State) (start : Node) (b : LotBalance) (y : Node) → IsAround s Forward start y → balance_at s y ≡ Some b → BalancedFrom s start b
reported_by s start b (node.Lot id) around h =
    let reported = lot_there s id b (lot_at s id) refl h in
    record {
      lot = reported.0;
      reached = subst (λ (i : List ℕ). IsAround s Forward start (node.Lot i)) (sym reported.1.1.0) around;
      there = subst (λ (i : List ℕ). lot_at s i ≡ Some reported.0) (sym reported.1.1.0) reported.1.0;
      reported = reported.1.1.1;
    }
reported_by s start b (node.Batch id) around h = absurd (cc)

reported_of : (s : State) (start : Node) (b : LotBalance) (r : BalancedFrom s start b) → balance_at s (node.Lot b.standing.known.lot) ≡ Some b
reported_of s start b r = ap (balance_if s) r.there ∙ ap Some (sym r.reported)

in_order : (s : State) (x y : Node) (a b : LotBalance) → node_cmp x y ≡ Less → balance_at s x ≡ Some a → balance_at s y ≡ Some b → balance_order a b ≡ Less
in_order s (node.Lot i) (node.Lot j) a b less e f =
    let first = lot_there s i a (lot_at s i) refl e in
    let second = lot_there s j b (lot_at s j) refl f in
    (λ k. id_cmp (first.1.1.0 k) (second.1.1.0 k)) ∙ less
in_order s (node.Lot i) (node.Batch j) a b less e f = absurd (cc)
in_order s (node.Batch i) y a b less e f = absurd (cc)

module _ (s : State) (start : Node) where
  pub balances_sorted : IsStrictlySortedBy balance_order (balances_around s start)
  balances_sorted = picked_sorted (balance_at s) node_cmp balance_order (in_order s) (nodes_around s Forward start) (around_lists s Forward start).ascending

  pub balances_only : (b : LotBalance) → Contains (balances_around s start) b → BalancedFrom s start b
  balances_only b h =
      let from = picked_from (balance_at s) (nodes_around s Forward start) b h in
      reported_by s start b from.0 ((around_lists s Forward start).only from.0 from.1.0) from.1.1

  pub balances_all : (b : LotBalance) → BalancedFrom s start b → Contains (balances_around s start) b
  balances_all b r = picked_in (balance_at s) (nodes_around s Forward start) (node.Lot b.standing.known.lot) b ((around_lists s Forward start).all (node.Lot b.standing.known.lot) r.reached) (reported_of s start b r)

  -- each of them closes
  pub each_closes : DecisionInvariant s → (b : LotBalance) → Contains (balances_around s start) b → entered_in_all b.flows ≡ left_in_all b.flows + b.standing.known.stock
  each_closes sound b h =
      let from = balances_only b h in
      subst (λ (x : LotBalance). entered_in_all x.flows ≡ left_in_all x.flows + x.standing.known.stock) (sym from.reported) (closes s from.lot.id sound)
