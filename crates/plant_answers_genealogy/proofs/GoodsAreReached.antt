-- The nodes around a lot or batch, and the lots among them that have stock, are those that the least relation reaches.
use Rattle.std.proofs.Common.{◌≡◌, ◌∙◌, ◌<◌, ℕ, Bool, true, false, nat_lt, List, Option, Some, None, inl, inr, ⊎_elim, refl, sym, subst, ap, arith, Contains, if◌then◌else◌, Less}
use Rattle.std.specs.List.Sorted.{IsStrictlySortedBy}
use Rattle.std.proofs.lemmas.Bool.Decides.{nat_tests}
use Rattle.plant_base.specs.{State, same, id_cmp, lot_at, put, Lot}
use Rattle.plant_view.proofs.ListLemmas.{found_passes, same_id, sorted_put}
use Rattle.plant_trace.specs.{node_cmp, node_total, Lists, Direction, Node}
use Rattle.plant_trace.specs.declared.direction.Direction.TheVariants.{Forward}
use Rattle.plant_trace.specs.declared.node.Node.TheVariants as node
use Rattle.plant_trace.proofs.NodeOrder.{node_exact}
use Rattle.plant_view.specs.{edges_of}
use Rattle.plant_view.proofs.Membership.{put_in, put_from, put_stays}
use Rattle.plant_answers_genealogy.specs.{nodes_around, stocked_if, stocked_at, lots_standing, IsAround, StandsFrom, standing_order, trace_of, if_stocked, standing_lot}
use Rattle.plant_questions.specs.{StandingLot}
use Rattle.plant_answers_genealogy.proofs.FilterKeepsOrder.{picked_in, picked_from, picked_sorted}
use Rattle.plant_answers_genealogy.proofs.ReachedIsTrace.{trace_lists}

-- ---- nodes

pub around_lists : (s : State) (direction : Direction) (start : Node) → Lists (IsAround s direction start) (nodes_around s direction start)
around_lists s direction start =
    let trace = trace_of s direction start in
    let lists = trace_lists (edges_of s) direction start in
    record {
      ascending = sorted_put node_cmp node_total start trace lists.ascending;
      only = λ y h. ⊎_elim (λ e. inl e) (λ i. inr (lists.only y i)) (put_from node_cmp start y trace h);
      all = λ y r. ⊎_elim (λ e. subst (Contains (put node_cmp start trace)) (sym e) (put_in node_cmp start trace)) (λ i. put_stays node_cmp node_total node_exact start y trace (lists.all y i)) r;
    }

-- ---- lots with stock

by_stock : (x a : StandingLot) (b : Bool) → nat_lt 0 x.known.stock ≡ b → (if b then Some x else None) ≡ Some a → (a ≡ x) × (0 < a.known.stock)
by_stock x a true e h =
    let is : x ≡ a = cc in
    let more : 0 < x.known.stock = grind (arith, nat_tests) in
    (sym is, subst (λ (z : StandingLot). 0 < z.known.stock) is more)
by_stock x a false e h = absurd (cc)

-- a lot that is reported is there
lot_there : (s : State) (id : List ℕ) (a : StandingLot) (o : Option Lot) → lot_at s id ≡ o → stocked_if s o ≡ Some a → (l : Lot) × ((lot_at s id ≡ Some l) × ((a.known.lot ≡ id) × ((a ≡ standing_lot s l) × (0 < a.known.stock))))
lot_there s id a None e h = absurd (cc)
lot_there s id a (Some l) e h =
    let reported = by_stock (standing_lot s l) a (nat_lt 0 (standing_lot s l).known.stock) refl h in
    let named : l.id ≡ id = same_id l.id id (found_passes (λ (r : Lot). same r.id id) s.lots l e) in
    (l, (e, (ap (λ (x : StandingLot). x.known.lot) reported.0 ∙ named, reported)))

reported_by : (s : State) (start : Node) (a : StandingLot) (y : Node) → IsAround s Forward start y → stocked_at s y ≡ Some a → StandsFrom s start a
reported_by s start a (node.Lot id) around h =
    let reported = lot_there s id a (lot_at s id) refl h in
    record {
      lot = reported.0;
      reached = subst (λ (i : List ℕ). IsAround s Forward start (node.Lot i)) (sym reported.1.1.0) around;
      there = subst (λ (i : List ℕ). lot_at s i ≡ Some reported.0) (sym reported.1.1.0) reported.1.0;
      reported = reported.1.1.1.0;
      stocked = reported.1.1.1.1;
    }
reported_by s start a (node.Batch id) around h = absurd (cc)

stocked_reported : (x : StandingLot) → 0 < x.known.stock → if_stocked x ≡ Some x
stocked_reported x more =
    let yes : nat_lt 0 x.known.stock ≡ true = grind (arith, nat_tests) in
    ap (λ (b : Bool). if b then Some x else None) yes

reported_of : (s : State) (start : Node) (a : StandingLot) (r : StandsFrom s start a) → stocked_at s (node.Lot a.known.lot) ≡ Some a
reported_of s start a r =
    let more : 0 < (standing_lot s r.lot).known.stock = subst (λ (z : StandingLot). 0 < z.known.stock) r.reported r.stocked in
    ap (stocked_if s) r.there ∙ stocked_reported (standing_lot s r.lot) more ∙ ap Some (sym r.reported)

in_order : (s : State) (a b : Node) (y z : StandingLot) → node_cmp a b ≡ Less → stocked_at s a ≡ Some y → stocked_at s b ≡ Some z → standing_order y z ≡ Less
in_order s (node.Lot i) (node.Lot j) y z less e f =
    let first = lot_there s i y (lot_at s i) refl e in
    let second = lot_there s j z (lot_at s j) refl f in
    (λ k. id_cmp (first.1.1.0 k) (second.1.1.0 k)) ∙ less
in_order s (node.Lot i) (node.Batch j) y z less e f = absurd (cc)
in_order s (node.Batch i) b y z less e f = absurd (cc)

module _ (s : State) (start : Node) where
  pub standing_sorted : IsStrictlySortedBy standing_order (lots_standing s start)
  standing_sorted = picked_sorted (stocked_at s) node_cmp standing_order (in_order s) (nodes_around s Forward start) (around_lists s Forward start).ascending

  pub standing_only : (a : StandingLot) → Contains (lots_standing s start) a → StandsFrom s start a
  standing_only a h =
      let from = picked_from (stocked_at s) (nodes_around s Forward start) a h in
      reported_by s start a from.0 ((around_lists s Forward start).only from.0 from.1.0) from.1.1

  pub standing_all : (a : StandingLot) → StandsFrom s start a → Contains (lots_standing s start) a
  standing_all a r = picked_in (stocked_at s) (nodes_around s Forward start) (node.Lot a.known.lot) a ((around_lists s Forward start).all (node.Lot a.known.lot) r.reached) (reported_of s start a r)
