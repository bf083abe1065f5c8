-- The nodes around a lot or batch that is there are there in a consistent state, and all are reported.
use Rattle.std.proofs.Common.{◌≡◌, ◌∙◌, ℕ, true, List, [], ◌∷◌, map, Option, Some, None, is_some, refl, sym, subst, ap, ⊎_elim, ◌==◌, ◌&&◌, is_none, option_map, filter_map}
use Rattle.std.specs.Prelude.{⊤}
use Rattle.std.specs.List.{AllByRecursion, cons_option}
use Rattle.std.proofs.lemmas.Bool.{false≢true}
use Rattle.plant_base.specs.{State, same, definition_at, lot_at, place_at, Definition, Lot, MovementKind, Place}
use Rattle.plant_base.specs.declared.rows.MovementKind.TheVariants.{Consumed, Produced, Split, Merged}
use Rattle.plant_base.specs.declared.refusal.Refusal.TheVariants.{UnknownLot}
use Rattle.plant_view.proofs.ListLemmas.{found_keeps, found_passes, same_id, same_key}
use Rattle.plant_stock.specs.{goes_to, comes_from}
use Rattle.plant_trace.specs.{HasEdge, IsReached, Direction, Node}
use Rattle.plant_trace.specs.declared.direction.Direction.TheVariants.{Forward, Back}
use Rattle.plant_trace.specs.declared.node.Node.TheVariants as node
use Rattle.plant_trace.proofs.AddingKeepsAcyclic.{first_edge, last_edge}
use Rattle.plant_view.specs.{edge_by, edge_of, edges_of, refuse, IsThere}
use Rattle.plant_view.specs.DecisionInvariant.{DecisionInvariant}
use Rattle.plant_view.proofs.Membership.{all_at, all_from}
use Rattle.plant_answers_genealogy.specs.{nodes_around, lot_node, named, node_answer, node_if, IsAround, missing}
use Rattle.plant_questions.specs.{NodeAnswer}
use Rattle.plant_questions.specs.declared.genealogy.NodeAnswer.TheVariants as known
use Rattle.plant_answers_genealogy.proofs.GoodsAreReached.{around_lists}
use Rattle.plant_answers_genealogy.proofs.FilterKeepsOrder.{picked_from}

module _ (s : State) (sound : DecisionInvariant s) where
  -- the lot is there, if the node is one
  abbrev IsHoused : Node → Type 0
  IsHoused (node.Lot id) = is_some (lot_at s id) ≡ true
  IsHoused (node.Batch id) = ⊤

  housed : (lot : List ℕ) (n : ℕ) (o : Option Place) → place_at s lot n ≡ o → is_some o ≡ true → is_some (lot_at s lot) ≡ true
  housed lot n None e h = absurd (false≢true h)
  housed lot n (Some p) e h =
      let test = λ (q : Place). same q.lot lot && q.number == n in
      let key = same_key p.lot lot p.number n (found_passes test s.places p e) in
      subst (λ (l : List ℕ). is_some (lot_at s l) ≡ true) key.0 (found_keeps (λ (q : Place). is_some (lot_at s q.lot) ≡ true) test s.places p sound.stock.housed e)

  there : (lot : List ℕ) (n : ℕ) → is_some (place_at s lot n) ≡ true → is_some (lot_at s lot) ≡ true
  there lot n h = housed lot n (place_at s lot n) refl h

  both_housed : (q p : Node × Node) → Some q ≡ Some p → IsHoused q.0 × IsHoused q.1 → IsHoused p.0 × IsHoused p.1
  both_housed q p e housed = let is : q ≡ p = cc in subst (λ (r : Node × Node). IsHoused r.0 × IsHoused r.1) is housed

  ends_there : (k : MovementKind) (lot : List ℕ) (sub : ℕ) (p : Node × Node) → IsThere s (goes_to k lot sub) → IsThere s (comes_from k lot sub) → edge_by k lot ≡ Some p → IsHoused p.0 × IsHoused p.1
  ends_there (Consumed batch) lot sub p g c e = both_housed (node.Lot lot, node.Batch batch) p e (there lot sub c, tt)
  ends_there (Produced batch) lot sub p g c e = both_housed (node.Batch batch, node.Lot lot) p e (tt, there lot sub g)
  ends_there (Split to) lot sub p g c e = both_housed (node.Lot lot, node.Lot to) p e (there lot sub c, there to 0 g)
  ends_there (Merged to) lot sub p g c e = both_housed (node.Lot lot, node.Lot to) p e (there lot sub c, there to 0 g)
  ends_there _ lot sub p g c e = absurd (cc)

  edge_there : (a b : Node) → HasEdge (edges_of s) a b → IsHoused a × IsHoused b
  edge_there a b h =
      let from = picked_from edge_of s.movements (a, b) h in
      let m = from.0 in
      let named_there = all_at _ s.movements m sound.stock.named from.1.0 in
      ends_there m.kind m.lot m.sub (a, b) named_there.0 named_there.1 from.1.1

  reached_there : (direction : Direction) (start y : Node) → IsReached direction (edges_of s) start y → IsHoused y
  reached_there Forward start y r = let e = last_edge r in (edge_there e.0 y e.1).1
  reached_there Back start y r = let e = first_edge r in (edge_there y e.0 e.1).0

  start_there : (start : Node) → missing s start ≡ None → IsHoused start
  start_there (node.Lot id) e = by (lot_at s id) e
    where
      by : (o : Option Lot) → refuse (is_none o) UnknownLot None ≡ None → is_some o ≡ true
      by None h = absurd (cc)
      by (Some l) h = refl
  start_there (node.Batch id) e = tt

  around_there : (direction : Direction) (start y : Node) → missing s start ≡ None → IsAround s direction start y → IsHoused y
  around_there direction start y e around = ⊎_elim (λ is. subst IsHoused (sym is) (start_there start e)) (λ r. reached_there direction start y r) around

  -- ---- what is reported of them

  abbrev IsReported : Node → Type 0
  IsReported y = option_map named (node_answer s y) ≡ Some y

  defined : (l : Lot) (o : Option Definition) → is_some o ≡ true → option_map named (option_map (λ d. known.Lot (lot_node s l d)) o) ≡ Some (node.Lot l.id)
  defined l None h = absurd (false≢true h)
  defined l (Some d) h = refl

  found : (id : List ℕ) (o : Option Lot) → lot_at s id ≡ o → is_some o ≡ true → option_map named (node_if s o) ≡ Some (node.Lot id)
  found id None e h = absurd (false≢true h)
  found id (Some l) e h =
      let test = λ (r : Lot). same r.id id in
      let is : l.id ≡ id = same_id l.id id (found_passes test s.lots l e) in
      defined l (definition_at s l.def) (found_keeps (λ (r : Lot). is_some (definition_at s r.def) ≡ true) test s.lots l sound.catalogue.defined e) ∙ ap (λ (i : List ℕ). Some (node.Lot i)) is

  reported : (y : Node) → IsHoused y → IsReported y
  reported (node.Lot id) h = found id (lot_at s id) refl h
  reported (node.Batch id) h = refl

  one_named : (o : Option NodeAnswer) (y : Node) (rows : List NodeAnswer) (ys : List Node) → option_map named o ≡ Some y → map named rows ≡ ys → map named (cons_option o rows) ≡ y ∷ ys
  one_named None y rows ys e rest = absurd (cc)
  one_named (Some n) y rows ys e rest =
      let is : named n ≡ y = cc in
      λ i. is i ∷ rest i

  all_named : (ys : List Node) → AllByRecursion IsReported ys → map named (filter_map (node_answer s) ys) ≡ ys
  all_named [] a = refl
  all_named (y ∷ ys) a = one_named (node_answer s y) y (filter_map (node_answer s) ys) ys a.0 (all_named ys a.1)

  pub nodes_named : (direction : Direction) (start : Node) → missing s start ≡ None → map named (filter_map (node_answer s) (nodes_around s direction start)) ≡ nodes_around s direction start
  nodes_named direction start e =
      all_named (nodes_around s direction start) (all_from IsReported (nodes_around s direction start) (λ y h. reported y (around_there direction start y e ((around_lists s direction start).only y h))))
