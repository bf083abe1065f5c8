-- The recalls that reach a node are those whose lots lead to it.
use Rattle.std.proofs.Common.{◌≡◌, ◌∙◌, ℕ, Bool, true, false, cond, List, [], ◌∷◌, filter, sym, subst, ap, inl, inr, ⊎_elim, refl, Contains, ◌&&◌, ◌||◌}
use Rattle.std.specs.List.{list_any}
use Rattle.std.proofs.lemmas.Bool.{false≢true, or_cases, or_left, or_right}
use Rattle.std.proofs.lemmas.List.Folds.{Any-from_list_any, list_any-from_Any}
use Rattle.plant_base.specs.{is_open, Recall}
use Rattle.plant_trace.specs.{node_eq, Lists, IsReached, is_recalled, Node}
use Rattle.plant_trace.specs.declared.direction.Direction.TheVariants.{Back}
use Rattle.plant_trace.specs.declared.node.Node.TheVariants as node
use Rattle.plant_trace.proofs.NodeOrder.{node_eq_exact, node_eq_itself}
use Rattle.plant_trace.proofs.RecallReaches.{recalled_where_reached}
use Rattle.plant_view.specs.{recalls_on}
use Rattle.plant_desk.specs.{reaches_by}

module _ (pairs : List (Node × Node)) (y : Node) (before : List Node) (lists : Lists (IsReached Back pairs y) before) where
  one_bool : (a b : Bool) → (a ≡ true → b ≡ true) → (b ≡ true → a ≡ true) → a ≡ b
  one_bool true true f g = refl
  one_bool true false f g = sym (f refl)
  one_bool false true f g = g refl
  one_bool false false f g = refl

  back_there : (lot : List ℕ) → (node_eq y (node.Lot lot) || list_any (λ x. node_eq x (node.Lot lot)) before) ≡ true → is_recalled pairs lot y ≡ true
  back_there lot e = (recalled_where_reached pairs lot y).1 (⊎_elim
      (λ s. inl (node_eq_exact y (node.Lot lot) s))
      (λ a.
      let any = Any-from_list_any (λ x. node_eq x (node.Lot lot)) before a in
      let same = node_eq_exact any.1 (node.Lot lot) any.4 in
      inr (lists.only (node.Lot lot) (subst (Contains before) same (any.0, any.2, any.3))))
      (or_cases _ _ e))

  there_back : (lot : List ℕ) → is_recalled pairs lot y ≡ true → (node_eq y (node.Lot lot) || list_any (λ x. node_eq x (node.Lot lot)) before) ≡ true
  there_back lot e = ⊎_elim
      (λ s. or_left (node_eq y (node.Lot lot)) (list_any (λ x. node_eq x (node.Lot lot)) before) (node_eq_itself y (node.Lot lot) s))
      (λ r.
      let c = lists.all (node.Lot lot) r in
      or_right (node_eq y (node.Lot lot)) (list_any (λ x. node_eq x (node.Lot lot)) before) (list_any-from_Any (λ x. node_eq x (node.Lot lot)) before (c.0, node.Lot lot, c.1, c.2, node_eq_itself (node.Lot lot) (node.Lot lot) refl)))
      ((recalled_where_reached pairs lot y).0 e)

  same_test : (r : Recall) → reaches_by before y r ≡ (is_open r && is_recalled pairs r.lot y)
  same_test r = ap (λ (b : Bool). is_open r && b) (one_bool (node_eq y (node.Lot r.lot) || list_any (λ x. node_eq x (node.Lot r.lot)) before) (is_recalled pairs r.lot y) (back_there r.lot) (there_back r.lot))

  -- the recalls whose lots lead to the node are those that reach it
  pub on_by_back : (recalls : List Recall) → filter (reaches_by before y) recalls ≡ recalls_on recalls pairs y
  on_by_back [] = refl
  on_by_back (r ∷ rs) = λ i. cond (same_test r i) (r ∷ on_by_back rs i) (on_by_back rs i)

-- where no recall is open, none is on the node
pub none_on : (recalls : List Recall) (pairs : List (Node × Node)) (y : Node) → list_any is_open recalls ≡ false → recalls_on recalls pairs y ≡ []
none_on [] pairs y e = refl
none_on (r ∷ rs) pairs y e = by (is_open r) refl e (none_on rs pairs y)
  where
    by : (b : Bool) → is_open r ≡ b → (b || list_any is_open rs) ≡ false → (list_any is_open rs ≡ false → recalls_on rs pairs y ≡ []) → recalls_on (r ∷ rs) pairs y ≡ []
    by true f g rest = absurd (false≢true (sym g))
    by false f g rest = ap (λ (b : Bool). cond (b && is_recalled pairs r.lot y) (r ∷ recalls_on rs pairs y) (recalls_on rs pairs y)) f ∙ rest g
