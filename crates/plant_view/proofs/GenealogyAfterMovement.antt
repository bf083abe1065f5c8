-- What movements do to the genealogy of a consistent state.
use Rattle.std.proofs.Common.{◌≡◌, ◌∙◌, ℕ, true, false, List, [], ◌∷◌, ◌++◌, Option, Some, None, is_some, sym, subst, ap, ⊎_elim, append-nil}
use Rattle.std.specs.List.{AllByRecursion, cons_option}
use Rattle.std.proofs.lemmas.Bool.{false≢true}
use Rattle.std.proofs.lemmas.List.Elements.{filter_map-append}
use Rattle.plant_base.specs.{State, put, batch_order, lot_at, Batch, Movement, MovementKind}
use Rattle.plant_base.specs.declared.rows.MovementKind.TheVariants as kind
use Rattle.plant_base.proofs.PutKeepsOrder.{all_weaker}
use Rattle.plant_base.proofs.KeyOrders.{id_still}
use Rattle.plant_stock.specs.{comes_from}
use Rattle.plant_trace.specs.{HasEdge, IsAcyclic, leads, KeepsAcyclic, IsEnd, Node}
use Rattle.plant_trace.specs.Reach.{Reach}
use Rattle.plant_trace.specs.declared.node.Node.TheVariants as node
use Rattle.plant_trace.proofs.AddingKeepsAcyclic.{into_keeps, new_keeps}
use Rattle.plant_trace.proofs.LeadsIsReach.{none_in, first_or_rest, leads_where_reached}
use Rattle.plant_view.specs.{edge_by, edge_of, edges_among, edges_of, batch_by, IsBatchThere, IsConsistentGenealogy, IsThere}
use Rattle.plant_view.specs.DecisionInvariant.{DecisionInvariant}
use Rattle.plant_view.proofs.CommandsPreserveInvariant.{lot_known}
use Rattle.plant_view.proofs.RowsInTurn.{all_append}

-- ---- the edges of movements

-- what holds of the ends of an edge, where there is one
abbrev pub EdgeHas : (Node → Node → Type 0) → Option (Node × Node) → Type 0
EdgeHas P None = Unit {0}
EdgeHas P (Some e) = P e.0 e.1

-- what holds of each movement's edge holds of each edge
pub edges_have : (P : Node → Node → Type 0) (ms : List Movement) → AllByRecursion (λ m. EdgeHas P (edge_of m)) ms → (x y : Node) → HasEdge (edges_among ms) x y → P x y
edges_have P [] a x y e = absurd (none_in (x, y) e)
edges_have P (m ∷ ms) a x y e = elim (edge_of m) as (λ o. EdgeHas P o → HasEdge (cons_option o (edges_among ms)) x y → P x y) [
  | None ↦ λ h f. edges_have P ms a.1 x y f
  | Some p ↦ λ h f. ⊎_elim (λ same. subst (λ (q : Node × Node). P q.0 q.1) same h) (λ r. edges_have P ms a.1 x y r) (first_or_rest p (edges_among ms) (x, y) f)
] a.0 e

-- ---- movements that are added

pub descent_grows : (batches : List Batch) (ms added : List Movement) → IsConsistentGenealogy batches ms → AllByRecursion (λ m. IsBatchThere batches (batch_by m.kind)) added → KeepsAcyclic (edges_among ms) (edges_among added) → IsConsistentGenealogy batches (ms ++ added)
descent_grows batches ms added g there keeps = record {
  batched = all_append (λ m. IsBatchThere batches (batch_by m.kind)) ms added g.batched there;
  acyclic = subst IsAcyclic (sym (filter_map-append edge_of ms added)) (keeps g.acyclic);
}

-- a movement that makes no edge and names no batch
pub descent_stays : (batches : List Batch) (ms : List Movement) (m : Movement) → IsConsistentGenealogy batches ms → edge_of m ≡ None → batch_by m.kind ≡ None → IsConsistentGenealogy batches (ms ++ m ∷ [])
descent_stays batches ms m g no_edge no_batch =
    descent_grows batches ms (m ∷ []) g (subst (IsBatchThere batches) (sym no_batch) tt, tt)
    (λ a. subst (λ (o : Option (Node × Node)). IsAcyclic (edges_among ms ++ cons_option o [])) (sym no_edge) (subst IsAcyclic (sym (append-nil (edges_among ms))) a))

module _ (s : State) (sound : DecisionInvariant s) where
  -- no edge begins at a lot that isn't there
  from_known : (k : MovementKind) (lot : List ℕ) (sub : ℕ) → IsThere s (comes_from k lot sub) → EdgeHas (λ x y. (l : List ℕ) → x ≡ node.Lot l → is_some (lot_at s l) ≡ true) (edge_by k lot)
  from_known kind.Received lot sub there = tt
  from_known (kind.Consumed batch) lot sub there = λ l e. let same : lot ≡ l = cc in ap (λ i. is_some (lot_at s i)) (sym same) ∙ lot_known s sound (lot, sub) there
  from_known (kind.Produced batch) lot sub there = λ l e. absurd cc
  from_known kind.Scrapped lot sub there = tt
  from_known (kind.Divided to) lot sub there = tt
  from_known (kind.Split to) lot sub there = λ l e. let same : lot ≡ l = cc in ap (λ i. is_some (lot_at s i)) (sym same) ∙ lot_known s sound (lot, sub) there
  from_known (kind.Merged to) lot sub there = λ l e. let same : lot ≡ l = cc in ap (λ i. is_some (lot_at s i)) (sym same) ∙ lot_known s sound (lot, sub) there

  pub new_is_end : (new : List ℕ) → is_some (lot_at s new) ≡ false → IsEnd (node.Lot new) (edges_of s)
  new_is_end new none y e =
      let known = edges_have (λ x z. (l : List ℕ) → x ≡ node.Lot l → is_some (lot_at s l) ≡ true) s.movements (all_weaker _ _ (λ (m : Movement) n. from_known m.kind m.lot m.sub n.1) s.movements sound.stock.named) (node.Lot new) y e in
      false≢true (sym none ∙ known new (λ i. node.Lot new))

  -- edges that lead into a new lot, from what isn't it
  pub keeps_into_new : (new : List ℕ) (added : List Movement) → is_some (lot_at s new) ≡ false → AllByRecursion (λ m. EdgeHas (λ x y. (y ≡ node.Lot new) × (x ≡ node.Lot new → ⊥)) (edge_of m)) added → KeepsAcyclic (edges_of s) (edges_among added)
  keeps_into_new new added none a = new_keeps (node.Lot new) (edges_of s) (edges_among added) (new_is_end new none) (edges_have (λ x y. (y ≡ node.Lot new) × (x ≡ node.Lot new → ⊥)) added a)

-- an edge from a lot into a batch that doesn't lead to the lot
pub keeps_into_batch : (pairs : List (Node × Node)) (lot batch : List ℕ) → leads pairs (node.Batch batch) (node.Lot lot) ≡ false → KeepsAcyclic pairs ((node.Lot lot, node.Batch batch) ∷ [])
keeps_into_batch pairs lot batch apart =
    let one : (x y : Node) → HasEdge ((node.Lot lot, node.Batch batch) ∷ []) x y → (x ≡ node.Lot lot) × (y ≡ node.Batch batch) = λ x y e. ⊎_elim (λ (same : (node.Lot lot, node.Batch batch) ≡ (x, y)). (sym (ap (λ (q : Node × Node). q.0) same), sym (ap (λ (q : Node × Node). q.1) same))) (λ r. absurd (none_in (x, y) r)) (first_or_rest (node.Lot lot, node.Batch batch) [] (x, y) e) in
    into_keeps (node.Batch batch) pairs ((node.Lot lot, node.Batch batch) ∷ []) (record {
      into = λ x y e. (one x y e).1;
      apart = λ x y e f. let clash : node.Lot lot ≡ node.Batch batch = sym (one x y e).0 ∙ f in absurd cc;
      prefetch = λ x y e r. false≢true (sym apart ∙ (leads_where_reached pairs (node.Batch batch) (node.Lot lot)).1 (subst (Reach (HasEdge pairs) (node.Batch batch)) (one x y e).0 r));
    })

-- ---- a batch that is added

still_there : (b : Batch) (batches : List Batch) (named : Option (List ℕ)) → IsBatchThere batches named → IsBatchThere (put batch_order b batches) named
still_there b batches None there = tt
still_there b batches (Some id) there = id_still (λ (x : Batch). x.id) b batches id there

pub descent_released : (batches : List Batch) (ms : List Movement) (b : Batch) → IsConsistentGenealogy batches ms → IsConsistentGenealogy (put batch_order b batches) ms
descent_released batches ms b g = record {
  batched = all_weaker _ _ (λ (m : Movement) there. still_there b batches (batch_by m.kind) there) ms g.batched;
  acyclic = g.acyclic;
}
