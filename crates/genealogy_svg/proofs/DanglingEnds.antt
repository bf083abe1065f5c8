-- Which nodes are reported as lost: ends of edges.
use Rattle.std.proofs.Common.{◌≡◌, ℕ, List, [], ◌∷◌, ◌++◌, Option, Some, None, Result, Ok, Err, map, refl, ap, subst, inl, inr, ◌⊎◌, ⊎_elim, arith, Contains, suc, BTreeMap}
use Rattle.std.specs.BTreeMap.{get}
use Rattle.std.proofs.lemmas.List.Elements.{Contains-append_left, Contains-append_right}
use Rattle.genealogy_svg.specs.{Picture, PictureEdge, PictureLot}
use Rattle.plant_trace.specs.{node_cmp, Node}
use Rattle.plant_trace.specs.declared.node.Node.TheVariants.{Lot, Batch}
use Rattle.plant_trace.proofs.LeadsIsReach.{first_in, rest_in}
use Rattle.genealogy_svg.specs.declared.drawing.BoxPosition.{BoxPosition}
use Rattle.genealogy_svg.specs.declared.drawing.DrawnBatch.{DrawnBatch}
use Rattle.genealogy_svg.specs.declared.drawing.DrawnEdge.{DrawnEdge}
use Rattle.genealogy_svg.specs.declared.drawing.DrawnLot.{DrawnLot}
use Rattle.genealogy_svg.specs.declared.drawing.LayoutFault.{LayoutFault}
use Rattle.genealogy_svg.specs.declared.drawing.LayoutFault.TheVariants as fault
use Rattle.genealogy_svg.specs.{◌>>=◌, batches_in, drawing_in, drawn_edges_in, lots_in, nodes_of, placed, position_at, IsEndOf, IsErrorOf, IsLostEnd, IsOutside}

-- ---- faults

bind_error : {A B : Type 0} (r : Result A LayoutFault) (next : A → Result B LayoutFault) (f : LayoutFault) → (r >>= next) ≡ Err f → (r ≡ Err f) ⊎ ((a : A) × (next a ≡ Err f))
bind_error (Ok a) next f h = inr (a, h)
bind_error (Err x) next f h = let same : x ≡ f = cc in inl (ap Err same)

lost_is : (v node : Node) (o : Option BoxPosition) → placed v o ≡ Err (fault.Lost node) → v ≡ node
lost_is v node None h = cc
lost_is v node (Some p) h = absurd cc

-- ---- which nodes they are

module _ (positions : BTreeMap Node BoxPosition) (node : Node) where
  lots_lost : (done : List DrawnLot) (lots : List PictureLot) → lots_in positions done lots ≡ Err (fault.Lost node) → Contains (map (λ lot. Lot lot.id) lots) node
  lots_lost done [] h = absurd cc
  lots_lost done (lot ∷ more) h = ⊎_elim
      (λ e. subst (Contains (map (λ x. Lot x.id) (lot ∷ more))) (lost_is (Lot lot.id) node (get node_cmp positions (Lot lot.id)) e) (first_in (Lot lot.id) (map (λ x. Lot x.id) more)))
      (λ t. rest_in (Lot lot.id) (map (λ x. Lot x.id) more) node (lots_lost (done ++ record { lot = lot; position = t.0 } ∷ []) more t.1))
      (bind_error (position_at positions (Lot lot.id)) (λ position. lots_in positions (done ++ record { lot = lot; position = position } ∷ []) more) (fault.Lost node) h)

  batches_lost : (done : List DrawnBatch) (batches : List (List ℕ)) → batches_in positions done batches ≡ Err (fault.Lost node) → Contains (map Batch batches) node
  batches_lost done [] h = absurd cc
  batches_lost done (batch ∷ more) h = ⊎_elim
      (λ e. subst (Contains (map Batch (batch ∷ more))) (lost_is (Batch batch) node (get node_cmp positions (Batch batch)) e) (first_in (Batch batch) (map Batch more)))
      (λ t. rest_in (Batch batch) (map Batch more) node (batches_lost (done ++ record { batch = batch; position = t.0 } ∷ []) more t.1))
      (bind_error (position_at positions (Batch batch)) (λ position. batches_in positions (done ++ record { batch = batch; position = position } ∷ []) more) (fault.Lost node) h)

  end_first : (e : PictureEdge) (more : List PictureEdge) → (e.from ≡ node) ⊎ (e.to ≡ node) → IsEndOf (e ∷ more) node
  end_first e more h = (0, e, omega arith, refl, h)

  end_rest : (e : PictureEdge) (more : List PictureEdge) → IsEndOf more node → IsEndOf (e ∷ more) node
  end_rest e more h = (suc h.0, h.1, omega (arith, h.2), h.3, h.4)

  edges_lost : (done : List DrawnEdge) (edges : List PictureEdge) → drawn_edges_in positions done edges ≡ Err (fault.Lost node) → IsEndOf edges node
  edges_lost done [] h = absurd cc
  edges_lost done (e ∷ more) h = ⊎_elim
      (λ a. end_first e more (inl (lost_is e.from node (get node_cmp positions e.from) a)))
      (λ from. ⊎_elim
      (λ b. end_first e more (inr (lost_is e.to node (get node_cmp positions e.to) b)))
      (λ to. end_rest e more (edges_lost (done ++ record { from = from.0; to = to.0; amount = e.amount; unit = e.unit; row = None } ∷ []) more to.1))
      (bind_error (position_at positions e.to) (λ to. drawn_edges_in positions (done ++ record { from = from.0; to = to; amount = e.amount; unit = e.unit; row = None } ∷ []) more) (fault.Lost node) from.1))
      (bind_error (position_at positions e.from) (λ from. position_at positions e.to >>= (λ to. drawn_edges_in positions (done ++ record { from = from; to = to; amount = e.amount; unit = e.unit; row = None } ∷ []) more)) (fault.Lost node) h)

  -- a lost node is one of the picture's or an end of an edge
  drawing_lost : (p : Picture) → drawing_in positions p ≡ Err (fault.Lost node) → Contains (nodes_of p) node ⊎ IsEndOf p.edges node
  drawing_lost p h = ⊎_elim
      (λ a. inl (Contains-append_left (map (λ lot. Lot lot.id) p.lots) (map Batch p.batches) node (lots_lost [] p.lots a)))
      (λ lots. ⊎_elim
      (λ b. inl (Contains-append_right (map (λ lot. Lot lot.id) p.lots) (map Batch p.batches) node (batches_lost [] p.batches b)))
      (λ batches. ⊎_elim (λ c. inr (edges_lost [] p.edges c)) (λ edges. absurd (let whole = edges.1 in cc))
      (bind_error (drawn_edges_in positions [] p.edges) (λ edges. Ok (record { lots = lots.0; batches = batches.0; edges = edges })) (fault.Lost node) batches.1))
      (bind_error (batches_in positions [] p.batches) (λ batches. drawn_edges_in positions [] p.edges >>= (λ edges. Ok (record { lots = lots.0; batches = batches; edges = edges }))) (fault.Lost node) lots.1))
      (bind_error (lots_in positions [] p.lots) (λ lots. batches_in positions [] p.batches >>= (λ batches. drawn_edges_in positions [] p.edges >>= (λ edges. Ok (record { lots = lots; batches = batches; edges = edges })))) (fault.Lost node) h)

pub lost_end : (positions : BTreeMap Node BoxPosition) (p : Picture) (f : LayoutFault) → IsErrorOf (drawing_in positions p) f → IsOutside (nodes_of p) f → IsLostEnd p.edges f
lost_end positions p fault.Circle e apart = tt
lost_end positions p (fault.Lost node) e apart = ⊎_elim (λ h. absurd (apart h)) (λ h. h) (drawing_lost positions node p e)
lost_end positions p fault.Memory e apart = tt
