-- The edges of a picture begin and end at its nodes.
use Rattle.std.proofs.Common.{◌≡◌, ◌∙◌, ℕ, Bool, true, false, cond, List, [], ◌∷◌, ◌++◌, Option, Some, None, Result, Ok, Err, map, refl, sym, subst, ◌⊎◌, ⊎_elim, Contains, IfOk, All, Ordering, Less, Equal, Greater}
use Rattle.std.specs.List.{list_any}
use Rattle.std.specs.Map.{lookup, values_of}
use Rattle.std.specs.BTreeMap.{insert_entry, is_at}
use Rattle.std.specs.Ordering.{match_ordering}
use Rattle.std.proofs.lemmas.Bool.{or_cases}
use Rattle.std.proofs.lemmas.List.Elements.{All-cons, All-head, All-nil, All-push, All-tail, Contains-append_left, Contains-append_right}
use Rattle.std.proofs.lemmas.Map.Lookups.{exact_bytes}
use Rattle.std.proofs.lemmas.Map.Views.{tells_apart}
use Rattle.plant_trace.specs.{Node}
use Rattle.plant_trace.specs.declared.node.Node.TheVariants.{Lot, Batch}
use Rattle.plant_trace.proofs.LeadsIsReach.{first_in, rest_in}
use Rattle.genealogy_svg.specs.contracts.model.PictureLotPartialEq.TheImpl.{ghosts as equal}
use Rattle.genealogy_svg.specs.{HasEnds, IsBetween, ◌>>=◌, batches_from, edge_in, edges_from, edges_in, id_cmp, lot_noted, lot_unit, lots_from, measured, noted_where, or_else, picture_of, picture_with, unit_at, Edges, LotMap, ReportsAs}
use Rattle.genealogy_svg.specs.declared.model.Picture.{Picture}
use Rattle.genealogy_svg.specs.declared.model.PictureEdge.{PictureEdge}
use Rattle.genealogy_svg.specs.declared.model.PictureLot.{PictureLot}
use Rattle.genealogy_svg.specs.declared.reported.GraphError.{GraphError}
use Rattle.genealogy_svg.specs.declared.reported.GraphError.TheVariants as graph_error
use Rattle.genealogy_svg.specs.declared.reported.Reported.{Reported}
use Rattle.genealogy_svg.specs.declared.reported.UnitedFault.{UnitedFault}
use Rattle.genealogy_svg.specs.declared.reported.UnitedFault.TheVariants as fault

bind_ok : {A B : Type 0} (r : Result A GraphError) (next : A → Result B GraphError) (b : B) → (r >>= next) ≡ Ok b → (a : A) × (r ≡ Ok a) × (next a ≡ Ok b)
bind_ok (Ok a) next b h = (a, refl, h)
bind_ok (Err e) next b h = absurd cc

same_id : (x y : List ℕ) → is_at (id_cmp x) y ≡ true → x ≡ y
same_id x y e = tells_apart exact_bytes x y e

-- ---- lots are noted at their ids

abbrev IsAtItsId : List ℕ × PictureLot → Type 0
IsAtItsId e = e.0 ≡ e.1.id

insert_at : (o : Ordering) (k : List ℕ) (lot : PictureLot) (e : List ℕ × PictureLot) (es more : LotMap) → id_cmp k e.0 ≡ o → k ≡ lot.id
    → All IsAtItsId (e ∷ es) → All IsAtItsId more → All IsAtItsId (match_ordering o ((k, lot) ∷ e ∷ es) ((e.0, lot) ∷ es) (e ∷ more))
insert_at Less k lot e es more at is all rest = All-cons IsAtItsId (k, lot) (e ∷ es) is all
insert_at Equal k lot e es more at is all rest = All-cons IsAtItsId (e.0, lot) es (sym (exact_bytes k e.0 at) ∙ is) (All-tail IsAtItsId e es all)
insert_at Greater k lot e es more at is all rest = All-cons IsAtItsId e more (All-head IsAtItsId e es all) rest

inserted : (es : LotMap) (k : List ℕ) (lot : PictureLot) → k ≡ lot.id → All IsAtItsId es → All IsAtItsId (insert_entry id_cmp es k lot)
inserted [] k lot is all = All-cons IsAtItsId (k, lot) [] is all
inserted (e ∷ es) k lot is all = insert_at (id_cmp k e.0) k lot e es (insert_entry id_cmp es k lot) refl is all (inserted es k lot is (All-tail IsAtItsId e es all))

known_at : (b : Bool) (es now : LotMap) (lot : PictureLot) → or_else (graph_error.Lot lot.id) (cond b (Some es) None) ≡ Ok now → now ≡ es
known_at true es now lot h = cc
known_at false es now lot h = absurd cc

noted_at : (o : Option PictureLot) (es now : LotMap) (lot : PictureLot) → All IsAtItsId es → or_else (graph_error.Lot lot.id) (noted_where id_cmp equal.eq es lot.id lot o) ≡ Ok now → All IsAtItsId now
noted_at None es now lot all h = let same : insert_entry id_cmp es lot.id lot ≡ now = cc in subst (All IsAtItsId) same (inserted es lot.id lot refl all)
noted_at (Some known) es now lot all h = subst (All IsAtItsId) (sym (known_at (equal.eq known lot) es now lot h)) all

all_noted : (es now : LotMap) (lots : List PictureLot) → All IsAtItsId es → lots_from es lots ≡ Ok now → All IsAtItsId now
all_noted es now [] all h = let same : es ≡ now = cc in subst (All IsAtItsId) same all
all_noted es now (lot ∷ more) all h =
    let t = bind_ok (lot_noted es lot) (λ next. lots_from next more) now h in
    all_noted t.0 now more (noted_at (lookup (is_at (id_cmp lot.id)) es) es t.0 lot all t.1) t.2

-- ---- a node with a unit is one of the picture's

lot_found_at : (b : Bool) (id : List ℕ) (e : List ℕ × PictureLot) (es : LotMap) (lot : PictureLot) → is_at (id_cmp id) e.0 ≡ b → IsAtItsId e
    → (lookup (is_at (id_cmp id)) es ≡ Some lot → Contains (map (λ x. Lot x.id) (values_of es)) (Lot id))
    → cond b (Some e.1) (lookup (is_at (id_cmp id)) es) ≡ Some lot → Contains (map (λ x. Lot x.id) (values_of (e ∷ es))) (Lot id)
lot_found_at true id e es lot at is rest h =
    subst (λ (k : List ℕ). Contains (map (λ x. Lot x.id) (values_of (e ∷ es))) (Lot k)) (sym (same_id id e.0 at ∙ is)) (first_in (Lot e.1.id) (map (λ x. Lot x.id) (values_of es)))
lot_found_at false id e es lot at is rest h = rest_in (Lot e.1.id) (map (λ x. Lot x.id) (values_of es)) (Lot id) (rest h)

lot_found : (es : LotMap) (id : List ℕ) (lot : PictureLot) → All IsAtItsId es → lookup (is_at (id_cmp id)) es ≡ Some lot → Contains (map (λ x. Lot x.id) (values_of es)) (Lot id)
lot_found [] id lot all h = absurd cc
lot_found (e ∷ es) id lot all h =
    lot_found_at (is_at (id_cmp id) e.0) id e es lot refl (All-head IsAtItsId e es all) (lot_found es id lot (All-tail IsAtItsId e es all)) h

batch_found : (batches : List (List ℕ)) (id : List ℕ) → list_any (is_at (id_cmp id)) batches ≡ true → Contains (map Batch batches) (Batch id)
batch_found [] id h = absurd cc
batch_found (x ∷ xs) id h = ⊎_elim
    (λ here. subst (λ (k : List ℕ). Contains (map Batch (x ∷ xs)) (Batch k)) (sym (same_id id x here)) (first_in (Batch x) (map Batch xs)))
    (λ later. rest_in (Batch x) (map Batch xs) (Batch id) (batch_found xs id later))
    (or_cases (is_at (id_cmp id) x) (list_any (is_at (id_cmp id)) xs) h)

module _ (lots : LotMap) (batches : List (List ℕ)) (noted : All IsAtItsId lots) where
  abbrev nodes : List Node
  nodes = map (λ x. Lot x.id) (values_of lots) ++ map Batch batches

  lot_unit_found : (id : List ℕ) (o : Option PictureLot) (u : Option (List ℕ)) → lookup (is_at (id_cmp id)) lots ≡ o → lot_unit (Lot id) o ≡ Ok u → Contains nodes (Lot id)
  lot_unit_found id None u e h = absurd cc
  lot_unit_found id (Some lot) u e h = Contains-append_left (map (λ x. Lot x.id) (values_of lots)) (map Batch batches) (Lot id) (lot_found lots id lot noted e)

  batch_unit_found : (id : List ℕ) (b : Bool) (u : Option (List ℕ)) → list_any (is_at (id_cmp id)) batches ≡ b → cond b (Ok None) (Err (graph_error.Lost (Batch id))) ≡ Ok u → Contains nodes (Batch id)
  batch_unit_found id true u e h = Contains-append_right (map (λ x. Lot x.id) (values_of lots)) (map Batch batches) (Batch id) (batch_found batches id e)
  batch_unit_found id false u e h = absurd cc

  unit_found : (v : Node) (u : Option (List ℕ)) → unit_at lots batches v ≡ Ok u → Contains nodes v
  unit_found (Lot id) u h = lot_unit_found id (lookup (is_at (id_cmp id)) lots) u refl h
  unit_found (Batch id) u h = batch_unit_found id (list_any (is_at (id_cmp id)) batches) u refl h

  measured_ends : (ends : Node × Node) (amount : ℕ) (first last : Option (List ℕ)) (e : PictureEdge) → measured ends amount first last ≡ Ok e → (ends.0 ≡ e.from) × (ends.1 ≡ e.to)
  measured_ends ends amount (Some unit) other e h = (cc, cc)
  measured_ends ends amount None (Some unit) e h = (cc, cc)
  measured_ends ends amount None None e h = absurd cc

  edge_between : (x : (Node × Node) × ℕ) (e : PictureEdge) → edge_in lots batches x ≡ Ok e → IsBetween nodes e
  edge_between x e h =
      let first = bind_ok (unit_at lots batches x.0.0) (λ first. unit_at lots batches x.0.1 >>= (λ last. measured x.0 x.1 first last)) e h in
      let last = bind_ok (unit_at lots batches x.0.1) (λ last. measured x.0 x.1 first.0 last) e first.2 in
      let ends = measured_ends x.0 x.1 first.0 last.0 e last.2 in
      (subst (Contains nodes) ends.0 (unit_found x.0.0 first.0 first.1), subst (Contains nodes) ends.1 (unit_found x.0.1 last.0 last.1))

  all_between : (done drawn : List PictureEdge) (edges : Edges) → All (IsBetween nodes) done → edges_in lots batches done edges ≡ Ok drawn → All (IsBetween nodes) drawn
  all_between done drawn [] all h = let same : done ≡ drawn = cc in subst (All (IsBetween nodes)) same all
  all_between done drawn (x ∷ more) all h =
      let t = bind_ok (edge_in lots batches x) (λ edge. edges_in lots batches (done ++ edge ∷ []) more) drawn h in
      all_between (done ++ t.0 ∷ []) drawn more (All-push (IsBetween nodes) done t.0 all (edge_between x t.0 t.1)) t.2

  picture_between : (edges : Edges) (p : Picture) → picture_with lots batches edges ≡ Ok p → HasEnds p
  picture_between edges p h =
      let t = bind_ok (edges_in lots batches [] edges) (λ drawn. Ok (record { lots = values_of lots; batches = batches; edges = drawn })) p h in
      subst HasEnds (ok_same (record { lots = values_of lots; batches = batches; edges = t.0 }) p t.2) (all_between [] t.0 edges (All-nil (IsBetween nodes)) t.1)
    where
      ok_same : (a b : Picture) → ◌≡◌ {A = Result Picture GraphError} (Ok a) (Ok b) → a ≡ b
      ok_same a b e = cc

pub ends_found : (reported : Reported) (p : Picture) → picture_of reported ≡ Ok p → HasEnds p
unfolding picture_of
ends_found reported p h =
    let batches = batches_from [] reported.batches in
    let lots = bind_ok (lots_from [] reported.lots) (λ lots. edges_from [] reported.edges >>= (λ edges. picture_with lots batches edges)) p h in
    let edges = bind_ok (edges_from [] reported.edges) (λ edges. picture_with lots.0 batches edges) p lots.2 in
    picture_between lots.0 batches (all_noted [] lots.0 reported.lots (All-nil IsAtItsId) lots.1) edges.0 p edges.2

pub ends_if_united : (reported : Reported) (r : Result Picture UnitedFault) → ReportsAs (λ p. p) r (picture_of reported) → IfOk r HasEnds
ends_if_united reported (Ok p) h = ends_found reported p h
ends_if_united reported (Err (fault.Reported e)) h = tt
ends_if_united reported (Err fault.Memory) h = tt
