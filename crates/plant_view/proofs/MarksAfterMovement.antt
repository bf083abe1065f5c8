-- What movements do to the marks.
use Rattle.std.proofs.Common.{◌≡◌, ◌∙◌, ℕ, Bool, true, false, cond, List, [], ◌∷◌, ◌++◌, map, filter, length, nat_le, Some, None, is_some, sym, subst, ap, refl, arith, ◌&&◌, le-leb, append-nil}
use Rattle.std.specs.List.{AllByRecursion, cons_option}
use Rattle.std.proofs.lemmas.Bool.{false≢true}
use Rattle.std.proofs.lemmas.List.Elements.{filter_map-append}
use Rattle.plant_base.specs.{is_open, mark_order, State, lot_at, Mark, Movement, Recall}
use Rattle.plant_trace.specs.{IsRecalled, is_recalled, ReachesNone, Node}
use Rattle.plant_trace.specs.declared.node.Node.TheVariants as node
use Rattle.plant_trace.proofs.RecallReaches.{recalled_where_reached}
use Rattle.plant_view.specs.{edge_of, edges_among, edges_of, mark_on, marks, recalls_on, is_blocked, put_all, changed_all}
use Rattle.plant_view.specs.DecisionInvariant.{DecisionInvariant}
use Rattle.plant_view.specs.TableRows.{Tables}
use Rattle.plant_view.specs.declared.change.RowChange.TheVariants as row
use Rattle.plant_view.proofs.GenealogyAfterMovement.{EdgeHas, edges_have, new_is_end}
use Rattle.plant_view.proofs.MarkChanges.{stay_where_unreached, grow_by_product}

-- no open recall reaches the node
abbrev pub Misses : List (Node × Node) → Node → Recall → Type 0
Misses pairs y r = is_open r ≡ true → IsRecalled pairs r.lot y → ⊥

-- ---- a lot that no recall reaches

none_passes : {X Y : Type 0} (f : X → Y) (test : X → Bool) (xs : List X) → nat_le 1 (length (map f (filter test xs))) ≡ false → AllByRecursion (λ x. test x ≡ false) xs
none_passes f test [] e = tt
none_passes {X} f test (x ∷ xs) e = elim (test x) as (λ b. test x ≡ b → nat_le 1 (length (map f (cond b (x ∷ filter test xs) (filter test xs)))) ≡ false → (test x ≡ false) × AllByRecursion (λ y. test y ≡ false) xs) [
  | true ↦ λ t h. absurd (false≢true (sym h ∙ le-leb 1 (length (f x ∷ map f (filter test xs))) (omega arith)))
  | false ↦ λ t h. (t, none_passes f test xs h)
] refl e

misses_all : (pairs : List (Node × Node)) (y : Node) (rs : List Recall) → AllByRecursion (λ r. (is_open r && is_recalled pairs r.lot y) ≡ false) rs → AllByRecursion (Misses pairs y) rs
misses_all pairs y [] a = tt
misses_all pairs y (r ∷ rs) a = (
  λ unlifted reached. false≢true (sym a.0 ∙ (λ i. unlifted i && (recalled_where_reached pairs r.lot y).1 reached i)),
  misses_all pairs y rs a.1,
)

pub unblocked : (s : State) (lot : List ℕ) → is_blocked s lot ≡ false → AllByRecursion (Misses (edges_of s) (node.Lot lot)) s.recalls
unblocked s lot e = misses_all (edges_of s) (node.Lot lot) s.recalls (none_passes (λ (r : Recall). mark_on r.id (node.Lot lot)) (λ r. is_open r && is_recalled (edges_of s) r.lot (node.Lot lot)) s.recalls e)

-- ---- movements that leave the marks

-- each edge begins at what no open recall reaches
module _ (s : State) (added : List Movement) where
  abbrev pub Avoids : Recall → Movement → Type 0
  Avoids r m = EdgeHas (λ x y. is_open r ≡ true → IsRecalled (edges_of s) r.lot x → ⊥) (edge_of m)

  avoided : (rs : List Recall) → AllByRecursion (λ r. AllByRecursion (Avoids r) added) rs → AllByRecursion (λ r. is_open r ≡ true → ReachesNone (edges_of s) (edges_among added) r.lot) rs
  avoided [] a = tt
  avoided (r ∷ rs) a = (λ unlifted x y e reached. edges_have (λ x y. is_open r ≡ true → IsRecalled (edges_of s) r.lot x → ⊥) added a.0 x y e unlifted reached, avoided rs a.1)

  pub marks_stay : AllByRecursion (λ r. AllByRecursion (Avoids r) added) s.recalls → marks s.recalls (edges_among (s.movements ++ added)) ≡ marks s.recalls (edges_of s)
  marks_stay a = ap (λ (ps : List (Node × Node)). marks s.recalls ps) (filter_map-append edge_of s.movements added) ∙ stay_where_unreached s.recalls (edges_of s) (edges_among added) (avoided s.recalls a)

-- a movement that makes no edge
pub marks_plain : (s : State) (m : Movement) → edge_of m ≡ None → marks s.recalls (edges_among (s.movements ++ m ∷ [])) ≡ marks s.recalls (edges_of s)
marks_plain s m none = ap (λ (ps : List (Node × Node)). marks s.recalls ps) (filter_map-append edge_of s.movements (m ∷ []) ∙ (λ i. edges_of s ++ cons_option (none i) []) ∙ append-nil (edges_of s))

-- one whose edge begins at a lot that no open recall reaches
pub marks_free : (s : State) (m : Movement) (lot : List ℕ) (y : Node) → edge_of m ≡ Some (node.Lot lot, y) → is_blocked s lot ≡ false → marks s.recalls (edges_among (s.movements ++ m ∷ [])) ≡ marks s.recalls (edges_of s)
marks_free s m lot y edge free = marks_stay s (m ∷ []) (each s.recalls (unblocked s lot free))
  where
    each : (rs : List Recall) → AllByRecursion (Misses (edges_of s) (node.Lot lot)) rs → AllByRecursion (λ r. AllByRecursion (Avoids s (m ∷ []) r) (m ∷ [])) rs
    each [] a = tt
    each (r ∷ rs) a = ((subst (EdgeHas (λ x z. is_open r ≡ true → IsRecalled (edges_of s) r.lot x → ⊥)) (sym edge) a.0, tt), each rs a.1)

-- ---- a new lot of a batch

-- the marks of a batch, on a lot that it makes
pub marks_made : (s : State) → DecisionInvariant s → (m : Movement) (batch lot : List ℕ) → edge_of m ≡ Some (node.Batch batch, node.Lot lot) → is_some (lot_at s lot) ≡ false
    → marks s.recalls (edges_among (s.movements ++ m ∷ [])) ≡ put_all mark_order (map (λ r. mark_on r.id (node.Lot lot)) (recalls_on s.recalls (edges_of s) (node.Batch batch))) (marks s.recalls (edges_of s))
marks_made s sound m batch lot edge none =
    let two : node.Batch batch ≡ node.Lot lot → ⊥ = λ e. absurd cc in
    ap (λ (ps : List (Node × Node)). marks s.recalls ps) (filter_map-append edge_of s.movements (m ∷ []) ∙ (λ i. edges_of s ++ cons_option (edge i) []))
    ∙ grow_by_product s.recalls (edges_of s) (node.Batch batch) (node.Lot lot) (new_is_end s sound lot none) two

-- ---- changes

pub marks_changed : (ms : List Mark) (t : Tables) → changed_all (map row.Mark ms) t ≡ record t { marks = put_all mark_order ms t.marks }
marks_changed [] t = refl
marks_changed (m ∷ ms) t = marks_changed ms _
