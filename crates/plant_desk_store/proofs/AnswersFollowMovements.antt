-- What is answered of a state is what its movements say.
use Rattle.std.proofs.Common.{◌≡◌, ◌∙◌, ◌+◌, ℕ, List, Option, Some, None, refl, sym, ap, subst, arith, filter}
use Rattle.plant_base.specs.{State, same, lot_at, newest_schema, Lot, Place, Refusal}
use Rattle.plant_view.proofs.ListLemmas.{found_passes, same_id, map_back, all_of, all_mapped}
use Rattle.plant_stock.specs.{left_of, born_of}
use Rattle.plant_trace.specs.{Direction, Node}
use Rattle.plant_view.specs.{lot_stock, edges_of, sublot_row, place_of_row}
use Rattle.plant_view.specs.DecisionInvariant.{DecisionInvariant}
use Rattle.plant_view.proofs.LotsAreBalanced.{balanced}
use Rattle.plant_answers_genealogy.specs.{answer_stands, answer_lot, missing, answer_trace}
use Rattle.plant_answers.specs.{answer}
use Rattle.plant_questions.specs.{Answer, Question}
use Rattle.plant_questions.specs.declared.question.Question.TheVariants as Q
use Rattle.plant_answers_genealogy.proofs.GoodsAreReached.{standing_sorted, standing_only, standing_all}
use Rattle.plant_answers_genealogy.proofs.ReachedIsTrace.{trace_lists}
use Rattle.plant_desk_store.specs.{IsTraceIn, AreStandingIn, IsLotIn, SaysOf, IsAnsweredIn}

trace_reported : (s : State) (direction : Direction) (start : Node) (o : Option Refusal) → missing s start ≡ o → IsTraceIn s direction start (answer_trace s direction start o)
trace_reported s direction start None e = trace_lists (edges_of s) direction start
trace_reported s direction start (Some r) e = λ there. let both : Some r ≡ None = sym e ∙ there in absurd (cc)

stands_is_reported : (s : State) (start : Node) (o : Option Refusal) → missing s start ≡ o → AreStandingIn s start (answer_stands s start o)
stands_is_reported s start None e = (standing_sorted s start, λ a. (standing_only s start a, standing_all s start a))
stands_is_reported s start (Some r) e = λ there. let both : Some r ≡ None = sym e ∙ there in absurd (cc)

lot_reported : (s : State) → DecisionInvariant s → (lot : List ℕ) (o : Option Lot) → lot_at s lot ≡ o → IsLotIn s lot (answer_lot s o)
lot_reported s sound lot None e = e
lot_reported s sound lot (Some l) e =
    let named : l.id ≡ lot = same_id l.id lot (found_passes (λ (r : Lot). same r.id lot) s.lots l e) in
    record {
      named = named;
      stock = subst (λ (id : List ℕ). lot_stock s id + left_of s.movements lot ≡ born_of s.movements lot) (sym named) (balanced s sound lot);
      sublots = map_back place_of_row (sublot_row s.movements) (λ p. refl) (filter (λ (p : Place). same p.lot l.id) s.places) ∙ ap (λ (id : List ℕ). filter (λ (p : Place). same p.lot id) s.places) named;
      each = all_mapped _ (sublot_row s.movements) (filter (λ (p : Place). same p.lot l.id) s.places) (all_of _ (λ (p : Place). let low = sound.stock.covered p.lot p.number in omega (arith, low)) _);
    }

said : (s : State) → DecisionInvariant s → (q : Question) → SaysOf s q (answer newest_schema s q)
unfolding answer
said s sound (Q.Lot lot) = lot_reported s sound lot (lot_at s lot) refl
said s sound (Q.Trace direction start) = trace_reported s direction start (missing s start) refl
said s sound (Q.Stands start) = stands_is_reported s start (missing s start) refl
said s sound _ = tt

pub answered : (s : State) → DecisionInvariant s → (q : Question) (a : Answer) → a ≡ answer newest_schema s q → IsAnsweredIn s q a
answered s sound q a is = record { answered = is; says = subst (SaysOf s q) (sym is) (said s sound q) }
