use Rattle.std.proofs.Common.{rules, arith, ◌≡◌, ◌++◌, ◌-◌, ◌+◌, suc, take, option_to_list, refl, Some}
use Rattle.plant_trace.proofs.HoldsIfHonest.{HoldsIfHonest-then}
use Rattle.plant_questions.specs.{most_found}
use Rattle.plant_answers_pages.specs.{recipes_left}
use Rattle.plant_answers_pages.proofs.BegunIds.{begins_itself}
use Rattle.plant_answers_pages.proofs.RecipesInTurn.{one_more}
use Rattle.plant_answers_pages.proofs.recipes_in_turn.recipes_after.Goals as goal

pub loop-init : goal.loop-init
loop-init g c = record {
  always = g.met.V.Edges.frame_refl _;
  before = λ h. h;
  same = λ h. g.met.V.Edges.kept_refl _;
  holds = λ h sound. (rw c.new-ids.ensures.items refl, begins_itself c.args.beginning);
}

pub loop-preserved : goal.loop-preserved
loop-preserved g c =
    let s = g.V.View.state c.args.view.now in
    let p = c.args.beginning in
    let n = most_found - (c.loop.counter + 1) in
    let pushed : c.push_id.new.ids.items ≡ c.loop.ids.items ++ option_to_list c.in_ok-cursor.cursor = search rules in
    let count : most_found - c.loop.counter ≡ suc n = omega (arith, c.loop-test.true) in
    HoldsIfHonest-then g.met.V.Edges.kept_trans g.met.V.Edges.frame_trans c.loop.invariant c.in_ok-cursor.ensures (λ k so q sound.
    let here = rw (g.met.V.View.kept_state _ _ k) at q in
    let before = so sound in
    let next = here sound before.1 in
    (rw pushed (one_more s p (most_found - c.loop.counter) n count (take most_found (recipes_left s p (Some p))) c.loop.ids.items c.loop.cursor c.in_ok-cursor.cursor next.0 before.0), next.1))
