use Rattle.std.proofs.Common.{rules, ◌≡◌, ◌++◌, ◌∷◌, []}
use Rattle.std.proofs.lemmas.Result.{IfOk-from_err}
use Rattle.plant_trace.proofs.HoldsIfHonest.{HoldsIfHonest-then}
use Rattle.plant_view.proofs.ListLemmas.{map_more}
use Rattle.plant_answers_pages.specs.{recipe_line}
use Rattle.plant_answers_pages.proofs.recipe_answers.each_with_unit.Goals as goal

pub loop-line-preserved : goal.loop-line-preserved
loop-line-preserved g c =
    let pushed : c.push.new.self.items ≡ c.loop-line.rows.items ++ c.in_ok-row.row ∷ [] = search rules in
    HoldsIfHonest-then g.met.V.Edges.kept_trans g.met.V.Edges.frame_trans c.loop-line.invariant c.in_ok-row.ensures (λ k p q.
    let is = rw (g.met.V.View.kept_state _ _ k) at q in
    rw pushed (map_more (recipe_line (g.V.View.state c.args.view.now)) c.args.lines.now c.loop-line.line-index c.line-item.result c.loop-line.rows.items c.in_ok-row.row c.loop-line-test.true c.line-item.is is p))

pub returns-then-is_err : goal.returns-then-is_err
returns-then-is_err g c = HoldsIfHonest-then g.met.V.Edges.kept_trans g.met.V.Edges.frame_trans c.loop-line.invariant c.in_ok-row.ensures (λ k p q. tt)

pub returns-in_err-row : goal.returns-in_err-row
returns-in_err-row g c = HoldsIfHonest-then g.met.V.Edges.kept_trans g.met.V.Edges.frame_trans c.loop-line.invariant c.in_err-row.ensures (λ k p q. IfOk-from_err _ _ c.from_residual.ensures.0)
