use Rattle.std.proofs.Common.{rules, ◌≡◌, ◌∙◌, ◌++◌, option_to_list, refl, sym}
use Rattle.std.proofs.lemmas.List.Sums.{fold_more}
use Rattle.std.proofs.lemmas.Result.{IfOk-from_err}
use Rattle.plant_trace.proofs.HoldsIfHonest.{HoldsIfHonest-then}
use Rattle.plant_answers_genealogy.proofs.BatchMovementsSuffice.{reported_more}
use Rattle.plant_answers_genealogy.proofs.each_told.rows_of_each.Goals as goal

pub loop-item-init : goal.loop-item-init
loop-item-init g c = record {
  always = g.met.V.Edges.frame_refl _;
  before = λ h. h;
  same = λ h. g.met.V.Edges.kept_refl _;
  holds = λ h sound known. (c.new-rows.ensures.items, known, refl);
}

pub loop-item-preserved : goal.loop-item-preserved
loop-item-preserved g c =
    let s = g.V.View.state c.args.view.now in
    let f = g.T.RowOf.known_after s in
    let item = c.item-item.result in
    let pushed : c.push_found.new.rows.items ≡ c.loop-item.rows.items ++ option_to_list c.in_ok-found.found = search rules in
    HoldsIfHonest-then g.met.V.Edges.kept_trans g.met.V.Edges.frame_trans c.loop-item.invariant c.in_ok-found.ensures (λ k p q sound known.
    let here = rw (g.met.V.View.kept_state _ _ k) at q in
    let before = p sound known in
    let reported = here sound before.1 in
    let next = reported.2 ∙ (λ i. f (before.2 i) (c.item-item.is i)) ∙ sym (fold_more f c.args.known.now c.args.items.now c.loop-item.item-index item c.loop-item-test.true) in
    (rw pushed (reported_more (g.T.RowOf.reported s) c.args.items.now c.loop-item.item-index item c.loop-item.rows.items c.in_ok-found.found c.loop-item-test.true c.item-item.is reported.0 before.0), reported.1, next))

pub returns-then-is_err : goal.returns-then-is_err
returns-then-is_err g c = HoldsIfHonest-then g.met.V.Edges.kept_trans g.met.V.Edges.frame_trans c.loop-item.invariant c.in_ok-found.ensures (λ k p q sound known. tt)

pub returns-in_err-found : goal.returns-in_err-found
returns-in_err-found g c = HoldsIfHonest-then g.met.V.Edges.kept_trans g.met.V.Edges.frame_trans c.loop-item.invariant c.in_err-found.ensures (λ k p q sound known. IfOk-from_err _ _ c.from_residual.ensures.0)
