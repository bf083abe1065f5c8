use Rattle.std.proofs.Common.{◌≡◌, option_map, refl, subst, sym}
use Rattle.plant_base.specs.{place_at}
use Rattle.plant_trace.proofs.HoldsIfHonest.{HoldsIfHonest-weaker}
use Rattle.plant_view.specs.DecisionInvariant.{DecisionInvariant}
use Rattle.plant_view.specs.{sublot_row, IsSublotOf}
use Rattle.plant_view.proofs.StockColumn.{found_sublot}
use Rattle.plant_view.proofs.lookup.sublot.Goals as goal

pub returns-in-Ok : goal.returns-in-Ok
returns-in-Ok g c =
    let s = g.V.View.state c.args.view.now in
    let row = option_map (sublot_row s.movements) (place_at s c.args.lot c.args.number) in
    HoldsIfHonest-weaker
    (λ (found : DecisionInvariant s → c.in-Ok.row ≡ row) sound. subst (IsSublotOf s c.args.lot c.args.number) (sym (found sound)) (found_sublot s c.args.lot c.args.number _ refl))
    c.in-Ok.ensures.stock
