use Rattle.std.proofs.Common.{◌≡◌, filter_map}
use Rattle.std.proofs.lemmas.Result.{IfOk-weaker}
use Rattle.plant_trace.proofs.HoldsIfHonest.{HoldsIfHonest-weaker}
use Rattle.plant_answers_genealogy.proofs.each_told.each_row.Goals as goal

pub returns : goal.returns
returns g c =
    let s = g.V.View.state c.args.view.now in
    HoldsIfHonest-weaker (λ q sound. IfOk-weaker c.rows_of_each.result _ (λ v. v.items ≡ filter_map (g.T.RowOf.reported s) c.args.items.now) (λ v found. found.0) (q sound (c.new-known.ensures.valid s))) c.rows_of_each.ensures
