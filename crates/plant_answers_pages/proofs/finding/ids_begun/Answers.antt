use Rattle.std.proofs.Common.{◌∙◌, sym, ap, map}
use Rattle.plant_trace.proofs.HoldsIfHonest.{HoldsIfHonest-then}
use Rattle.plant_questions.specs.{first_begun}
use Rattle.plant_answers_pages.specs.{own_first}
use Rattle.plant_answers_pages.proofs.BegunIds.{begun_of_rows}
use Rattle.plant_answers_pages.proofs.finding.ids_begun.Goals as goal

pub returns : goal.returns
returns g c =
    let s = g.V.View.state c.args.view.now in
    let beginning = c.args.beginning in
    HoldsIfHonest-then g.met.V.Edges.kept_trans g.met.V.Edges.frame_trans c.in_ok-there.ensures c.in_ok-page.ensures (λ k p q sound.
    let here = rw (g.met.V.View.kept_state _ _ k) at q in
    let rows = c.as_slice.ensures ∙ ap (λ page. page.rows) here in
    c.in_ok-ids.ensures ∙ (λ i. first_begun beginning (own_first (p i) beginning (map g.R.HasId.id_of (rows i)))) ∙ sym (begun_of_rows g.R.HasId.id_of beginning (g.R.HasId.all s) (g.R.HasId.sorted s sound)))
