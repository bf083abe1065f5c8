use Rattle.std.proofs.lemmas.Result.{IfOk-from_err}
use Rattle.plant_trace.proofs.HoldsIfHonest.{HoldsIfHonest-weaker}
use Rattle.plant_answers_genealogy.proofs.DefinitionOfId.{of_its_id, of_the_last}
use Rattle.plant_answers_genealogy.proofs.known_lots.known_definition.Goals as goal

pub returns-in-Some-clause-found : goal.returns-in-Some-clause-found
returns-in-Some-clause-found g c =
    let s = g.V.View.state c.args.view.now in
    record {
      always = g.met.V.Edges.frame_refl _;
      before = λ h. h;
      same = λ h. g.met.V.Edges.kept_refl _;
      holds = λ h known.
          let is = of_the_last s c.args.id c.args.known.now.definition c.in-Some.last c.in-Some.ensures known.definition in
          (is.0, known, λ i. record c.args.known.now { definition = is.1 i });
    }

pub returns-in_err-found-clause-found : goal.returns-in_err-found-clause-found
returns-in_err-found-clause-found g c = HoldsIfHonest-weaker (λ q known. (IfOk-from_err _ _ c.from_residual.ensures.0, known, IfOk-from_err _ _ c.from_residual.ensures.0)) c.in_err-found.ensures

pub returns-clause-found : goal.returns-clause-found
returns-clause-found g c =
    let s = g.V.View.state c.args.view.now in
    HoldsIfHonest-weaker (λ q known. (q, record { lots = known.lots; sublots = known.sublots; holds = known.holds; definition = of_its_id s c.args.id c.in_ok-found.found q }, λ i. record c.args.known.now { definition = q i })) c.in_ok-found.ensures
