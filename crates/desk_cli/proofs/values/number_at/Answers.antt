use Rattle.std.proofs.Common.{subst, sym, ◌∙◌, IfSome, ◌≤◌}
use Rattle.desk_cli.proofs.NumeralsAreRead.{number_bounded}
use Rattle.desk_cli.proofs.values.number_at.Goals as goal

pub returns-in-Some-number_in-clause-greatest : goal.returns-in-Some-number_in-clause-greatest
returns-in-Some-number_in-clause-greatest c =
    subst (λ r. IfSome r (λ k. k ≤ c.args.greatest)) (sym c.number_in.ensures ∙ c.in-Some-number_in.is) (number_bounded c.args.least c.args.greatest c.in-Some.text.now)
