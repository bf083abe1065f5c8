use Rattle.std.proofs.Common.{subst, sym, ◌∙◌, IfSome, ◌≤◌, arith}
use Rattle.desk_cli.proofs.NumeralsAreRead.{number_bounded}
use Rattle.desk_cli.proofs.values.small_in.Goals as goal

pub overflow_cast-result : goal.overflow_cast-result
overflow_cast-result c =
    let within : c.in-Some.number ≤ c.from.result = subst (λ r. IfSome r (λ k. k ≤ c.from.result)) (sym c.number_in.ensures ∙ c.in-Some.is) (number_bounded 0 c.from.result c.args.text.now) in
    omega (arith, within, c.from.ensures, c.ranges.greatest.fits)
