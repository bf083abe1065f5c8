use Rattle.std.proofs.Common.{rules}
use Rattle.genealogy_svg.specs.{picture_of, ReportsAs}
use Rattle.genealogy_svg.proofs.EndsFound.{ends_if_united}
use Rattle.genealogy_svg.proofs.uniting.united.Goals as goal

pub returns-clause-ends : goal.returns-clause-ends
unfolding picture_of
returns-clause-ends c =
    let whole : ReportsAs (λ p. p) c.picture_with.result (picture_of c.args.reported.now) = search rules in
    ends_if_united c.args.reported.now c.picture_with.result whole
