use Rattle.std.proofs.Common.{arith, le-leb, leb-true}
use Rattle.desk_file.proofs.NewPage.{front_is_short}
use Rattle.desk_file.proofs.new_file.is_begun.Goals as goal

pub returns-else-found-le-PAGE_SIZE : goal.returns-else-found-le-PAGE_SIZE
returns-else-found-le-PAGE_SIZE c =
    let long = c.if-found-le-PAGE_SIZE.false in (
      (λ low. let short = leb-true _ _ low in absurd (omega (arith, long, short))),
      (λ same. le-leb _ _ (front_is_short c.args.found.now same)),
    )
