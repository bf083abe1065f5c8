use Rattle.std.proofs.Common.{◌≡◌, None, Option, Some, false, is_some, refl, arith}
use Rattle.std.proofs.lemmas.Bool.{false≢true}
use Rattle.plant_base.specs.{place_at, Place}
use Rattle.plant_view.proofs.StockColumn.{nothing_entered}
use Rattle.plant_rules.proofs.bad_parts.stock_in.Goals as goal

isnt_there : (o : Option Place) → false ≡ is_some o → o ≡ None
isnt_there None e = refl
isnt_there (Some p) e = absurd (false≢true e)

pub returns-in-None : goal.returns-in-None
returns-in-None c s lot number sound is =
    let found = rw c.in-None.is at is in
    omega (arith, nothing_entered s sound lot number (isnt_there (place_at s lot number) found.0))
