-- Members and items, one after the other.
use Rattle.std.proofs.Common.{List, ◌++◌, Result, Ok}
use Rattle.plant_json_in.specs.{◌>>=◌}

-- what was read so far, and then what the later ones are
abbrev pub so_far : {T E : Type 0} → List T → Result (List T) E → Result (List T) E
so_far done r = r >>= (λ more. Ok (done ++ more))
