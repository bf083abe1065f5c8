use Rattle.std.proofs.Common.{◌≡◌, length}
use Rattle.plant_http_requests.specs.Validators.{has_part}
use Rattle.plant_http_requests.proofs.validators.has_part.Given as goal

-- the part is in the text if it is in what is left
abbrev pub invariant-loop-rest : goal.invariant-loop-rest
invariant-loop-rest l = has_part l.fn.part l.fn.text ≡ has_part l.fn.part l.rest

abbrev pub decreases-loop-rest : goal.decreases-loop-rest
decreases-loop-rest l = length l.rest
