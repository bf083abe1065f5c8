use Rattle.std.proofs.Common.{sym, ◌∙◌}
use Rattle.plant_http_requests.proofs.PartIsFound.{found_at_front}
use Rattle.plant_http_requests.proofs.validators.has_part.Goals as goal

pub returns : goal.returns
returns c = sym (c.loop-rest.invariant ∙ found_at_front c.args.part.now c.loop-rest.rest.now (sym c.starts_with.ensures.value ∙ c.loop-rest-test.false))
