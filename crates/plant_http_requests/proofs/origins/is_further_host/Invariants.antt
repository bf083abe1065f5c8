use Rattle.std.proofs.Common.{◌≡◌, drop}
use Rattle.plant_http_requests.specs.{is_further_host}
use Rattle.plant_http_requests.proofs.origins.is_further_host.Given as goal

abbrev pub invariant-loop-name : goal.invariant-loop-name
invariant-loop-name l = is_further_host l.hosts l.host ≡ is_further_host (drop l.name-index l.hosts) l.host
