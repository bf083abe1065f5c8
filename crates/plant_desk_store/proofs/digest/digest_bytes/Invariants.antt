use Rattle.std.proofs.Common.{◌≡◌, ◌<◌, drop}
use Rattle.plant_desk_store.specs.Digests.{digest_bytes, digest_modulus}
use Rattle.plant_desk_store.proofs.digest.digest_bytes.Given as goal

abbrev pub invariant-loop-byte : goal.invariant-loop-byte
invariant-loop-byte l = (digest_bytes l.sum (drop l.byte-index l.bytes) ≡ digest_bytes l.start l.bytes) × (l.sum < digest_modulus)
