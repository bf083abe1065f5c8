-- A part at the front of a text is in it.
use Rattle.std.proofs.Common.{◌≡◌, ℕ, ◌==◌, true, List, [], ◌∷◌, refl}
use Rattle.std.specs.List.{starts_with}
use Rattle.plant_http_requests.specs.Validators.{has_part}

pub found_at_front : (part text : List ℕ) → starts_with ◌==◌ text part ≡ true → has_part part text ≡ true
found_at_front part [] h = h
found_at_front part (b ∷ text) h = rw h refl
