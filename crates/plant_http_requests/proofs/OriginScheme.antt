-- A scheme before a host.
use Rattle.std.proofs.Common.{◌≡◌, ℕ, ◌==◌, ◌&&◌, Bool, true, false, List, [], ◌∷◌, ◌++◌, length, take, drop, refl, bytes_eq}

and_after : (a b c d : Bool) → (b && c) ≡ d → ((a && b) && c) ≡ (a && d)
and_after true b c d h = h
and_after false b c d h = refl

-- a text is a scheme and a host where it begins with the scheme and goes on with the host
pub is_joined : (scheme host text : List ℕ) → (bytes_eq (take (length scheme) text) scheme && bytes_eq (drop (length scheme) text) host) ≡ bytes_eq text (scheme ++ host)
is_joined [] host text = refl
is_joined (s ∷ scheme) host [] = refl
is_joined (s ∷ scheme) host (b ∷ text) = and_after (b == s) _ _ _ (is_joined scheme host text)
