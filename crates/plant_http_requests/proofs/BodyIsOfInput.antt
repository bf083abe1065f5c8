-- What was read on is of the input.
use Rattle.std.proofs.Common.{◌≡◌, ℕ, List, [], ◌++◌, Option, Some, None, refl, sym, ap, ◌∙◌, append_assoc, append-nil}
use Rattle.std.specs.Io.KnownBytes.{IsAtEnd}
use Rattle.plant_http_requests.specs.{Agrees, GoesOn}

-- the bytes are there now and those after them, which are none where the reader is at its end
pub gone_on : (start left : Option (List ℕ)) (old new : List ℕ) → GoesOn start left old new
    → (rest : List ℕ) × (more : List ℕ) × Agrees start rest × (old ++ rest ≡ new ++ more) × (IsAtEnd left → more ≡ [])
gone_on None left old new (piece, c, e) = (piece, [], tt, sym e ∙ sym (append-nil new), λ h. refl)
gone_on (Some rest) None old new (piece, c, e) = absurd c
gone_on (Some rest) (Some more) old new (piece, c, e) =
    (rest, more, refl, ap (λ l. old ++ l) c ∙ sym (append_assoc old piece more) ∙ ap (λ l. l ++ more) (sym e), λ h. h)
