-- The bytes of an input.
use Rattle.std.specs.Prelude.{◌≡◌, ℕ, List, Option, Some, None, ⊤}

-- An input is these bytes, as far as its reader knows them: those that it has left where it knows them, and some bytes
-- where it knows none, as with a socket or a terminal.
abbrev pub Agrees : Option (List ℕ) → List ℕ → Type 0
Agrees None whole = ⊤
Agrees (Some known) whole = whole ≡ known
