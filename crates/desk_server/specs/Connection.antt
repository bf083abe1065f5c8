-- What a connection receives, and what is handed over to it.
use Rattle.std.specs.Prelude.{⊤, ◌≡◌, ◌+◌, ◌<◌, ◌≤◌, ◌⊎◌, ℕ, List, ◌++◌, length, take, drop, Option, Some, None, option_map}
use Rattle.desk_server.specs.Traffic.{Traffic, changed_at, with_end, with_received, with_sent}
use Rattle.desk_server.specs.declared.transport.Piece.{Piece}
use Rattle.desk_server.specs.declared.transport.Piece.TheVariants as piece

-- a read that had room for so many bytes gave no more, and one at least
abbrev pub IsTakenOf : Piece → ℕ → Type 0
IsTakenOf (piece.Bytes n) room = (0 < n) × (n ≤ room)
IsTakenOf piece.End room = ⊤
IsTakenOf piece.Nothing room = ⊤
IsTakenOf piece.Broken room = ⊤

-- what came was put after what had come before, and nothing else
abbrev pub HasReceived : Piece → List ℕ → List ℕ → Type 0
HasReceived (piece.Bytes n) old new = (came : List ℕ) × (new ≡ old ++ came) × (length came ≡ n) × (0 < n)
HasReceived piece.End old new = new ≡ old
HasReceived piece.Nothing old new = new ≡ old
HasReceived piece.Broken old new = new ≡ old

-- so many further bytes of an answer of this length were handed over, and none was handed over past its end
abbrev pub IsSentFrom : Option ℕ → ℕ → ℕ → ℕ → Type 0
IsSentFrom None size old new = new ≡ old
IsSentFrom (Some n) size old new = (new ≡ old + n) × (old ≤ size → new ≤ size)

-- nothing but further bytes of the connection of this number, or its end, were received
abbrev pub HasPassedOver : ℕ → Option (List Traffic) → Option (List Traffic) → Type 0
HasPassedOver n old new =
    (new ≡ old) ⊎ (new ≡ option_map (changed_at with_end n) old) ⊎ ((came : List ℕ) × (new ≡ option_map (changed_at (with_received came) n) old))

-- what the connection of this number received last was put after what it had received before
abbrev pub Receives : Piece → ℕ → List ℕ → List ℕ → Option (List Traffic) → Option (List Traffic) → Type 0
Receives (piece.Bytes k) n before after old new = (came : List ℕ) × (after ≡ before ++ came) × (new ≡ option_map (changed_at (with_received came) n) old)
Receives piece.End n before after old new = (after ≡ before) × (new ≡ option_map (changed_at with_end n) old)
Receives piece.Nothing n before after old new = (after ≡ before) × (new ≡ old)
Receives piece.Broken n before after old new = HasPassedOver n old new

-- the next bytes of the answer of the connection of this number were handed over to it, or none
abbrev pub HandsOver : Option ℕ → ℕ → List ℕ → ℕ → ℕ → Option (List Traffic) → Option (List Traffic) → Type 0
HandsOver None n answer before after old new = new ≡ old
HandsOver (Some k) n answer before after old new =
    ((after ≡ before) × (new ≡ old)) ⊎ ((after ≡ before + k) × (new ≡ option_map (changed_at (with_sent (take k (drop before answer))) n) old))
