-- What reads take of an input.
use Rattle.std.specs.Prelude.{◌≡◌, ℕ, ◌+◌, ◌<◌, ◌≤◌, List, ◌++◌, length, Option, Some, None, Bool, MatchBool}
use Rattle.std.specs.Io.KnownBytes.{Consumes, IsAtEnd}
pub use Rattle.plant_base.specs.Inputs.{Agrees}
use Rattle.plant_http_requests.specs.HeadEnd.{head_length, longest_head}
use Rattle.plant_http_requests.specs.declared.reading.HeadEnd.{HeadEnd}
use Rattle.plant_http_requests.specs.declared.reading.HeadEnd.TheVariants.{Found, TooLong, Early, Nothing}

-- a read gave n bytes, which are at the end now, and none only at the input's end
pub record TakesPiece (left left' : Option (List ℕ)) (old new : List ℕ) (n : ℕ) : Type 0 where
  pub piece : List ℕ
  pub consumed : Consumes left left' piece
  pub kept : new ≡ old ++ piece
  pub count : length piece ≡ n
  pub last : n ≡ 0 → (new ≡ old) × IsAtEnd left'

-- some bytes were read, and are at the end now
abbrev pub GoesOn : Option (List ℕ) → Option (List ℕ) → List ℕ → List ℕ → Type 0
GoesOn left left' old new = (piece : List ℕ) × Consumes left left' piece × (new ≡ old ++ piece)

-- of the reads that could be made so many are left: each took a byte at least, but for the one that met the input's end
abbrev pub Spent : HeadEnd → ℕ → ℕ → ℕ → Type 0
Spent (Found n) reads left taken = reads ≤ left + taken
Spent TooLong reads left taken = reads ≤ left + taken
Spent Early reads left taken = reads ≤ left + taken + 1
Spent Nothing reads left taken = reads ≤ left + taken + 1

-- so many reads were made, each of which took a byte at least
abbrev pub SpentAll : ℕ → Option (List ℕ) → Option (List ℕ) → Type 0
SpentAll reads left left' = (taken : List ℕ) × Consumes left left' taken × (reads ≤ length taken)

-- what was found of a head in the bytes that were read, where the reader has these left
abbrev pub FindsHead : HeadEnd → List ℕ → Option (List ℕ) → Type 0
FindsHead (Found n) bytes left = (head_length bytes ≡ Some n) × (length bytes ≤ longest_head)
FindsHead TooLong bytes left = (head_length bytes ≡ None) × (length bytes ≡ longest_head)
FindsHead Early bytes left = (head_length bytes ≡ None) × (0 < length bytes) × (length bytes < longest_head) × IsAtEnd left
FindsHead Nothing bytes left = (length bytes ≡ 0) × IsAtEnd left

-- so many bytes are there, or the input ended before
abbrev pub FindsBody : Bool → ℕ → List ℕ → Option (List ℕ) → Type 0
FindsBody there want bytes left = MatchBool there (want ≤ length bytes) ((length bytes < want) × IsAtEnd left)
