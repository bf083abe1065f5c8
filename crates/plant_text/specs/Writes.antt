-- What reaches a writer.
use Rattle.std.specs.Prelude.{◌≡◌, ℕ, ◌<◌, List, ◌++◌, length, Option}
use Rattle.std.specs.Io.KnownBytes.{Appends}
-- the text and its LF
pub use Rattle.plant_text_answers.specs.Record.{with_lf}

-- a prefix of the text was written and nothing else, and something of it is missing
abbrev pub AppendsPrefix : Option (List ℕ) → Option (List ℕ) → List ℕ → Type 0
AppendsPrefix old new text = (prefix : List ℕ) × (missing : List ℕ) × (text ≡ prefix ++ missing) × (0 < length missing) × Appends old new prefix
