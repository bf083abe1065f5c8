-- How far a reader of records is in its text.
use Rattle.std.specs.Prelude.{ℕ, Bool, true, false, List, [], Option, Some, None, ◌≡◌}
use Rattle.csv.specs.Machine.{next_record, Read}
use Rattle.csv.specs.Reading.{default_config, source_of, reader_config, reader_trim, reader_state, is_flexible, Ready}
use Rattle.csv.specs.declared.parser.State.{State}
use Rattle.csv.specs.declared.reader.Reader.{Reader}
use Rattle.csv.specs.declared.reader.Trim.TheVariants as trim
use Rattle.std.specs.Borrow.{Bor}

-- the reader has this text before it, in this state, and takes records of all lengths
pub record ReaderIsAt (rdr : Reader (Bor (List ℕ))) (s : State) (text : List ℕ) : Type 0 where
  pub trim : reader_trim rdr ≡ trim.None
  pub ready : Ready rdr
  pub config : reader_config rdr ≡ default_config
  pub source : source_of (λ x. Some x.now) rdr ≡ Some text
  pub state : reader_state rdr ≡ s
  pub flexible : is_flexible rdr ≡ true

-- a read gave the next record of the text, and the reader is past it
abbrev pub GaveNext : Option Read → Bool → Reader (Bor (List ℕ)) → List (List ℕ) → Type 0
GaveNext None found rdr fields = found ≡ false
GaveNext (Some p) found rdr fields = (found ≡ true) × (fields ≡ p.0) × ReaderIsAt rdr p.1 p.2

abbrev pub NextOf : State → List ℕ → Bool → Reader (Bor (List ℕ)) → List (List ℕ) → Type 0
NextOf s text found rdr fields = GaveNext (next_record default_config s [] [] text) found rdr fields
