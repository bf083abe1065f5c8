-- What is answered of commands: what the content of each begins with, lines of its moment, its operator, its note and its word.
use Rattle.std.specs.Prelude.{ℕ, Bool, false, if◌then◌else◌, List, ◌∷◌, Option, Some, None, ◌==◌, map, option_and_then}
use Rattle.std.specs.List.{before_first, after_first}
use Rattle.plant_base.specs.{digits_of, is_moment, is_text, only, Receipt}
use Rattle.plant_questions.specs.{BookedCommand, CommandHead, Page}
use Rattle.plant_answers_pages.specs.CommandWords.{has_command}

abbrev pub is_lf : ℕ → Bool
is_lf byte = byte == 10

-- the first line
abbrev pub line_in : List ℕ → List ℕ
line_in text = before_first is_lf text

-- what comes after it
abbrev pub behind : List ℕ → List ℕ
behind text = after_first is_lf text

-- more than one digit, the first a zero
abbrev pub is_padded : List ℕ → Bool
is_padded (first ∷ _ ∷ _) = first == 48
is_padded _ = false

-- a moment as a content has it: a number of at most 12 digits, without a zero before others
abbrev pub moment_in : List ℕ → Option ℕ
moment_in text = if is_padded text then None else option_and_then (only is_moment) (digits_of 12 text)

-- the word of a command
abbrev pub word_in : List ℕ → Option (List ℕ)
word_in text = if has_command text then only is_text text else None

abbrev pub head_with : Option ℕ → Option (List ℕ) → Option (List ℕ) → Option (List ℕ) → Option CommandHead
head_with (Some at) (Some by) (Some note) (Some word) = Some (record { at = at; by = by; note = note; word = word })
head_with _ _ _ _ = None

abbrev pub head_of : List ℕ → Option CommandHead
head_of content =
    head_with (moment_in (line_in content)) (only is_text (line_in (behind content))) (only is_text (line_in (behind (behind content))))
    (word_in (line_in (behind (behind (behind content)))))

abbrev pub booked_command : Receipt → BookedCommand
booked_command r = record { seq = r.seq; reference = r.reference; head = head_of r.content }

abbrev pub command_page : Page Receipt → Page BookedCommand
command_page page = record { rows = map booked_command page.rows; has_more = page.has_more }
