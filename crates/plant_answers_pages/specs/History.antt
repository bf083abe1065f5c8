-- What is answered of the history of an id: those commands that had references which name it.
use Rattle.std.specs.Prelude.{ℕ, ◌-◌, Bool, List, length, filter, filter_map, map, option_map, slice_get}
use Rattle.std.specs.List.{list_any}
use Rattle.std.specs.Str.Lines.{lines}
use Rattle.plant_base.specs.{is_text, only, same, Receipt}
use Rattle.plant_questions.specs.{HistoryPage, NamedCommand, Page}
use Rattle.plant_answers_pages.specs.CommandHeads.{behind, booked_command}

-- what a content has behind its moment, operator, note and word
abbrev pub said_in : List ℕ → List ℕ
said_in content = behind (behind (behind (behind content)))

-- one of its fields, each a line, is the id
abbrev pub names : List ℕ → List ℕ → Bool
names id content = list_any (same id) (lines (said_in content))

-- its fields, as texts
abbrev pub texts_in : List ℕ → List (List ℕ)
texts_in content = filter_map (only is_text) (lines (said_in content))

-- a command with its fields
abbrev pub named_command : Receipt → NamedCommand
named_command r = record { command = booked_command r; fields = texts_in r.content }

-- those of a page of commands that name the id, and where the next page begins
abbrev pub history_page : List ℕ → Page Receipt → HistoryPage
history_page id page = record { commands = map named_command (filter (λ r. names id r.content) page.rows); last = option_map (λ r. r.seq) (slice_get page.rows (length page.rows - 1)); has_more = page.has_more }
