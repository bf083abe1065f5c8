-- How the program ends.
use Rattle.std.specs.Prelude.{ℕ, List, ◌++◌, codes, decimal, Result, Ok, Err}
use Rattle.genealogy_svg.specs.{graph_error_text}
use Rattle.genealogy_picture.specs.declared.ending.InputError.{InputError}
use Rattle.genealogy_picture.specs.declared.ending.InputError.TheVariants as refusal
use Rattle.genealogy_picture.specs.declared.ending.DrawError.{DrawError}
use Rattle.genealogy_picture.specs.declared.ending.DrawError.TheVariants as stop
use Rattle.genealogy_picture.specs.Answers.{line_error_text}

-- why an input makes no picture
abbrev pub refusal_text : InputError → List ℕ
refusal_text (refusal.Line number line_error) = codes "line " ++ (decimal number ++ (codes ": " ++ line_error_text line_error))
refusal_text (refusal.Graph p) = graph_error_text p
refusal_text refusal.Circle = codes "the edges lead in a circle"
refusal_text refusal.Absent = codes "the lot or batch that was asked for isn't there"

-- what is written to standard error, without its LF
abbrev pub draw_error_text : DrawError → List ℕ
draw_error_text (stop.Refused r) = refusal_text r
draw_error_text stop.Open = codes "fault: open"
draw_error_text stop.Read = codes "fault: read"
draw_error_text stop.Write = codes "fault: write"
draw_error_text stop.Memory = codes "fault: memory"

-- the exit status
abbrev pub status_of : Result Unit DrawError → ℕ
status_of (Ok u) = 0
status_of (Err (stop.Refused r)) = 1
status_of (Err stop.Open) = 3
status_of (Err stop.Read) = 3
status_of (Err stop.Write) = 3
status_of (Err stop.Memory) = 4
