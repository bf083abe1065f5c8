-- What is written to a terminal while a file is opened.
use Rattle.std.specs.Prelude.{ℕ, ◌^◌, List, codes, Bool, nat_le}
use Rattle.desk_file.specs.declared.timing.Stage.{Stage}
use Rattle.desk_file.specs.declared.timing.Stage.TheVariants.{Pages, Tables}

abbrev pub stage_text : Stage → List ℕ
stage_text Pages = codes "opening the file: its pages are tested"
stage_text Tables = codes "opened the file: its tables are read and tested"

-- 256 MB or more
abbrev pub is_large : ℕ → Bool
is_large size = nat_le (2 ^ 28) size

-- a second or more
abbrev pub is_long : ℕ → Bool
is_long seconds = nat_le 1 seconds
