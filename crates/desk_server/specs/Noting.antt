-- How a request is noted.
use Rattle.std.specs.Prelude.{ℕ, ◌&&◌, ◌==◌, not, nat_le, List, ◌++◌, Bool, codes, decimal, Option, Some, None}

-- a visible character of ASCII or a space, and no quotation mark
abbrev pub is_printable : ℕ → Bool
is_printable b = (nat_le 32 b && nat_le b 126) && not (b == 34)

-- 0 where nothing was answered
abbrev pub logged_status : Option ℕ → ℕ
logged_status None = 0
logged_status (Some status) = status

-- when it came, its first line, the status of its answer and how many microseconds it took
abbrev pub noted_text : ℕ → List ℕ → Option ℕ → ℕ → List ℕ
noted_text moment line status microseconds =
    decimal moment ++ (codes " \"" ++ (line ++ (codes "\" " ++ (decimal (logged_status status) ++ (codes " " ++ decimal microseconds)))))
