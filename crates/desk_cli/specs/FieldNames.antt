-- Texts that the arguments give to `serve`: the name of a field of a request's head, the name of the desk and the page's language.
use Rattle.std.specs.Prelude.{ℕ, Bool, ◌&&◌, ◌||◌, ◌==◌, nat_le, List, length, codes, bytes_eq}
use Rattle.std.specs.List.{list_all}
use Rattle.plant_base.specs.{is_text}
use Rattle.desk_cli.specs.Hosts.{is_letter_or_digit}

-- a letter, in lower or upper case, a digit or a hyphen
abbrev pub is_field_byte : ℕ → Bool
is_field_byte b = is_letter_or_digit b || ((nat_le 65 b && nat_le b 90) || (b == 45))

-- a text of one of these or more
abbrev pub is_field_name : List ℕ → Bool
is_field_name text = is_text text && (nat_le 1 (length text) && list_all is_field_byte text)

-- a text of one character or more
abbrev pub is_shown_name : List ℕ → Bool
is_shown_name text = is_text text && nat_le 1 (length text)

-- English or German
abbrev pub is_language : List ℕ → Bool
is_language text = is_text text && (bytes_eq text (codes "en") || bytes_eq text (codes "de"))
