-- The names of hosts that the arguments give.
use Rattle.std.specs.Prelude.{ℕ, ◌&&◌, ◌||◌, ◌==◌, nat_le, Bool, false, List, [], ◌∷◌, length, take, Option, Some, None, option_and_then, slice_get, unwrap_or, if◌then◌else◌}
use Rattle.std.specs.List.{list_all}
use Rattle.plant_base.specs.{is_text, only}
use Rattle.desk_cli.specs.declared.hosts.Hosts.{Hosts}

-- the most names
abbrev pub most_hosts : ℕ
most_hosts = 8

-- a letter, as browsers send names, or a digit
abbrev pub is_letter_or_digit : ℕ → Bool
is_letter_or_digit b = (nat_le 97 b && nat_le b 122) || (nat_le 48 b && nat_le b 57)

-- one of these, a hyphen or a dot
abbrev pub is_host_byte : ℕ → Bool
is_host_byte b = is_letter_or_digit b || ((b == 45) || (b == 46))

abbrev pub begins_host : List ℕ → Bool
begins_host [] = false
begins_host (b ∷ bs) = is_letter_or_digit b

-- a name: a text of these bytes, the first a letter or a digit
abbrev pub is_host_name : List ℕ → Bool
is_host_name text = is_text text && (begins_host text && list_all is_host_byte text)

-- the text of this index, the empty one after the last
abbrev pub text_at : List (List ℕ) → ℕ → List ℕ
text_at texts i = unwrap_or (option_and_then (only is_text) (slice_get texts i)) []

-- so many names, in their order
abbrev pub hosts_of_names : List (List ℕ) → Hosts
hosts_of_names texts = record {
  names = text_at texts 0 ∷ text_at texts 1 ∷ text_at texts 2 ∷ text_at texts 3 ∷ text_at texts 4 ∷ text_at texts 5 ∷ text_at texts 6 ∷ text_at texts 7 ∷ [];
  count = length texts;
}

-- each is a name, and there are not too many
abbrev pub are_hosts : List (List ℕ) → Bool
are_hosts texts = nat_le (length texts) most_hosts && list_all is_host_name texts

-- the names that texts are
abbrev pub hosts_of : List (List ℕ) → Option Hosts
hosts_of texts = if are_hosts texts then Some (hosts_of_names texts) else None

-- the names alone
abbrev pub names_of : Hosts → List (List ℕ)
names_of hosts = take hosts.count hosts.names
