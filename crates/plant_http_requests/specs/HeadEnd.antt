-- Where the head of a request ends.
use Rattle.std.specs.Prelude.{ℕ, ◌+◌, ◌≤◌, ◌&&◌, ◌==◌, List, [], ◌∷◌, length, slice_index, take, nat_le, Option, Some, None, option_map, if◌then◌else◌, ⊤, ◌≡◌}
use Rattle.plant_http_requests.specs.declared.reading.HeadEnd.{HeadEnd}
use Rattle.plant_http_requests.specs.declared.reading.HeadEnd.TheVariants.{Found, TooLong, Early, Nothing}

-- the first of them that is there
abbrev pub or_else : Option ℕ → Option ℕ → Option ℕ
or_else (Some n) other = Some n
or_else None other = other

-- the LF that ends a line and the empty line after it: LF LF, or LF CR LF
abbrev pub blank_length : List ℕ → Option ℕ
blank_length bytes =
    if (slice_index bytes 0 == 10) && (slice_index bytes 1 == 10) then Some 2
    else if (slice_index bytes 0 == 10) && (slice_index bytes 1 == 13) && (slice_index bytes 2 == 10) then Some 3
    else None

-- the length of the shortest prefix that ends so
unfoldable pub head_length : List ℕ → Option ℕ
head_length [] = None
head_length (b ∷ bytes) = or_else (blank_length (b ∷ bytes)) (option_map (λ n. n + 1) (head_length bytes))

-- the most bytes of a head
abbrev pub longest_head : ℕ
longest_head = 8192

-- where the head of an input ends: in its first 8,192 bytes, or what is wrong with it
abbrev pub end_where : Option ℕ → List ℕ → HeadEnd
end_where (Some n) whole = Found n
end_where None whole = if nat_le longest_head (length whole) then TooLong else if length whole == 0 then Nothing else Early

unfoldable pub end_of_head : List ℕ → HeadEnd
end_of_head whole = end_where (head_length (take longest_head whole)) whole

-- the head lies within the bytes that were read, which are no more than the longest head
abbrev pub LiesWithin : HeadEnd → List ℕ → Type 0
LiesWithin (Found n) bytes = (n ≤ length bytes) × (length bytes ≤ longest_head)
LiesWithin TooLong bytes = ⊤
LiesWithin Early bytes = ⊤
LiesWithin Nothing bytes = bytes ≡ []
