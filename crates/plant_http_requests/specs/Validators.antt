-- Whether a client has a resource as it is.
use Rattle.std.specs.Prelude.{ℕ, Bool, false, ◌&&◌, ◌||◌, ◌==◌, List, [], ◌∷◌, codes, bytes_eq}
use Rattle.std.specs.List.{starts_with}
use Rattle.plant_http_requests.specs.Fields.{Fields, is_name}

-- the text has this part somewhere
abbrev pub has_part : List ℕ → List ℕ → Bool
has_part part [] = starts_with ◌==◌ [] part
has_part part (b ∷ text) = starts_with ◌==◌ (b ∷ text) part || has_part part text

-- The value names the tag, or any. A tag is in quotation marks and has none within: so a list of tags, weak or not, has its text where it names it,
-- and nowhere else.
abbrev pub names_tag : List ℕ → List ℕ → Bool
names_tag tag value = bytes_eq value (codes "*") || has_part tag value

-- a field If-None-Match names the tag
abbrev pub is_current : List ℕ → Fields → Bool
is_current tag [] = false
is_current tag (f ∷ fs) = (is_name (codes "if-none-match") f.0 && names_tag tag f.1) || is_current tag fs
