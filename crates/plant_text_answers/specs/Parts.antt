-- The JSON trees that several answers have.
use Rattle.std.specs.Prelude.{ℕ, List, map, codes, Option, Some, None}
use Rattle.serde_json.specs.Data.{Data, Items, null, string, object, member, no_members}
use Rattle.serde_json.specs.View.{items_of}
use Rattle.plant_base.specs.{Sublot}
use Rattle.plant_text_answers.specs.Natural.{natural}

abbrev pub sublot_data : Sublot → Data
sublot_data s = object (member (codes "no") (natural s.number) (member (codes "place") (string s.place)
    (member (codes "stock") (natural s.stock) no_members)))

abbrev pub sublots_data : List Sublot → Items
sublots_data sublots = items_of (map sublot_data sublots)

-- the id, or null where there is none
abbrev pub id_or_null : Option (List ℕ) → Data
id_or_null None = null
id_or_null (Some id) = string id

-- the unit, or null where there is none
abbrev pub unit_or_null : Option (List ℕ) → Data
unit_or_null None = null
unit_or_null (Some unit) = string unit

-- the text, or null where there is none
abbrev pub text_or_null : Option (List ℕ) → Data
text_or_null None = null
text_or_null (Some text) = string text

-- the number, or null where there is none
abbrev pub number_or_null : Option ℕ → Data
number_or_null None = null
number_or_null (Some n) = natural n
