-- The JSON trees of the ids that begin with another.
use Rattle.std.specs.Prelude.{ℕ, List, map, codes}
use Rattle.serde_json.specs.Data.{Data, string, array, object, member, no_members}
use Rattle.serde_json.specs.View.{items_of}
use Rattle.plant_questions.specs.{FoundIds}

abbrev pub ids_data : List (List ℕ) → Data
ids_data ids = array (items_of (map string ids))

abbrev pub found_data : FoundIds → Data
found_data f = object (member (codes "batches") (ids_data f.batches) (member (codes "classes") (ids_data f.classes)
    (member (codes "definitions") (ids_data f.definitions) (member (codes "lots") (ids_data f.lots) (member (codes "orders") (ids_data f.orders)
    (member (codes "recalls") (ids_data f.recalls) (member (codes "recipes") (ids_data f.recipes) no_members)))))))
