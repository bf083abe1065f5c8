-- The fields of a request, and what they say of its body.
use Rattle.std.specs.Prelude.{ℕ, ◌+◌, Bool, ◌==◌, nat_le, List, [], ◌∷◌, map, codes, bytes_eq, Option, Some, None, option_map, option_and_then, if◌then◌else◌}
use Rattle.std.specs.Char.{to_ascii_lowercase}
use Rattle.plant_base.specs.{◌>>=◌, digits_of, greatest_seq, is_id, is_moment, is_text, only, Stamp}
use Rattle.plant_orders.specs.{ImportMetadata}

-- names and values, in their order
abbrev pub Fields : Type 0
Fields = List (List ℕ × List ℕ)

-- the same name, without regard to ASCII case
abbrev pub is_name : List ℕ → List ℕ → Bool
is_name name field = bytes_eq (map to_ascii_lowercase field) (map to_ascii_lowercase name)

abbrev pub count_named : List ℕ → Fields → ℕ
count_named name [] = 0
count_named name (f ∷ fs) = if is_name name f.0 then count_named name fs + 1 else count_named name fs

-- the value of the first field of that name
abbrev pub value_named : List ℕ → Fields → Option (List ℕ)
value_named name [] = None
value_named name (f ∷ fs) = if is_name name f.0 then Some f.1 else value_named name fs

-- ---- the number of accepted commands at which a body is to be done

abbrev pub is_seq : ℕ → Bool
is_seq n = nat_le n greatest_seq

abbrev pub seq_in : List ℕ → Option ℕ
seq_in text = option_and_then (only is_seq) (digits_of 16 text)

-- the number that the first field Desk-Seq says
abbrev pub seq_named : Fields → Option ℕ
seq_named fs = option_and_then seq_in (value_named (codes "desk-seq") fs)

-- at most one field Desk-Seq, in 1 to 16 digits; no condition where there is none
unfoldable pub condition_in : Fields → Option (Option ℕ)
condition_in fs =
    if count_named (codes "desk-seq") fs == 0 then Some None
    else if count_named (codes "desk-seq") fs == 1 then option_map Some (seq_named fs)
    else None

-- ---- the reference of a command, and the moment and the operator of an order file

abbrev pub moment_in : List ℕ → Option ℕ
moment_in text = option_and_then (only is_moment) (digits_of 12 text)

-- exactly one field Desk-At, in 1 to 12 digits
abbrev pub only_moment : Fields → Option ℕ
only_moment fs =
    if count_named (codes "desk-at") fs == 1 then option_and_then moment_in (value_named (codes "desk-at") fs) else None

-- at most one field Desk-By; the empty text where there is none
unfoldable pub operator_in : Fields → Option (List ℕ)
operator_in fs =
    if count_named (codes "desk-by") fs == 0 then Some []
    else if count_named (codes "desk-by") fs == 1 then option_and_then (only is_text) (value_named (codes "desk-by") fs)
    else None

abbrev pub stamp_in : Fields → Option Stamp
stamp_in fs = do
  at ← only_moment fs
  by ← operator_in fs
  Some (record { at = at; by = by; note = [] })

-- the reference that the first field Desk-Ref says
abbrev pub reference_named : Fields → Option (List ℕ)
reference_named fs = option_and_then (only is_id) (value_named (codes "desk-ref") fs)

-- at most one field Desk-Ref; no reference where there is none
unfoldable pub reference_in : Fields → Option (Option (List ℕ))
reference_in fs =
    if count_named (codes "desk-ref") fs == 0 then Some None
    else if count_named (codes "desk-ref") fs == 1 then option_map Some (reference_named fs)
    else None

abbrev pub import_metadata_in : Fields → Option ImportMetadata
import_metadata_in fs = do
  stamp ← stamp_in fs
  reference ← reference_in fs
  Some (record { stamp = stamp; reference = reference })
