-- The step of each command makes something of values of its types, so the problem that is reported says what is wrong.
use Rattle.std.proofs.Common.{◌≡◌, ℕ, ◌+◌, List, [], ◌∷◌, Bool, true, false, cond, Option, Some, None, Result, Ok, Err, option_and_then, codes, refl, subst, is_some, bytes_eq}
use Rattle.std.specs.Prelude.{⊤}
use Rattle.serde_json.specs.Data.{Data, Items, no_items, item}
use Rattle.serde_json.specs.Find.{get, as_str, as_array, as_object}
use Rattle.plant_base.specs.{Command, Envelope}
use Rattle.plant_json_in.specs.{CommandKind, ReadFault, Field, FormatError, Member, RowKind, ShapeError, name_of, line_kind, shared_members, own_of, row_own, ◌>>=◌, Reports, object, or_malformed, is_reported, format_error_is_reported, IsReported, fields_of, none_other, exactly, may_in, Values, fields_in}
use Rattle.plant_json_in.specs.declared.members.Member.TheVariants as m
use Rattle.plant_json_in.specs.declared.members.MemberRule.TheVariants as rule
use Rattle.plant_json_in.specs.declared.command_tables.CommandKind.TheVariants as c
use Rattle.plant_json_in.specs.declared.words.RowKind.TheVariants as row
use Rattle.plant_json_in.specs.declared.fields.Field.TheVariants as field
use Rattle.plant_json_in.specs.declared.format_errors.ShapeError.TheVariants as shape_error
use Rattle.plant_json_in.specs.declared.format_errors.ReadFault.TheVariants as fault
use Rattle.plant_json_in.proofs.FieldsAreTyped.{Good, OnSome, valid_bind, valid_map, good_object, fields_typed, none_other-valid, exactly_typed, later_fails, only_fails, do_fails, kind_fails}
use Rattle.plant_json_in.specs.{part_of, order_of, line_of, line_row, item_by, item_of, numbered, items_from, items_where, items_at, body_of, envelope_with, kind_at, command_by, command_of}

-- ---- rows

abbrev RowTotal : {T : Type 0} → (RowKind → List Field → Option T) → RowKind → Type 0
RowTotal make r = (v : Values (row_own r)) → Good is_reported (λ x. ⊤) (or_malformed (make r (fields_in (row_own r) v)))

cond_some : {A : Type 0} (P : A → Type 0) (b : Bool) (x : A) (o : Option A) → P x → OnSome P o → OnSome P (cond b (Some x) o)
cond_some P true x o h g = h
cond_some P false x o h g = g

kinds_total : (word : List ℕ) → OnSome (RowTotal line_of) (line_kind word)
kinds_total word =
    cond_some (RowTotal line_of) (bytes_eq word (codes "in")) row.In _ (λ v. tt) (
    cond_some (RowTotal line_of) (bytes_eq word (codes "out")) row.Out _ (λ v. tt) (
    cond_some (RowTotal line_of) (bytes_eq word (codes "par")) row.Parameter _ (λ v. tt) (
    cond_some (RowTotal line_of) (bytes_eq word (codes "phase")) row.Phase None (λ v. tt) tt)))

kind_total : (s : Option (List ℕ)) → OnSome (RowTotal line_of) (option_and_then line_kind s)
kind_total None = tt
kind_total (Some word) = kinds_total word

row_valid : {T : Type 0} (make : RowKind → List Field → Option T) (r : RowKind) (d : Data) → RowTotal make r → Good is_reported (λ x. ⊤) (item_by make (Some r) d)
row_valid make r d total = valid_bind is_reported _ (exactly (row_own r) d) _ (exactly_typed (row_own r) d _ total)

line_by : (d : Data) (o : Option RowKind) → line_row d ≡ o → OnSome (RowTotal line_of) o → Good is_reported (λ x. ⊤) (item_by line_of o d)
line_by d None e h = valid_bind is_reported _ (fields_of (m.Kind ∷ []) d) _ (valid_map is_reported (λ fs. ⊥) _ (fields_of (m.Kind ∷ []) d) (λ fs z. absurd z) (only_fails m.Kind d (kind_fails (get (codes "kind") d) e)))
line_by d (Some r) e h = row_valid line_of r d h

in_object : {A : Type 0} (b : Bool) (r : Result A ShapeError) → Good is_reported (λ x. ⊤) r → Good is_reported (λ x. ⊤) (cond b r (Err shape_error.NoObject))
in_object true r h = h
in_object false r h = refl

abbrev ItemValid : {T : Type 0} → (RowKind → List Field → Option T) → (Data → Option RowKind) → Type 0
ItemValid make row = (d : Data) → Good is_reported (λ x. ⊤) (item_of make row d)

parts_valid : ItemValid part_of (λ d. Some row.Part)
parts_valid d = in_object (is_some (as_object d)) _ (row_valid part_of row.Part d (λ v. tt))

orders_valid : ItemValid order_of (λ d. Some row.Order)
orders_valid d = in_object (is_some (as_object d)) _ (row_valid order_of row.Order d (λ v. tt))

lines_valid : ItemValid line_of line_row
lines_valid d = in_object (is_some (as_object d)) _ (line_by d (line_row d) refl (kind_total (option_and_then as_str (get (codes "kind") d))))

-- ---- lists

numbered_valid : {T : Type 0} (list : Member) (n : ℕ) (r : Result T ShapeError) (P : T → Type 0) → ((x : T) → P x) → Good is_reported (λ x. ⊤) r → Good format_error_is_reported P (numbered list n r)
numbered_valid list n (Ok x) P k h = k x
numbered_valid list n (Err f) P k h = h

items_valid : {T : Type 0} (make : RowKind → List Field → Option T) (row : Data → Option RowKind) (list : Member) (n : ℕ) (ds : Items) → ItemValid make row → Good format_error_is_reported (λ xs. ⊤) (items_from make row list n ds)
items_valid make row list n no_items h = tt
items_valid make row list n (item d ds) h =
    valid_bind format_error_is_reported _ (numbered list n (item_of make row d)) _ (numbered_valid list n (item_of make row d) _
    (λ x. valid_bind format_error_is_reported _ (items_from make row list (n + 1) ds) _ (valid_map format_error_is_reported (λ xs. ⊤) _ (items_from make row list (n + 1) ds) (λ xs z. tt) (items_valid make row list (n + 1) ds h))) (h d))

items_by : {T : Type 0} (make : RowKind → List Field → Option T) (row : Data → Option RowKind) (list : Member) (o : Option Items) → ItemValid make row → Good format_error_is_reported (λ xs. ⊤) (items_where make row list o)
items_by make row list None h = refl
items_by make row list (Some ds) h = items_valid make row list 1 ds h

with_items : {T B : Type 0} (make : RowKind → List Field → Option T) (row : Data → Option RowKind) (list : Member) (d : Data) (g : List T → B) → ItemValid make row → Good format_error_is_reported (λ x. ⊤) (items_at make row list d >>= (λ xs. Ok (g xs)))
with_items make row list d g h =
    valid_bind format_error_is_reported _ (items_at make row list d) _ (valid_map format_error_is_reported (λ xs. ⊤) _ (items_at make row list d) (λ xs z. tt) (items_by make row list (option_and_then as_array (get (name_of list) d)) h))

-- ---- commands

-- whatever its values say, a command is made of them, with its list
body_total : (kind : CommandKind) (v : Values (own_of kind)) (d : Data) → Good format_error_is_reported (λ x. ⊤) (body_of kind (fields_in (own_of kind) v) d)
body_total c.Merge v d = with_items part_of (λ d. Some row.Part) m.Parts d _ parts_valid
body_total c.AddRecipe v d = with_items line_of line_row m.Lines d _ lines_valid
body_total c.ImportOrders v d = with_items order_of (λ d. Some row.Order) m.Orders d _ orders_valid
body_total _ v d = tt

envelope_total : (at : ℕ) (by : List ℕ) (note reference : Option (List ℕ)) (body : Command)
    → Good is_reported (λ x. ⊤) (or_malformed (envelope_with (field.Moment at ∷ field.Text by ∷ may_in false rule.Text note ∷ may_in false rule.Id reference ∷ field.Chosen ∷ []) body))
envelope_total at by None None body = tt
envelope_total at by None (Some r) body = tt
envelope_total at by (Some n) None body = tt
envelope_total at by (Some n) (Some r) body = tt

command_with : (d : Data) (kind : CommandKind) (v : Values shared_members) → Good format_error_is_reported (λ x. ⊤) (command_by (Some kind) (fields_in shared_members v) d)
command_with d kind v =
    valid_bind format_error_is_reported _ (object (fields_of (own_of kind) d)) _ (good_object _ (fields_of (own_of kind) d) (fields_typed (own_of kind) d _ (λ w.
    valid_bind format_error_is_reported _ (body_of kind (fields_in (own_of kind) w) d) _ (valid_map format_error_is_reported (λ x. ⊤) _ (body_of kind (fields_in (own_of kind) w) d) (λ body z.
    valid_bind format_error_is_reported _ (object (none_other shared_members (own_of kind) d)) _ (good_object _ (none_other shared_members (own_of kind) d) (valid_map is_reported (λ u. ⊤) _ (none_other shared_members (own_of kind) d) (λ u y.
    good_object _ (or_malformed (envelope_with (fields_in shared_members v) body)) (envelope_total v.0 v.1.0 v.1.1.0 v.1.1.1.0 body)) (none_other-valid shared_members (own_of kind) d)))) (body_total kind w d)))))

-- without a word of a command, the members that each command has can't be read
shared_fails : (d : Data) → kind_at d ≡ None → Good is_reported (λ fs. ⊥) (fields_of shared_members d)
shared_fails d e =
    later_fails m.At (m.By ∷ m.Note ∷ m.Reference ∷ m.Do ∷ []) d (later_fails m.By (m.Note ∷ m.Reference ∷ m.Do ∷ []) d (later_fails m.Note (m.Reference ∷ m.Do ∷ []) d (
    later_fails m.Reference (m.Do ∷ []) d (only_fails m.Do d (do_fails (get (codes "do") d) e)))))

command_where : (d : Data) (o : Option CommandKind) → kind_at d ≡ o → Good format_error_is_reported (λ x. ⊤) (object (fields_of shared_members d) >>= (λ shared. command_by o shared d))
command_where d None e = valid_bind format_error_is_reported _ (object (fields_of shared_members d)) _ (good_object _ (fields_of shared_members d) (valid_map is_reported (λ fs. ⊥) _ (fields_of shared_members d) (λ fs z. absurd z) (shared_fails d e)))
command_where d (Some kind) e = valid_bind format_error_is_reported _ (object (fields_of shared_members d)) _ (good_object _ (fields_of shared_members d) (fields_typed shared_members d _ (λ v. command_with d kind v)))

-- where an object is no command, its problem says what is wrong
pub command_valid : (d : Data) → Good format_error_is_reported (λ x. ⊤) (command_of d)
command_valid d = command_where d (kind_at d) refl

reported_from : (r : Result Envelope ReadFault) (s : Result Envelope FormatError) → Reports r s → Good format_error_is_reported (λ x. ⊤) s → IsReported r
reported_from (Ok x) s e h = tt
reported_from (Err (fault.Reported p)) s e h = subst (λ (s : Result Envelope FormatError). Good format_error_is_reported (λ x. ⊤) s) e h
reported_from (Err fault.Memory) s e h = tt

-- the same of what was read
pub command_reported : (d : Data) (r : Result Envelope ReadFault) → Reports r (command_of d) → IsReported r
command_reported d r e = reported_from r (command_of d) e (command_valid d)
