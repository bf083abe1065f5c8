-- What asks to check no command says what is wrong with it, and so does an object that asks for no check.
use Rattle.std.proofs.Common.{◌≡◌, true, Option, Some, None, Result, Ok, Err, refl, subst, IfOk}
use Rattle.std.specs.Prelude.{⊤, Bool, false, if◌then◌else◌, codes, is_some}
use Rattle.serde_json.specs.Data.{Data}
use Rattle.serde_json.specs.Find.{as_object, get}
use Rattle.plant_base.specs.{Envelope}
use Rattle.plant_json_in.specs.declared.members.Member.TheVariants as m
use Rattle.plant_json_in.specs.{ReadFault, FormatError, name_of, check_members, Reports, object, format_error_is_reported, IsReported, exactly}
use Rattle.plant_json_in.specs.declared.format_errors.ReadFault.TheVariants as fault
use Rattle.plant_json_in.proofs.FieldsAreTyped.{Good, valid_bind, good_object, exactly_typed}
use Rattle.plant_json_in.specs.declared.format_errors.FormatError.TheVariants as format_error
use Rattle.plant_json_in.specs.declared.format_errors.ShapeError.TheVariants as shape_error
use Rattle.plant_json_in.specs.{command_among, command_in, command_of, checked_as, checked_in, check_in, check_of, has_reason}
use Rattle.plant_json_in.specs.declared.checks.ToCheck.{ToCheck}
use Rattle.plant_json_in.proofs.StepsAreTyped.{command_valid}

-- what was read has a reason where it is no command, and else its problem says what is wrong
abbrev pub Reasoned : Result ToCheck FormatError → Type 0
Reasoned r = Good format_error_is_reported (λ t. has_reason t ≡ true) r

as_read : (r : Result Envelope FormatError) → Good format_error_is_reported (λ x. ⊤) r → has_reason (checked_as r) ≡ true
as_read (Ok e) h = refl
as_read (Err p) h = h

-- what is wrong with a value in the place of a command says so
abbrev Said : Result Envelope FormatError → Type 0
Said r = Good format_error_is_reported (λ x. ⊤) r

if_there : (b : Bool) (x y : Result Envelope FormatError) → Said x → Said y → Said (if b then x else y)
if_there true x y g h = g
if_there false x y g h = h

among_valid : (d : Data) → Said (command_among d)
among_valid d = if_there (is_some (get (codes "do") d)) (command_of d) _ (command_valid d)
    (if_there (is_some (get (codes "ask") d)) (Err (format_error.Object (shape_error.Missing m.Do))) (Err format_error.Neither) refl refl)

in_valid : (d : Data) → Said (command_in d)
in_valid d = if_there (is_some (as_object d)) (command_among d) (Err (format_error.Object shape_error.NoObject)) (among_valid d) refl

pub value_has_reason : (d : Data) → has_reason (checked_in d) ≡ true
value_has_reason d = as_read (command_in d) (in_valid d)

within : (o : Option Data) → Reasoned (check_in o)
within None = refl
within (Some d) = value_has_reason d

pub check_valid : (d : Data) → Reasoned (check_of d)
check_valid d = valid_bind format_error_is_reported _ (object (exactly check_members d)) _ (good_object _ (exactly check_members d) (exactly_typed check_members d _ (λ v. within (get (name_of m.Command) d))))

reported_from : (r : Result ToCheck ReadFault) (s : Result ToCheck FormatError) → Reports r s → Reasoned s → IsReported r
reported_from (Ok x) s e h = tt
reported_from (Err (fault.Reported p)) s e h = subst Reasoned e h
reported_from (Err fault.Memory) s e h = tt

reason_from : (r : Result ToCheck ReadFault) (s : Result ToCheck FormatError) → Reports r s → Reasoned s → IfOk r (λ t. has_reason t ≡ true)
reason_from (Ok x) s e h = subst Reasoned e h
reason_from (Err (fault.Reported p)) s e h = tt
reason_from (Err fault.Memory) s e h = tt

pub check_reported : (d : Data) (r : Result ToCheck ReadFault) → Reports r (check_of d) → IsReported r
check_reported d r e = reported_from r (check_of d) e (check_valid d)

pub made_has_reason : (t : ToCheck) (r : Result ToCheck ReadFault) → Reports r (Ok t) → has_reason t ≡ true → IfOk r (λ u. has_reason u ≡ true)
made_has_reason t r e h = reason_from r (Ok t) e h

pub check_has_reason : (d : Data) (r : Result ToCheck ReadFault) → Reports r (check_of d) → IfOk r (λ t. has_reason t ≡ true)
check_has_reason d r e = reason_from r (check_of d) e (check_valid d)
