-- What all that a reader gives is drawn as.
use Rattle.std.proofs.Common.{◌≡◌, ◌∙◌, ℕ, List, [], ◌++◌, Option, Some, None, Result, Ok, Err, OnOk, IfSome, refl, ap, subst}
use Rattle.std.specs.declared.io.Error.{Error}
use Rattle.std.specs.declared.io.ErrorKind.{ErrorKind}
use Rattle.std.specs.declared.io.ErrorKind.TheVariants as io
use Rattle.std.specs.IoError.{error_kind}
use Rattle.plant_base.specs.{Agrees}
use Rattle.genealogy_picture.specs.{IsRefused, draw_error_of_kind, read_count}
use Rattle.genealogy_picture.specs.declared.ending.DrawError.{DrawError}
use Rattle.genealogy_picture.specs.declared.words.Format.{Format}
use Rattle.plant_trace.specs.{Node}

-- what was read into an empty room
pub read_into_nothing : (known : Option (List ℕ)) (old new prefix : List ℕ) → old ≡ [] → prefix ≡ new → IfSome known (λ text. new ≡ old ++ text) → IfSome known (λ text. prefix ≡ text)
read_into_nothing None old new prefix empty is says = tt
read_into_nothing (Some text) old new prefix empty is says = is ∙ says ∙ ap (λ room. room ++ text) empty

-- a reading that isn't reported as failed didn't fail
pub was_read : (r : Result ℕ Error) (n : ℕ) (P : Type 0) → read_count r ≡ Ok n → OnOk r P → P
was_read (Ok m) n P reported is = is
was_read (Err e) n P reported is = cc reported

-- what holds of what was read holds of the input
pub holds_of_input : (P : List ℕ → Type 0) (known : Option (List ℕ)) (read : List ℕ) → P read → IfSome known (λ text. read ≡ text)
    → (bytes : List ℕ) × Agrees known bytes × P bytes
holds_of_input P None read holds is = (read, tt, holds)
holds_of_input P (Some text) read holds is = (read, is, holds)

-- a failed read and want of memory may be reported of any bytes
of_kind : (format : Format) (asked : Option Node) (bytes : List ℕ) (kind : ErrorKind) → IsRefused format asked bytes (draw_error_of_kind kind)
of_kind format asked bytes io.OutOfMemory = tt
of_kind format asked bytes _ = tt

unread : (format : Format) (asked : Option Node) (r : Result ℕ Error) (e : DrawError) → read_count r ≡ Err e → (bytes : List ℕ) → IsRefused format asked bytes e
unread format asked (Ok n) e is bytes = absurd (cc)
unread format asked (Err error) e is bytes =
    let same : draw_error_of_kind (error_kind error) ≡ e = cc in subst (λ f. IsRefused format asked bytes f) same (of_kind format asked bytes (error_kind error))

-- so also of an input that wasn't read to its end
pub of_unread : (format : Format) (asked : Option Node) (known : Option (List ℕ)) (r : Result ℕ Error) (e : DrawError) → read_count r ≡ Err e
    → (bytes : List ℕ) × Agrees known bytes × IsRefused format asked bytes e
of_unread format asked None r e is = ([], tt, unread format asked r e is [])
of_unread format asked (Some text) r e is = (text, refl, unread format asked r e is text)
