-- The message where the arguments of the command line can't be read.
use Rattle.std.specs.Prelude.{◌≡◌, ◌⊎◌, ℕ, codes, string_bytes, ⊤}
use Rattle.std.specs.declared.io.ErrorKind.{ErrorKind}
use Rattle.std.specs.declared.io.ErrorKind.TheVariants as kind
use Rattle.desk_cli.specs.declared.meaning.WordsFault.{WordsFault}
use Rattle.desk_cli.specs.declared.meaning.WordsFault.TheVariants as fault

-- an error for want of memory is reported as that, and every other as the mistake that an argument isn't UTF-8
abbrev pub fault_of_kind : ErrorKind → WordsFault → WordsFault
fault_of_kind kind.OutOfMemory not_utf8 = fault.Memory
fault_of_kind _ not_utf8 = not_utf8

-- the mistake that an argument isn't UTF-8 by its text, or want of memory for that
abbrev pub IsNotUtf8 : WordsFault → Type 0
IsNotUtf8 (fault.Usage text) = string_bytes text ≡ codes "error: a word is not UTF-8\n"
IsNotUtf8 (fault.Help text) = ⊥
IsNotUtf8 fault.Memory = ⊤

-- the exit status of arguments that give nothing to do
abbrev pub IsStatusOf : WordsFault → ℕ → Type 0
IsStatusOf (fault.Usage text) status = status ≡ 2
IsStatusOf (fault.Help text) status = (status ≡ 0) ⊎ (status ≡ 3)
IsStatusOf fault.Memory status = status ≡ 4
