-- What calls that read a store promise, each of the store before and after it and of its result.
use Rattle.std.specs.Prelude.{◌≡◌, false, Result, Option, OnOk, IfOk, IfSome}
use Rattle.sqlite.specs.State.{State, HasCleanDisk, IsUnchanged}
use Rattle.sql_tables.specs.{Keeps}

-- where it answered, nothing was changed
abbrev pub AnswersUnchanged : {A E : Type 0} → State → State → Result A E → Type 0
AnswersUnchanged old new r = HasCleanDisk new → OnOk r (IsUnchanged old new)

-- where it found something, nothing was changed
abbrev pub FindsUnchanged : {A E : Type 0} → State → State → Result (Option A) E → Type 0
FindsUnchanged old new r = HasCleanDisk new → IfOk r (λ found. IfSome found (λ _. IsUnchanged old new))

-- whatever came of it, the store shows what it showed
abbrev pub KeepsVisible : State → State → Type 0
KeepsVisible old new = HasCleanDisk new → Keeps old new

-- no transaction is open after it, where none was before
abbrev pub BeginsNone : State → State → Type 0
BeginsNone old new = old.in_transaction ≡ false → new.in_transaction ≡ false
