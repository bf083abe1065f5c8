-- What holds of every error.
use Rattle.std.proofs.Common.{Result, Ok, Err, IfErr}

pub if_error : {T E : Type 0} (r : Result T E) (P : E → Type 0) → ((e : E) → P e) → IfErr r P
if_error (Ok x) P all = tt
if_error (Err e) P all = all e
