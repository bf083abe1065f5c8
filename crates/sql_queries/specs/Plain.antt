-- A text that reads and doesn't write.
use Rattle.std.specs.Prelude.{◌≡◌, List, ℕ, [], None, IfOk}
use Rattle.sqlite.specs.Schema.{Schema}
use Rattle.sqlite.specs.Listing.{understood}
use Rattle.sqlite_resolve.specs.declared.compiled.Compiled.{Compiled}

-- where the text is understood at all, it has no RETURNING and doesn't read the time
abbrev pub OnlyReads : Schema → List ℕ → Type 0
OnlyReads schema text = IfOk (understood schema text) (λ (c : Compiled). (c.returning ≡ None) × (c.formats ≡ []))
