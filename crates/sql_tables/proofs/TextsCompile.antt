-- What a fixed text compiles to, under any schema that has the table.
use Rattle.std.proofs.Common.{◌≡◌, ◌⊎◌, inl, inr, ℕ, ◌==◌, Bool, false, List, [], ◌∷◌, Option, Some, None, Ok, Err, refl, slice_get, length, find, option_map, bytes_eq, add-zero, if◌then◌else◌}
use Rattle.std.proofs.lemmas.Bool.{cases_Bool, and_right}
use Rattle.sqlite.specs.Schema.{Schema}
use Rattle.sqlite.specs.Table.{Table}
use Rattle.sqlite.specs.Source.{Source}
use Rattle.sqlite.specs.Command.{Command}
use Rattle.sqlite.specs.Command.TheVariants.{Insert, InsertOr}
use Rattle.sqlite_schema.specs.declared.command.Conflict.TheVariants.{Abort}
use Rattle.sqlite_schema.specs.declared.command.Upsert as meant
use Rattle.sqlite_schema.specs.declared.program.Program.{Program}
use Rattle.sqlite_schema.specs.Names.{table_named}
use Rattle.sqlite_schema.specs.Program.{lets_of}
use Rattle.sqlite_ast.specs.declared.Rows.{Rows}
use Rattle.sqlite_ast.specs.declared.Conflict.TheVariants as conflict
use Rattle.sqlite_ast.specs.declared.Statement.TheVariants as written
use Rattle.sqlite_ast.specs.declared.Upsert.{Upsert}
use Rattle.sqlite_draft.specs.declared.query.Draft.{Draft}
use Rattle.sqlite_draft.specs.Query.{query_of}
use Rattle.sqlite_typing.specs.Types.{accepts_program}
use Rattle.sqlite_syntax.specs.declared.statement.Parsed.{Parsed}
use Rattle.sqlite_resolve.specs.Lowering.{Checked, and_then}
use Rattle.sqlite_resolve.specs.Program.{program}
use Rattle.sqlite_resolve.specs.declared.error.CompileError.{CompileError}
use Rattle.sqlite_resolve.specs.declared.error.CompileError.TheVariants.{Misuse, Mismatch}
use Rattle.sqlite.specs.Listing.{misses_table}
use Rattle.sqlite_schema.specs.declared.schema.Index.{Index}
use Rattle.sqlite_resolve.specs.declared.compiled.Compiled.{Compiled}
use Rattle.sqlite_resolve.specs.Compile.{compiled, first, planned, meaning, timed, returning, shows, command, insert, insert_or, insert_or_abort, new_rows, small}
use Rattle.sqlite_resolve.specs.Write.{places}
use Rattle.sqlite_resolve.specs.Given.{is_key_at, key_at, key_meant, do_update, update, upsert, upserts}

-- a statement that shows nothing and reads no time
abbrev pub plain_command : Parsed → Command → Compiled
plain_command p c = record { command = c; returning = None; names = p.names; formats = []; start = p.start; end = p.end; tail = p.tail }

abbrev pub compiled_as : Parsed → Checked Command → Checked Compiled
compiled_as p (Ok c) = Ok (plain_command p c)
compiled_as p (Err e) = Err e

-- a text whose statement reads no time compiles to what its command means
pub compiles_to : (schema : Schema) (p : Parsed) (c : Checked Command) → timed schema p.formats p.statement ≡ [] → meaning schema p (small p.names) ≡ and_then c (λ c. Ok (c, None)) → (text : List ℕ) → first text ≡ Ok p
    → compiled schema text ≡ compiled_as p c
unfolding compiled planned
compiles_to schema p (Ok c) times means text reads = rw (reads, times, add-zero, means) refl
compiles_to schema p (Err e) times means text reads = rw (reads, times, add-zero, means) refl

-- INSERT asks of the schema where the table is, and what its clauses mean
module _ (schema : Schema) (p : Parsed) (name : List ℕ) (columns : List (List ℕ)) (rows : Rows) (clauses : List Upsert) (at : ℕ) (table : Table) (s : Source)
    (statement : p.statement ≡ written.Insert conflict.Abort name columns rows clauses []) (untimed : p.formats ≡ []) (unstamped : table.stamps.formats ≡ [])
    (named : table_named schema name ≡ Some at) (listed : slice_get schema.tables at ≡ Some table)
    (made : new_rows schema table (small p.names) columns rows ≡ Ok s) where
  abbrev commands : Checked Command
  commands = insert_or_abort schema (small p.names) name columns rows clauses

  means : (c : Checked Command) → commands ≡ c → meaning schema p (small p.names) ≡ and_then c (λ c. Ok (c, None))
  unfolding meaning returning shows command
  means c is = rw (statement, is) refl

  times : timed schema p.formats p.statement ≡ []
  unfolding timed
  times = rw (statement, untimed, named, listed, unstamped) refl

  pub compiles : (c : Checked Command) → commands ≡ c → (text : List ℕ) → first text ≡ Ok p → compiled schema text ≡ compiled_as p c
  compiles c is = compiles_to schema p c times (means c is)

  pub adds : clauses ≡ [] → commands ≡ Ok (Insert at s)
  unfolding insert_or_abort insert
  adds none = rw (none, named, listed, made) refl

  pub clears : (clause : Upsert) → clauses ≡ clause ∷ [] → (u : Checked meant.Upsert) → upsert schema at table (small p.names) clause ≡ u → commands ≡ and_then u (λ it. Ok (InsertOr at Abort s (it ∷ [])))
  unfolding insert_or_abort insert_or upserts
  clears clause one (Ok it) is = rw (one, named, listed, made, and_right (length clause.target == 0) false refl, is) refl
  clears clause one (Err e) is = rw (one, named, listed, made, and_right (length clause.target == 0) false refl, is) refl

-- ---- a clause with DO UPDATE

abbrev pub program_of : Draft → Program
program_of d = record { lets = []; body = query_of d }

abbrev pub upserting : Draft → Option (List ℕ) → meant.Upsert
upserting d target = record { target = target; update = Some (program_of d) }

-- Why such a clause is refused is not that it names no table, which would be taken for a query on sqlite_schema.
abbrev pub IsRefusedBy : {X : Type 0} → Checked X → CompileError → Type 0
IsRefusedBy {X} read e = (read ≡ Err e) × (misses_table (Err e) ≡ false)

abbrev pub Reads : {X : Type 0} → Checked X → (Option (List ℕ) → X) → Type 0
Reads {X} read f = ((target : Option (List ℕ)) × (read ≡ Ok (f target))) ⊎ ((e : CompileError) × IsRefusedBy read e)

module _ (schema : Schema) (at : ℕ) (table : Table) (base : ℕ) (clause : Upsert) (key : List ℕ) (aims : places table clause.target ≡ Ok key)
    (d : Draft) (sets : (length clause.sets == 0) ≡ false) (updates : do_update schema at table base clause ≡ Ok d) where
  abbrev is_typed : Bool
  is_typed = accepts_program schema (lets_of (program_of d)) (query_of d) []

  updated : update schema at table base clause ≡ (if is_typed then Ok (Some (program_of d)) else Err Mismatch)
  unfolding update program
  updated = elim (cases_Bool is_typed) [
    | inl fine ↦ rw (sets, updates, fine) refl
    | inr wrong ↦ rw (sets, updates, wrong) refl
  ]

  -- the indexes of some UNIQUE's columns
  indexed : (columns : Option (List ℕ)) → option_map (λ (i : Index). i.columns) (find (is_key_at table key) schema.indexes) ≡ columns → (length clause.target == 0) ≡ false → bytes_eq key (0 ∷ []) ≡ false
      → Reads (key_meant schema table clause.target) (λ target. target)
  unfolding key_meant key_at
  indexed (Some columns) is some other = inl (Some columns, rw (some, aims, other, is) refl)
  indexed None is some other = inr (Misuse, (rw (some, aims, other, is) refl, refl))

  aimed : Reads (key_meant schema table clause.target) (λ target. target)
  unfolding key_meant key_at
  aimed = elim (cases_Bool (length clause.target == 0)) [
    | inl none ↦ inl (None, rw none refl)
    | inr some ↦ elim (cases_Bool (bytes_eq key (0 ∷ []))) [ inl rowid ↦ inl (Some key, rw (some, aims, rowid) refl) | inr other ↦ indexed _ refl some other ]
  ]

  one_clause : (target : Checked (Option (List ℕ))) → key_meant schema table clause.target ≡ target
      → upsert schema at table base clause ≡ and_then target (λ target. if is_typed then Ok (upserting d target) else Err Mismatch)
  unfolding upsert
  one_clause (Err e) is = rw is refl
  one_clause (Ok target) is = elim (cases_Bool is_typed) [
    | inl fine ↦ rw (is, updated, fine) refl
    | inr wrong ↦ rw (is, updated, wrong) refl
  ]

  -- The clause reads so, or the text is refused.
  pub clause_read : Reads (upsert schema at table base clause) (upserting d)
  clause_read = elim aimed [
    | inl known ↦ elim (cases_Bool is_typed) [
      | inl fine ↦ inl (known.0, rw fine at (one_clause (Ok known.0) known.1))
      | inr wrong ↦ inr (Mismatch, (rw wrong at (one_clause (Ok known.0) known.1), refl))
    ]
    | inr refused ↦ inr (refused.0, (one_clause (Err refused.0) refused.1.0, refused.1.1))
  ]
