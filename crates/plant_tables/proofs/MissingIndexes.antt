-- What the making of missing indexes comes to.
use Rattle.std.proofs.Common.{◌≡◌, ◌∙◌, inl, inr, refl, sym, ap, subst, ℕ, true, false, List, [], ◌∷◌, map, Ok, Err, Result, OnOk, OnErr, MatchResult, filter, filter_map}
use Rattle.std.proofs.lemmas.Bool.{cases_Bool}
use Rattle.std.proofs.lemmas.Result.{on_ok_weaker}
use Rattle.sqlite.specs.Change.{is_used}
use Rattle.sqlite.specs.Effect.{Database}
use Rattle.sqlite.specs.Schema.{Schema}
use Rattle.sqlite.specs.State.{State}
use Rattle.sqlite_rules.specs.Lists.{Has}
use Rattle.plant_base.specs.{newest_schema}
use Rattle.plant_view.specs.TableRows.{Tables}
use Rattle.sql_tables.specs.{CreateIndexStatement, StoreFault, TableDef, IndexDef, AreOf, AreCreateIndexStatements, MakesIndexes, IsSettled, IsUndone}
use Rattle.sql_tables.proofs.CreateIndexes.{placed}
use Rattle.plant_tables.specs.{desk_table_defs, desk_indexes, IsAt, FailureLeaves, contents_of, HoldsTables, missing_in, is_missing, lacking, CreateLacking, AreAllTaken, CreatesIndexes, AddsMissing, CreatesMissingIndexes}
use Rattle.plant_tables.proofs.StatementsOnDesk.{sql_of}
use Rattle.plant_tables.proofs.DeskStatements.{indexes_of_desk}
use Rattle.plant_tables.proofs.WritingEnds.{cut_at, finds_same}

-- ---- which are missing

abbrev pub name_of : CreateIndexStatement → List ℕ
name_of text = text.name.now

-- each text names the index at its position
abbrev pub AreNamed : List CreateIndexStatement → List IndexDef → Type 0
AreNamed texts indexes = map name_of texts ≡ map (λ (index : IndexDef). index.name) indexes

missing_made : (schema : Schema) (texts : List CreateIndexStatement) (indexes : List IndexDef) → AreNamed texts indexes → AreCreateIndexStatements (map sql_of texts) indexes
    → AreCreateIndexStatements (map sql_of (filter_map (missing_in schema) texts)) (filter (is_missing schema) indexes)
missing_made schema [] [] named says = tt
missing_made schema [] (x ∷ indexes) named says = absurd says
missing_made schema (t ∷ texts) [] named says = absurd says
missing_made schema (t ∷ texts) (x ∷ indexes) named says =
    let same : name_of t ≡ x.name = cc in
    let rest : AreNamed texts indexes = cc in
    let more = missing_made schema texts indexes rest says.1 in
    elim (cases_Bool (is_used schema x.name)) [ inl taken ↦ rw (same, taken) more | inr free ↦ rw (same, free) (says.0, more) ]

-- those of all indexes of the desk
pub desk_missing : (schema : Schema) (all missing : List CreateIndexStatement) → missing ≡ filter_map (missing_in schema) all → AreNamed all desk_indexes → AreCreateIndexStatements (map sql_of all) desk_indexes → CreateLacking schema missing
desk_missing schema all missing is named says = subst (CreateLacking schema) (sym is) (missing_made schema all desk_indexes named says)

-- where each is taken, none is missing
none_missing : (schema : Schema) (indexes : List IndexDef) → ((index : IndexDef) → Has indexes index → is_used schema index.name ≡ true) → filter (is_missing schema) indexes ≡ []
none_missing schema [] taken = refl
none_missing schema (x ∷ indexes) taken = rw (taken x (inl refl)) (none_missing schema indexes (λ index has. taken index (inr has)))

no_texts : (texts : List CreateIndexStatement) → AreCreateIndexStatements (map sql_of texts) [] → texts ≡ []
no_texts [] says = refl
no_texts (t ∷ texts) says = absurd says

pub none_lacking : (schema : Schema) (texts : List CreateIndexStatement) → CreateLacking schema texts → AreAllTaken schema → texts ≡ []
none_lacking schema texts makes taken = no_texts texts (subst (AreCreateIndexStatements (map sql_of texts)) (none_missing schema desk_indexes taken) makes)

missing_of : (schema : Schema) (table_defs : List TableDef) (indexes : List IndexDef) → AreOf indexes table_defs → AreOf (filter (is_missing schema) indexes) table_defs
missing_of schema table_defs [] of_these = tt
missing_of schema table_defs (x ∷ indexes) of_these =
    let more = missing_of schema table_defs indexes of_these.1 in
    elim (cases_Bool (is_used schema x.name)) [ inl taken ↦ rw taken more | inr free ↦ rw free (of_these.0, more) ]

missing_has : (schema : Schema) (indexes : List IndexDef) (index : IndexDef) → Has indexes index → is_used schema index.name ≡ false → Has (filter (is_missing schema) indexes) index
missing_has schema [] index has free = absurd has
missing_has schema (x ∷ indexes) index (inl same) free =
    let unused : is_used schema x.name ≡ false = subst (λ (i : IndexDef). is_used schema i.name ≡ false) same free in
    rw unused (inl same)
missing_has schema (x ∷ indexes) index (inr more) free =
    let later = missing_has schema indexes index more free in
    elim (cases_Bool (is_used schema x.name)) [ inl taken ↦ rw taken later | inr unused ↦ rw unused (inr later) ]

-- ---- what is gained

pub gained : {X : Type 0} (texts : List (List ℕ)) (old new : State) (r : Result X StoreFault) → OnOk r (MakesIndexes texts old new) → OnOk r (CreatesIndexes texts old.now new.now)
gained texts old new r = on_ok_weaker r (λ made indexes of_these says t holds.
    let adds = made desk_table_defs indexes of_these says in
    (adds.has_rows (contents_of t) holds, adds.others (contents_of t) holds, adds.made (contents_of t) holds))

-- where no text was run
none_created : (db : Database) → CreatesIndexes [] db db
none_created db [] of_these says t holds = (holds, record { kept = λ x listed foreign. (listed, refl) }, λ i index is. absurd cc)
none_created db (x ∷ indexes) of_these says t holds = absurd says

pub creates_missing_indexes : (old new : Database) (texts : List CreateIndexStatement) → CreateLacking old.schema texts → CreatesIndexes (map sql_of texts) old new → CreatesMissingIndexes old new
creates_missing_indexes old new texts makes creates t holds =
    let it = creates (lacking old.schema) (missing_of old.schema desk_table_defs desk_indexes indexes_of_desk) makes t holds in (
      it.0,
      record {
        made = λ index has free. let place = placed (lacking old.schema) index (missing_has old.schema desk_indexes index has free) in it.2 place.0 index place.1;
        others = it.1;
      },
    )

pub nothing_missing : (db : Database) (texts : List CreateIndexStatement) → CreateLacking db.schema texts → texts ≡ [] → CreatesMissingIndexes db db
nothing_missing db texts makes none = creates_missing_indexes db db texts makes (subst (λ (them : List CreateIndexStatement). CreatesIndexes (map sql_of them) db db) (sym none) (none_created db))

-- ---- how it ends

-- a store that is as it was
pub cut_at_rest : (s : State) (t : Tables) → IsAt s t → FailureLeaves s s t t
cut_at_rest s t at = record {
  crash_states = ∣ (s.committed.trees, at.settled.crash_states) ∣₁;
  nothing_else = λ db left. inl (finds_same newest_schema s.now db t at.holds (at.settled.nothing_else db left ∙ ap (λ (d : Database). d.trees) (sym at.settled.shows)));
  shows = λ live. (at, refl);
}

module _ (old new : State) (texts : List CreateIndexStatement) (makes : CreateLacking old.now.schema texts) (t : Tables) (at : IsAt old t) where
  leads : (db : Database) → CreatesIndexes (map sql_of texts) old.now db → HoldsTables db t × AddsMissing old.now db
  leads db creates = creates_missing_indexes old.now db texts makes creates t at.holds

  pub created_at : (r : Result (Unit {0}) StoreFault) → OnOk r (IsSettled new × CreatesIndexes (map sql_of texts) old.now new.now) → OnErr r (IsUndone (CreatesIndexes (map sql_of texts)) old new)
      → MatchResult r (λ _. IsAt new t × AddsMissing old.now new.now) (λ _. FailureLeaves old new t t)
  created_at (Ok x) done undone = let it = leads new.now done.1 in (record { settled = done.0; holds = it.0 }, it.1)
  created_at (Err e) done undone = cut_at newest_schema (CreatesIndexes (map sql_of texts)) old new t (λ db creates. let it = leads db creates in (it.0, it.1.others)) {X = Unit {0}} {E = StoreFault} newest_schema t at (Err e) undone
