-- The words and numbers that states, events and kinds were read from, and what is read from theirs.
use Rattle.std.proofs.Common.{◌≡◌, refl, sym, ap, ◌∙◌, subst, ℕ, ℤ, pos, arith, List, Bool, true, false, Some, option_map, codes, nat_le, if◌then◌else◌, option_and_then, int_eq}
use Rattle.std.proofs.lemmas.Bool.{and_parts}
use Rattle.std.proofs.lemmas.Bool.Decides.{nat_tests, Decides-int_eq}
use Rattle.plant_base.specs.{same, greatest_phase, recipe_state_name, job_state_name, batch_state_name, word_name, BatchState, EdgeKind, Event, JobState, MarkKind, RecipeState, Word, HasPhaseNumber, edge_kind_number, mark_kind_number}
use Rattle.plant_base.specs.declared.states.RecipeState.TheVariants as recipe_state
use Rattle.plant_base.specs.declared.states.JobState.TheVariants as job_state
use Rattle.plant_base.specs.declared.states.BatchState.TheVariants as batch_state
use Rattle.plant_base.specs.declared.states.Word.TheVariants as word
use Rattle.plant_base.specs.declared.states.Event.TheVariants as event
use Rattle.plant_view.proofs.ListLemmas.{found_passes, same_id}
use Rattle.sqlite.specs.declared.types.Value.TheVariants.{Text}
use Rattle.sql_tables.specs.{integer, text}
use Rattle.plant_tables_columns.specs.{number, number_in, by_text, by_number, named, numbered, event_name, event_phase, all_recipe_states, all_job_states, all_batch_states, recall_state_name, all_recall_states, all_words, word_named, plain_event, event_named, line_kind_number, all_line_kind_codes, movement_kind_number, all_movement_kind_codes, all_edge_kinds, all_mark_kinds}
use Rattle.plant_base.specs.declared.rows.EdgeKind.TheVariants as edge_kind
use Rattle.plant_base.specs.declared.rows.MarkKind.TheVariants as mark_kind
use Rattle.plant_tables_columns.specs.declared.line.LineKindCode.{LineKindCode}
use Rattle.plant_tables_columns.specs.declared.line.LineKindCode.TheVariants as line_kind_code
use Rattle.plant_tables_columns.specs.declared.booked.MovementKindCode.{MovementKindCode}
use Rattle.plant_tables_columns.specs.declared.booked.MovementKindCode.TheVariants as movement_kind_code
use Rattle.plant_tables_columns.specs.declared.recalls.RecallState.{RecallState}
use Rattle.plant_tables_columns.specs.declared.recalls.RecallState.TheVariants as recall_state
use Rattle.plant_tables_columns.proofs.OptionalValues.{bound, mapped, some_same}
use Rattle.plant_tables_columns.proofs.KindLaws.{IsKind, Any, text_kind, integer_kind, number_back, number_keeps, number_again}

-- what was found by its name has it
named_back : {A : Type 0} (name : A → List ℕ) (all : List A) (bytes : List ℕ) (a : A) → named name all bytes ≡ Some a → bytes ≡ name a
named_back name all bytes a h = sym (same_id (name a) bytes (found_passes (λ x. same (name x) bytes) all a h))

pub int_same : (x y : ℤ) → int_eq x y ≡ true → x ≡ y
int_same x y h = (Decides-int_eq x y).0 h

numbered_back : {A : Type 0} (number : A → ℕ) (all : List A) (z : ℤ) (a : A) → numbered number all z ≡ Some a → z ≡ pos (number a)
numbered_back number all z a h = sym (int_same (pos (number a)) z (found_passes (λ x. int_eq (pos (number x)) z) all a h))

-- what is stored by a name, of a list in which each finds itself by its name
pub named_kind : {A : Type 0} (name : A → List ℕ) (all : List A) → ((a : A) → named name all (name a) ≡ Some a)
    → IsKind (record { declared = text; stored = λ a. Text (name a); read = by_text (named name all) }) Any Any
named_kind name all own = text_kind (named name all) name Any (named_back name all) (λ a _. own a) (λ bytes a h. tt)

-- and by numbers
pub numbered_kind : {A : Type 0} (number_of : A → ℕ) (all : List A) → ((a : A) → numbered number_of all (pos (number_of a)) ≡ Some a)
    → IsKind (record { declared = integer; stored = λ a. number (number_of a); read = by_number (numbered number_of all) }) Any Any
numbered_kind number_of all own =
    integer_kind (numbered number_of all) (λ a. pos (number_of a)) Any Any (λ z a h _. numbered_back number_of all z a h) (λ a _ _. own a) (λ z a h. tt)

-- ---- states

pub recipe_state_own : (s : RecipeState) → named recipe_state_name all_recipe_states (recipe_state_name s) ≡ Some s
recipe_state_own recipe_state.Draft = refl
recipe_state_own _ = refl

pub job_state_own : (s : JobState) → named job_state_name all_job_states (job_state_name s) ≡ Some s
job_state_own job_state.Open = refl
job_state_own _ = refl

pub batch_state_own : (s : BatchState) → named batch_state_name all_batch_states (batch_state_name s) ≡ Some s
batch_state_own batch_state.Idle = refl
batch_state_own _ = refl

pub recall_state_own : (s : RecallState) → named recall_state_name all_recall_states (recall_state_name s) ≡ Some s
recall_state_own recall_state.Open = refl
recall_state_own _ = refl

-- ---- events

word_back : (bytes : List ℕ) (w : Word) → word_named bytes ≡ Some w → bytes ≡ word_name w
unfolding word_named
word_back bytes w h = named_back word_name all_words bytes w h

pub record IsEventOf (name : List ℕ) (phase : ℤ) (e : Event) : Type 0 where
  pub is_named : name ≡ event_name e
  pub has_phase : phase ≡ pos (event_phase e)
  pub has_number : HasPhaseNumber e

no_phase : (z : ℤ) (n : ℕ) → number_in 0 0 z ≡ Some n → z ≡ pos 0
no_phase z n h =
    let most : nat_le n 0 ≡ true = (and_parts (nat_le 0 n) (nat_le n 0) (number_keeps 0 0 z n h)).1 in
    let none : n ≡ 0 = grind (arith, nat_tests) in
    number_back 0 0 z n h ∙ ap pos none

plain_back : (name : List ℕ) (phase : ℤ) (e : Event) → phase ≡ pos 0 → plain_event name ≡ Some e → IsEventOf name phase e
unfolding plain_event
plain_back name phase e zero h = elim (same name (codes "close")) as (λ b. same name (codes "close") ≡ b → (if b then Some event.Closed else option_map event.Moved (word_named name)) ≡ Some e → IsEventOf name phase e) [
  | true ↦ λ t f. subst (IsEventOf name phase) (some_same _ _ f) (record { is_named = same_id name (codes "close") t; has_phase = zero; has_number = tt })
  | false ↦ λ t f.
      let read = mapped event.Moved (word_named name) e f in
      subst (IsEventOf name phase) read.2 (record { is_named = word_back name read.0 read.1; has_phase = zero; has_number = tt })
] refl h

pub event_back : (name : List ℕ) (phase : ℤ) (e : Event) → event_named name phase ≡ Some e → IsEventOf name phase e
unfolding event_named
event_back name phase e h = go (same name (codes "phase")) refl h
  where
    go : (b : Bool) → same name (codes "phase") ≡ b → (if b then option_map event.PhaseDone (number_in 1 greatest_phase phase) else option_and_then (λ none. plain_event name) (number_in 0 0 phase)) ≡ Some e → IsEventOf name phase e
    go true t f =
        let read = mapped event.PhaseDone (number_in 1 greatest_phase phase) e f in
        subst (IsEventOf name phase) read.2 (record {
          is_named = same_id name (codes "phase") t;
          has_phase = number_back 1 greatest_phase phase read.0 read.1;
          has_number = number_keeps 1 greatest_phase phase read.0 read.1;
        })
    go false t f =
        let read = bound (number_in 0 0 phase) _ e f in
        plain_back name phase e (no_phase phase read.0 read.1) read.2

moved_own : (w : Word) → event_named (word_name w) (pos 0) ≡ Some (event.Moved w)
unfolding event_named plain_event word_named number_in
moved_own word.Start = refl
moved_own _ = refl

pub event_own : (e : Event) → HasPhaseNumber e → event_named (event_name e) (pos (event_phase e)) ≡ Some e
unfolding event_named plain_event number_in
event_own (event.Moved w) valid = moved_own w
event_own (event.PhaseDone k) valid = ap (option_map event.PhaseDone) (number_again 1 greatest_phase k valid)
event_own event.Closed valid = refl

-- ---- kinds

pub line_kind_own : (s : LineKindCode) → numbered line_kind_number all_line_kind_codes (pos (line_kind_number s)) ≡ Some s
line_kind_own line_kind_code.In = refl
line_kind_own _ = refl

pub movement_kind_own : (s : MovementKindCode) → numbered movement_kind_number all_movement_kind_codes (pos (movement_kind_number s)) ≡ Some s
movement_kind_own movement_kind_code.Received = refl
movement_kind_own _ = refl

pub edge_kind_own : (k : EdgeKind) → numbered edge_kind_number all_edge_kinds (pos (edge_kind_number k)) ≡ Some k
edge_kind_own edge_kind.LotToBatch = refl
edge_kind_own _ = refl

pub mark_kind_own : (k : MarkKind) → numbered mark_kind_number all_mark_kinds (pos (mark_kind_number k)) ≡ Some k
mark_kind_own mark_kind.Lot = refl
mark_kind_own _ = refl
