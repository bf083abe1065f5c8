-- What the subcommands `trace` and `record` print of an answer.
use Rattle.std.specs.Prelude.{◌≡◌, ◌⊎◌, ℕ, List, Bool, Option, Result, Ok, Err, IfOk, flat_map}
use Rattle.std.specs.Io.KnownBytes.{Appends}
use Rattle.sqlite.specs.State as store
use Rattle.plant_base.specs.{newest_schema}
use Rattle.plant_trace.specs.{node_text, Node}
use Rattle.plant_text_answers.specs.{record_text}
use Rattle.plant_answers.specs.{answer}
use Rattle.plant_questions.specs.{Answer, DeskFault, Question}
use Rattle.plant_questions.specs.declared.question.Answer.TheVariants as A
use Rattle.plant_desk_store.specs.{IsDurablyAt}
use Rattle.plant_text_answers.specs.{text_of_answer}
use Rattle.plant_text.specs.{is_unknown, with_lf, AppendsPrefix}
use Rattle.desk_program.specs.Faults.{desk_fault}
use Rattle.desk_program.specs.Runs.{AdoptedIfHonest, WasRefused}
use Rattle.desk_program.specs.declared.fault.ProgramFault.{ProgramFault}
use Rattle.desk_program.specs.declared.fault.ProgramFault.TheVariants as fault

-- a line for each node
abbrev pub trace_text : List Node → List ℕ
trace_text nodes = flat_map (λ n. with_lf (node_text n)) nodes

-- the nodes of a trace, the record of a batch, else the answer's line: a refusal where the id isn't known
abbrev pub answer_lines : Answer → List ℕ
answer_lines (A.Batch view) = record_text view
answer_lines (A.Trace nodes) = trace_text nodes
answer_lines a = with_lf (text_of_answer a)

-- how the printing of an answer ended: its text was written, or a prefix of it where the writer failed; or memory was
-- refused for it, and nothing was written
abbrev pub AnswerPrinted : Answer → Option (List ℕ) → Option (List ℕ) → Result Bool ProgramFault → Type 0
AnswerPrinted a old new (Ok refused) = Appends old new (answer_lines a) × (refused ≡ is_unknown a)
AnswerPrinted a old new (Err f) = ((f ≡ fault.Write) × AppendsPrefix old new (answer_lines a))
    ⊎ ((f ≡ fault.Memory) × (new ≡ old))

-- how a keeper's answer was printed: it was; or the keeper's fault is returned, and nothing was written
abbrev pub AskedWritten : Result Answer DeskFault → Option (List ℕ) → Option (List ℕ) → Result Bool ProgramFault → Type 0
AskedWritten (Ok a) old new done = AnswerPrinted a old new done
AskedWritten (Err f) old new done = (done ≡ Err (desk_fault f)) × (new ≡ old)

-- how a keeper's answer was printed, which was this answer or a fault
abbrev pub AnswerWritten : Answer → Option (List ℕ) → Option (List ℕ) → Result Bool ProgramFault → Type 0
AnswerWritten a old new done = (asked : Result Answer DeskFault) × IfOk asked (λ answered. answered ≡ a) × AskedWritten asked old new done

-- The outcome of a question to the desk of a store: the store was adopted, the answer of its state printed, and it is at that
-- state still; or it wasn't adopted, and nothing was printed.
abbrev pub AskGives : store.State → store.State → Question → Option (List ℕ) → Option (List ℕ) → Result Bool ProgramFault → Type 0
AskGives before after q old new done =
    AdoptedIfHonest before after (λ s. IsDurablyAt after s × AnswerWritten (answer newest_schema s q) old new done)
    ⊎ (WasRefused before after done × (new ≡ old))
