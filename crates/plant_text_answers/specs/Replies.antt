-- The texts of replies and faults: JSON with no blanks, the members by the bytes of their names.
use Rattle.std.specs.Prelude.{ℕ, List, ◌++◌, codes, decimal}
use Rattle.plant_base.specs.{number_of, name_of, Refusal}
use Rattle.plant_questions.specs.{fault_number, DeskFault, Reply}
use Rattle.plant_questions.specs.declared.reply.Reply.TheVariants.{Accepted, Refused}

abbrev pub accepted_text : ℕ → List ℕ
accepted_text seq = codes "{\"ok\":" ++ decimal seq ++ codes "}"

abbrev pub refusal_text : Refusal → List ℕ
refusal_text r = codes "{\"name\":\"" ++ name_of r ++ codes "\",\"refused\":" ++ decimal (number_of r) ++ codes "}"

-- the text of a reply, without its LF
unfoldable pub reply_text : Reply → List ℕ
reply_text (Accepted seq) = accepted_text seq
reply_text (Refused r) = refusal_text r

-- the text of a fault, without its LF
unfoldable pub fault_text : DeskFault → List ℕ
fault_text f = codes "{\"fault\":" ++ decimal (fault_number f) ++ codes "}"
