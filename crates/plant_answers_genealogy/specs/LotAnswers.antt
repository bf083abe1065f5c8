-- What is answered of a lot.
use Rattle.std.specs.Prelude.{Option, Some, None, sum_by}
use Rattle.plant_base.specs.{State, Lot}
use Rattle.plant_base.specs.declared.refusal.Refusal.TheVariants.{UnknownLot}
use Rattle.plant_view.specs.{is_held, sublots_of}
use Rattle.plant_questions.specs.{Answer, LotAnswer}
use Rattle.plant_questions.specs.declared.question.Answer.TheVariants as A

abbrev pub lot_answer : State → Lot → LotAnswer
lot_answer s l = record {
  lot = l.id;
  def = l.def;
  held = is_held s l.id;
  stock = sum_by (λ r. r.stock) (sublots_of s l.id);
  sublots = sublots_of s l.id;
}

abbrev pub answer_lot : State → Option Lot → Answer
answer_lot s None = A.Unknown UnknownLot
answer_lot s (Some l) = A.Lot (lot_answer s l)
