use Rattle.std.proofs.Common.{rules, ◌≡◌, Some, arith}
use Rattle.plant_base.specs.{digits_of}
use Rattle.plant_questions.proofs.SmallNumbers.{small}
use Rattle.plant_questions.proofs.cursors.U16CursorKey.read_key.Goals as goal

pub overflow_cast-result : goal.overflow_cast-result
overflow_cast-result c =
    let is : digits_of 3 c.args.text.now ≡ Some c.in_ok-number.number = search rules in
    let few = small c.args.text.now c.in_ok-number.number is in
    omega (arith, few)
