use Rattle.std.proofs.Common.{◌≡◌, length, arith}
use Rattle.plant_json_in.proofs.PartsInOrder.{two_in_order}
use Rattle.plant_json_in.proofs.questions.question_of_parts.Goals as goal

pub returns-in-len2 : goal.returns-in-len2
returns-in-len2 c =
    let two : length c.question_members.result.now ≡ 2 = omega (arith, c.in-len2.len_at_least, c.in-len2.len_below) in
    rw (c.two_parts.ensures, c.field_of_part-in-len2.ensures, c.field_of_part-in-len2-2.ensures) (two_in_order c.args.kind c.question_members.result.now _ _ _ _ c.question_members.ensures.members two)
