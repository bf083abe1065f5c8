use Rattle.genealogy_picture.proofs.Causes.{drawn_text}
use Rattle.genealogy_picture.specs.{names}
use Rattle.genealogy_picture.proofs.drawing.drawn.Goals as goal

pub returns : goal.returns
returns c = drawn_text c.args.format (names c.args.asked) c.args.bytes.now c.in_ok-picture.picture c.text_of.result c.in_ok-picture.ensures c.text_of.ensures.text c.text_of.ensures.refused
