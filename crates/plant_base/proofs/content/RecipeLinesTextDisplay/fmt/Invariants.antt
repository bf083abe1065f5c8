use Rattle.std.proofs.Common.{take, flat_map}
use Rattle.std.specs.Fmt.{HasWritten, IsPlainFormatter}
use Rattle.plant_base.specs.{lines_text, recipe_line_lines}
use Rattle.plant_base.proofs.content.RecipeLinesTextDisplay.fmt.Given as goal

abbrev pub invariant-loop-line : goal.invariant-loop-line
invariant-loop-line g l =
    IsPlainFormatter l.fn.f → HasWritten g.W.Write.write_str_gives l.fn.f (flat_map (λ x. lines_text (recipe_line_lines x)) (take l.line-index l.self.0.now)) l.f
