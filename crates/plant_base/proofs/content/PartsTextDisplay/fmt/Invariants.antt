use Rattle.std.proofs.Common.{take, flat_map}
use Rattle.std.specs.Fmt.{HasWritten, IsPlainFormatter}
use Rattle.plant_base.specs.{lines_text, part_lines}
use Rattle.plant_base.proofs.content.PartsTextDisplay.fmt.Given as goal

abbrev pub invariant-loop-part : goal.invariant-loop-part
invariant-loop-part g l =
    IsPlainFormatter l.fn.f → HasWritten g.W.Write.write_str_gives l.fn.f (flat_map (λ x. lines_text (part_lines x)) (take l.part-index l.self.0.now)) l.f
