use Rattle.std.proofs.Common.{take, flat_map}
use Rattle.std.specs.Fmt.{HasWritten, IsPlainFormatter}
use Rattle.plant_base.specs.{lines_text, order_lines}
use Rattle.plant_base.proofs.content.OrdersTextDisplay.fmt.Given as goal

abbrev pub invariant-loop-order : goal.invariant-loop-order
invariant-loop-order g l =
    IsPlainFormatter l.fn.f → HasWritten g.W.Write.write_str_gives l.fn.f (flat_map (λ x. lines_text (order_lines x)) (take l.order-index l.self.0.now)) l.f
