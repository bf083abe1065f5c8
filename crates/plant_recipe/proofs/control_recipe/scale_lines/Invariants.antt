use Rattle.std.proofs.Common.{◌≡◌, false, take, map}
use Rattle.std.specs.List.{list_any}
use Rattle.plant_recipe.specs.{line_scaled, scales_to_nothing}
use Rattle.plant_recipe.proofs.control_recipe.scale_lines.Given as goal

abbrev pub invariant-loop-line : goal.invariant-loop-line
invariant-loop-line l = record {
  scaled : l.control.items ≡ map (line_scaled l.base l.size) (take l.line-index l.lines);
  none_nothing : list_any (scales_to_nothing l.base l.size) (take l.line-index l.lines) ≡ false;
}
