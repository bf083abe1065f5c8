-- A row of a batch that was found.
use Rattle.std.proofs.Common.{◌≡◌, ◌∙◌, Option, Some, None, option_map, sym, ap}
use Rattle.plant_base.specs.{State, Batch, BatchRow}
use Rattle.plant_view.specs.{batch_row}
use Rattle.plant_answers.specs.{IsRowOf}

pub row_found : (s : State) (r : BatchRow) (o : Option Batch) → Some r ≡ option_map (batch_row s.control_lines s.events) o → IsRowOf s r × (o ≡ Some r.batch)
row_found s r None e = absurd (cc)
row_found s r (Some b) e =
    let is : r ≡ batch_row s.control_lines s.events b = cc in
    let own : b ≡ r.batch = sym (ap (λ (x : BatchRow). x.batch) is) in
    (is ∙ ap (batch_row s.control_lines s.events) own, ap Some own)
