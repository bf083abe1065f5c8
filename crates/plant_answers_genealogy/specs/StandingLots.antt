-- What is known of a lot, and whether an open recall reaches it.
use Rattle.std.specs.Prelude.{◌-◌, Option, Some, None, filter_map, length, nat_lt, option_map, slice_get, if◌then◌else◌}
use Rattle.plant_base.specs.{State, Lot}
use Rattle.plant_view.specs.{is_blocked}
use Rattle.plant_questions.specs.{LotPage, Page, StandingLot}
use Rattle.plant_answers_genealogy.specs.LotAnswers.{lot_answer}

abbrev pub standing_lot : State → Lot → StandingLot
standing_lot s l = record { known = lot_answer s l; recalled = is_blocked s l.id }

abbrev pub if_stocked : StandingLot → Option StandingLot
if_stocked a = if nat_lt 0 a.known.stock then Some a else None

-- what is known of a lot, where it has stock
abbrev pub stocked_lot : State → Lot → Option StandingLot
stocked_lot s l = if_stocked (standing_lot s l)

abbrev pub lot_page : State → Page Lot → LotPage
lot_page s page = record { lots = filter_map (stocked_lot s) page.rows; last = option_map (λ l. l.id) (slice_get page.rows (length page.rows - 1)); has_more = page.has_more }
