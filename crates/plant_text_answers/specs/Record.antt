-- The batch record as a text: its sections, and what each line has.
use Rattle.std.specs.Prelude.{ℕ, ◌-◌, ◌==◌, Bool, true, false, if◌then◌else◌, List, [], ◌∷◌, ◌++◌, length, replicate, codes, decimal, Option, Some, None, flat_map}
use Rattle.plant_base.specs.{job_state_name, batch_state_name, word_name, Batch, BatchEvent, Event, Header, Job, OrderRow, RecipeLine}
use Rattle.plant_base.specs.declared.rows.RecipeLine.TheVariants as recipe_line
use Rattle.plant_base.specs.declared.states.Event.TheVariants as event
use Rattle.plant_recipe.specs.declared.progress.Progress.{Progress}
use Rattle.plant_questions.specs.{booked_of, phases_in, BatchView, Booking, MeasuredLine}

-- ---- lines and their items

-- a line ends with an LF
abbrev pub with_lf : List ℕ → List ℕ
with_lf text = text ++ 10 ∷ []

-- one space parts the items of a line, also next to an empty one
abbrev pub items : List (List ℕ) → List ℕ
items [] = []
items (item ∷ []) = item
items (item ∷ next ∷ more) = item ++ 32 ∷ items (next ∷ more)

-- a number right in so many places; a wider one takes its digits
unfoldable pub right_in : ℕ → ℕ → List ℕ
right_in places n = replicate (places - length (decimal n)) 32 ++ decimal n

-- a note, where it isn't empty, is at the end of its line
unfoldable pub noted : List ℕ → List ℕ
noted note = if length note == 0 then [] else codes " note " ++ note

-- when, by whom, and the note
abbrev pub at_by : ℕ → List ℕ → List ℕ → List ℕ
at_by at by note = items (codes "at" ∷ decimal at ∷ codes "by" ∷ (by ++ noted note) ∷ [])

-- the unit of an amount, and `?`, which is no unit, where it isn't known
abbrev pub unit_word : Option (List ℕ) → List ℕ
unit_word None = codes "?"
unit_word (Some unit) = unit

-- an amount of a definition
abbrev pub measured : List ℕ → ℕ → List ℕ → List ℕ
measured def amount unit = items (def ∷ decimal amount ∷ unit ∷ [])

-- ---- the head

abbrev pub batch_text : Batch → List ℕ
batch_text b = items (codes "BATCH" ∷ codes "RECORD" ∷ b.id ∷ [])

abbrev pub order_text : Job → List ℕ
order_text j = items (codes "order" ∷ j.order.order ∷ codes "due" ∷ j.order.due ∷ codes "priority" ∷ decimal j.order.priority
    ∷ codes "state" ∷ job_state_name j.state ∷ [])

abbrev pub recipe_text : OrderRow → Header → List ℕ
recipe_text order h = items (codes "recipe" ∷ order.recipe ∷ decimal order.version ∷ codes "product" ∷ h.product
    ∷ codes "size" ∷ decimal order.size ∷ codes "base" ∷ decimal h.base ∷ [])

abbrev pub released_text : Batch → List ℕ
released_text b = items (codes "released" ∷ at_by b.at b.by b.note ∷ [])

abbrev pub open_or_closed : Bool → List ℕ
open_or_closed false = codes "open"
open_or_closed true = codes "closed"

-- the phases that are done, of all
abbrev pub state_text : Progress → ℕ → List ℕ
state_text p phases = items (codes "state" ∷ batch_state_name p.state ∷ codes "attempt" ∷ decimal p.attempt
    ∷ codes "phases" ∷ decimal (p.next - 1) ∷ codes "of" ∷ decimal phases ∷ open_or_closed p.closed ∷ [])

abbrev pub head_text : BatchView → List ℕ
head_text v = with_lf (batch_text v.batch) ++ (with_lf (order_text v.job) ++ (with_lf (recipe_text v.job.order v.header)
    ++ (with_lf (released_text v.batch) ++ with_lf (state_text v.progress (phases_in v.lines)))))

-- ---- the control recipe

abbrev pub recipe_line_text : RecipeLine → Option (List ℕ) → List ℕ
recipe_line_text (recipe_line.In def amount) unit = items (codes "in" ∷ measured def amount (unit_word unit) ∷ [])
recipe_line_text (recipe_line.Out def amount) unit = items (codes "out" ∷ measured def amount (unit_word unit) ∷ [])
recipe_line_text (recipe_line.Parameter name value) unit = items (codes "par" ∷ name ∷ value ∷ [])
recipe_line_text (recipe_line.Phase unit_procedure operation phase) unit = items (codes "phase" ∷ unit_procedure ∷ operation ∷ phase ∷ [])

abbrev pub control_text : MeasuredLine → List ℕ
control_text l = items (right_in 3 l.line.number ∷ recipe_line_text l.line.line l.unit ∷ [])

-- ---- events and bookings

abbrev pub event_word : Event → List ℕ
event_word (event.Moved word) = word_name word
event_word (event.PhaseDone phase) = items (codes "phase" ∷ decimal phase ∷ [])
event_word event.Closed = codes "close"

abbrev pub event_text : BatchEvent → List ℕ
event_text e = items (right_in 6 e.seq ∷ event_word e.event ∷ at_by e.at e.by e.note ∷ [])

-- a sublot by its lot and its number
abbrev pub sublot_text : List ℕ → ℕ → List ℕ
sublot_text lot sub = lot ++ codes "/" ++ decimal sub

abbrev pub consumed_text : Booking → List ℕ
consumed_text b = items (right_in 6 b.seq ∷ sublot_text b.lot b.sub ∷ measured b.def b.amount b.unit ∷ at_by b.at b.by b.note ∷ [])

abbrev pub produced_text : Booking → List ℕ
produced_text b = items (right_in 6 b.seq ∷ b.lot ∷ measured b.def b.amount b.unit ∷ codes "scrapped" ∷ decimal b.scrapped
    ∷ at_by b.at b.by b.note ∷ [])

-- ---- totals

-- what the control recipe asks for of a definition, and what was booked of it
abbrev pub asked_and_booked : List ℕ → ℕ → List Booking → List ℕ
asked_and_booked def asked bookings = items (def ∷ codes "asked" ∷ decimal asked ∷ codes "booked" ∷ decimal (booked_of def bookings) ∷ [])

-- of an input what was consumed
abbrev pub input_total : List Booking → RecipeLine → List ℕ
input_total consumed (recipe_line.In def amount) = with_lf (items (codes "in" ∷ asked_and_booked def amount consumed ∷ []))
input_total consumed (recipe_line.Out def amount) = []
input_total consumed (recipe_line.Parameter name value) = []
input_total consumed (recipe_line.Phase unit_procedure operation phase) = []

-- of an output what was produced
abbrev pub output_total : List Booking → RecipeLine → List ℕ
output_total produced (recipe_line.In def amount) = []
output_total produced (recipe_line.Out def amount) = with_lf (items (codes "out" ∷ asked_and_booked def amount produced ∷ []))
output_total produced (recipe_line.Parameter name value) = []
output_total produced (recipe_line.Phase unit_procedure operation phase) = []

-- ---- the whole

-- the title of a section is there also where the section is empty
abbrev pub section : {A : Type 0} → List ℕ → (A → List ℕ) → List A → List ℕ
section title text_of xs = with_lf title ++ flat_map (λ x. with_lf (text_of x)) xs

-- the inputs first, then the outputs, each in the order of the control recipe
abbrev pub totals_text : BatchView → List ℕ
totals_text v = with_lf (codes "TOTALS") ++ (flat_map (λ l. input_total v.consumed l.line.line) v.lines
    ++ flat_map (λ l. output_total v.produced l.line.line) v.lines)

-- the record of a batch, of which this is known
unfoldable pub record_text : BatchView → List ℕ
record_text v = head_text v ++ (section (codes "CONTROL RECIPE") control_text v.lines ++ (section (codes "EVENTS") event_text v.events
    ++ (section (codes "CONSUMED") consumed_text v.consumed ++ (section (codes "PRODUCED") produced_text v.produced
    ++ (totals_text v ++ with_lf (codes "END"))))))
