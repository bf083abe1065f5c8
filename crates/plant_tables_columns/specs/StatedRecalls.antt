-- The recall that is decoded from a row of table recall, where the columns of its lifting are those of its state.
use Rattle.std.specs.Prelude.{ℕ, Bool, ◌&&◌, List, Option, Some, None, is_none, option_map, if◌then◌else◌}
use Rattle.plant_base.specs.{◌>>=◌, Lifting, Recall}
use Rattle.plant_tables_columns.specs.declared.recalls.RecallState.{RecallState}
use Rattle.plant_tables_columns.specs.declared.recalls.RecallState.TheVariants as state
use Rattle.plant_tables_columns.specs.declared.recalls.StatedRecall.{StatedRecall}

-- the row has no column of a lifting
abbrev pub has_no_lifting : StatedRecall → Bool
has_no_lifting r = is_none r.lift_at && is_none r.lift_by && is_none r.lift_note

-- the lifting, where the row has all of it
abbrev pub complete_lifting : StatedRecall → Option Lifting
complete_lifting r = do
  at ← r.lift_at
  by ← r.lift_by
  note ← r.lift_note
  Some (record { at = at; by = by; note = note })

-- the lifting that a recall in this state has, where the row has just that
abbrev pub lifting_of_state : RecallState → StatedRecall → Option (Option Lifting)
lifting_of_state state.Open r = if has_no_lifting r then Some None else None
lifting_of_state state.Lifted r = option_map Some (complete_lifting r)

abbrev pub lifting_from : StatedRecall → Option (Option Lifting)
lifting_from r = lifting_of_state r.state r

-- the row's recall, with this lifting
abbrev pub recalled_with : StatedRecall → Option Lifting → Recall
recalled_with r lifting = record { id = r.id; lot = r.lot; at = r.at; by = r.by; note = r.note; lifting = lifting }

-- the recall of a row whose columns of a lifting are those of its state
unfoldable pub recall_from : StatedRecall → Option Recall
recall_from r = option_map (recalled_with r) (lifting_from r)

-- ---- the row of a recall

abbrev pub state_by : Option Lifting → RecallState
state_by None = state.Open
state_by (Some l) = state.Lifted

abbrev pub moment_of_lift : Option Lifting → Option ℕ
moment_of_lift None = None
moment_of_lift (Some l) = Some l.at

abbrev pub person_of_lift : Option Lifting → Option (List ℕ)
person_of_lift None = None
person_of_lift (Some l) = Some l.by

abbrev pub note_of_lift : Option Lifting → Option (List ℕ)
note_of_lift None = None
note_of_lift (Some l) = Some l.note

abbrev pub stated_of : Recall → StatedRecall
stated_of r = record {
  id = r.id;
  lot = r.lot;
  state = state_by r.lifting;
  at = r.at;
  by = r.by;
  note = r.note;
  lift_at = moment_of_lift r.lifting;
  lift_by = person_of_lift r.lifting;
  lift_note = note_of_lift r.lifting;
}
