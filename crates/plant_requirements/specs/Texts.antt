-- The texts of rows that break rules.
use Rattle.std.specs.Prelude.{ℕ, ◌-◌, nat_lt, if◌then◌else◌, List, ◌++◌, codes, decimal, Option, Some, None}
use Rattle.std.specs.Fmt.{signed_decimal}
use Rattle.plant_base.specs.{name_of, batch_state_name, job_state_name}
use Rattle.plant_tables_columns.specs.{MovementKindCode}
use Rattle.plant_tables_columns.specs.declared.booked.MovementKindCode.TheVariants as kind_code
use Rattle.plant_requirements.specs.Naming.{column_name}
use Rattle.plant_requirements.specs.TableNames.{table_name}
use Rattle.plant_requirements.specs.declared.value_rule.ValueRule.{ValueRule}
use Rattle.plant_requirements.specs.First.{Column, Found, RowKey, RowFault, Wanted}
use Rattle.plant_requirements.specs.declared.fault.RowKey.TheVariants as key
use Rattle.plant_requirements.specs.declared.fault.Found.TheVariants as found
use Rattle.plant_requirements.specs.declared.fault.Wanted.TheVariants as wanted
use Rattle.plant_requirements.specs.declared.value_rule.ValueRule.TheVariants as rule

abbrev pub key_text : RowKey → List ℕ
key_text (key.Id id) = id
key_text (key.Number n) = decimal n
key_text (key.Ids a b) = a ++ codes " " ++ b
key_text (key.Numbers m n) = decimal m ++ codes " " ++ decimal n
key_text (key.IdNumber id n) = id ++ codes " " ++ decimal n
key_text (key.IdNumbers id m n) = id ++ codes " " ++ decimal m ++ codes " " ++ decimal n
key_text (key.NumberIds n a b) = decimal n ++ codes " " ++ a ++ codes " " ++ b
key_text (key.IdNumberId a n b) = a ++ codes " " ++ decimal n ++ codes " " ++ b
key_text (key.Place place) = codes "number " ++ decimal place ++ codes " by its key"

abbrev pub kind_code_name : MovementKindCode → List ℕ
kind_code_name kind_code.Received = codes "a receipt"
kind_code_name kind_code.Consumed = codes "a consumption"
kind_code_name kind_code.Produced = codes "a production"
kind_code_name kind_code.Scrapped = codes "a scrapping"
kind_code_name kind_code.Divided = codes "a division"
kind_code_name kind_code.Split = codes "a split"
kind_code_name kind_code.Merged = codes "a merge"

abbrev pub found_text : Found → List ℕ
found_text (found.Id id) = id
found_text (found.Number n) = decimal n
found_text (found.Order s) = job_state_name s
found_text (found.State s) = batch_state_name s
found_text (found.MovementKind s) = kind_code_name s
found_text (found.Integer n) = signed_decimal n
found_text (found.Text text) = codes "'" ++ text ++ codes "'"
found_text found.LongText = codes "a text of more than 60 bytes"
found_text found.OtherText = codes "a text with a byte that isn't from the space to ~"
found_text found.Real = codes "a real number"
found_text found.Blob = codes "a blob"
found_text found.Null = codes "NULL"
found_text found.Row = codes "the row"
found_text found.Nothing = codes "no row"

-- what is wanted, where that is always the same
abbrev pub plain_wanted : Wanted → List ℕ
plain_wanted wanted.NoRow = codes "no such row"
plain_wanted wanted.NoBatch = codes "an order without a batch"
plain_wanted wanted.OpenBatch = codes "an order with a batch that isn't closed"
plain_wanted wanted.ClosedBatch = codes "an order with a closed batch"
plain_wanted wanted.OneBatch = codes "one batch of the order"
plain_wanted wanted.WellFormed = codes "a well-formed recipe"
plain_wanted wanted.Control = codes "the control recipe that its order asks for"
plain_wanted wanted.Birth = codes "movements of one number and kind that make it, of at most 10^15 in all, or one division"
plain_wanted wanted.Columns = codes "the columns that its kind or state asks for"
plain_wanted wanted.RightDefinition = codes "a definition that the other lot, or the control recipe of the batch, has too"
plain_wanted wanted.Parts = codes "at most 16 parts, of distinct sublots"
plain_wanted wanted.Apart = codes "a number that no event of a batch has"
plain_wanted wanted.Later = codes "a number above those that brought what it takes"
plain_wanted wanted.NextLine = codes "line 1 of a number, or the next part of the merge before it"
plain_wanted wanted.Between = codes "a moment no later than that of its lifting, and both no later than the desk's"
plain_wanted wanted.Mark = codes "the mark of an open recall that reaches it"
plain_wanted wanted.OwnNumber = codes "a number that no other receipt has"
plain_wanted wanted.Content = codes "a content of one or more bytes from the space to ~ and LFs"
plain_wanted wanted.Values = codes "values that each obey their rule"
plain_wanted _ = codes ""

-- a stock as the difference of what entered and what left
abbrev pub stock_text : ℕ → ℕ → List ℕ
stock_text entered left = if nat_lt entered left
    then codes "no less to have left than entered: " ++ decimal entered ++ codes " entered and " ++ decimal left ++ codes " left"
    else decimal (entered - left) ++ codes ", for " ++ decimal entered ++ codes " entered and " ++ decimal left ++ codes " left"

abbrev pub rule_text : ValueRule → List ℕ
rule_text rule.Id = codes "an id"
rule_text rule.IdOrNull = codes "an id or NULL"
rule_text rule.IdOrEmpty = codes "an id or the empty text"
rule_text rule.Text = codes "a text of at most 60 bytes from the space to ~"
rule_text rule.TextOrNull = codes "a text of at most 60 bytes from the space to ~, or NULL"
rule_text rule.AnyText = codes "a text"
rule_text rule.Unit = codes "a unit of 1 to 8 letters and digits"
rule_text rule.Due = codes "a date as 2026-11-30, of the years 2000 to 2099"
rule_text (rule.Number low high) = codes "a whole number from " ++ decimal low ++ codes " to " ++ decimal high
rule_text (rule.NumberOrNull low high) = codes "a whole number from " ++ decimal low ++ codes " to " ++ decimal high ++ codes ", or NULL"
rule_text rule.Whole = codes "a whole number"
rule_text rule.RecipeState = codes "draft, approved or withdrawn"
rule_text rule.JobState = codes "open, cancelled, released or finished"
rule_text rule.BatchState = codes "idle, running, complete, pausing, paused, holding, held, restarting, stopping, stopped, aborting or aborted"
rule_text rule.RecallState = codes "open or lifted"
rule_text rule.EventWord = codes "start, stop, hold, restart, abort, reset, pause, resume, done, phase or close"

abbrev pub wanted_text : Wanted → List ℕ
wanted_text (wanted.Key t) = codes "the key of a row of table " ++ table_name t ++ codes ", one that fits"
wanted_text (wanted.Stock entered left) = stock_text entered left
wanted_text (wanted.State s) = batch_state_name s
wanted_text (wanted.Number n) = decimal n
wanted_text (wanted.Allowed r) = codes "events that are allowed: one is refused as " ++ name_of r
wanted_text (wanted.Size least greatest) = codes "a size from " ++ decimal least ++ codes " to " ++ decimal greatest
wanted_text (wanted.NumberedFrom t first) = codes "rows of table " ++ table_name t ++ codes " numbered from " ++ decimal first ++ codes " on"
wanted_text (wanted.Given greatest) = codes "the number of a command, 1 to " ++ decimal greatest
wanted_text (wanted.NotAfter at) = codes "no moment after " ++ decimal at ++ codes ", which is the desk's"
wanted_text (wanted.NotBefore at) = codes "no moment before " ++ decimal at ++ codes ", which stands with a lower number"
wanted_text (wanted.EdgeOf seq line) = codes "the edge that movement " ++ decimal seq ++ codes " " ++ decimal line ++ codes " makes"
wanted_text (wanted.Value r) = rule_text r
wanted_text w = plain_wanted w

abbrev pub column_text : Option Column → List ℕ
column_text None = codes ""
column_text (Some c) = codes ", column " ++ column_name c

abbrev pub fault_text : RowFault → List ℕ
fault_text f = codes "table " ++ table_name f.table ++ codes ", row " ++ key_text f.key ++ column_text f.column ++ codes ": " ++ found_text f.found ++ codes " stands there, wanted is " ++ wanted_text f.wanted
