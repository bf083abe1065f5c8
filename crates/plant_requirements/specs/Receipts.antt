-- The numbers and the contents of receipts.
use Rattle.std.specs.Prelude.{ℕ, ◌==◌, List, [], ◌∷◌, map, length, filter, Option}
use Rattle.plant_base.specs.{is_content, Receipt}
use Rattle.plant_requirements.specs.First.{Column, Found, Requirement, RowFault, Wanted, first_reported, first_unmet, in_column}
use Rattle.plant_requirements.specs.Keys.{id_key}
use Rattle.plant_requirements.specs.declared.table_names.Table.TheVariants as table
use Rattle.plant_requirements.specs.declared.fault.Column.TheVariants as column
use Rattle.plant_requirements.specs.declared.fault.Found.TheVariants as found
use Rattle.plant_requirements.specs.declared.fault.Wanted.TheVariants as wanted
use Rattle.plant_requirements.specs.Numbering.{is_given}

abbrev pub seqs_of : List Receipt → List ℕ
seqs_of rs = map (λ r. r.seq) rs

-- the fault of the receipt: this is in a column, where that is wanted
abbrev pub receipt_as : Receipt → Column → Found → Wanted → RowFault
receipt_as r c f w = in_column (table.Receipt, id_key r.reference) c f w

-- the number is that of an accepted command, the content is made of what contents are made of, and the number is once among these
abbrev pub of_receipt : ℕ → List ℕ → Receipt → List Requirement
of_receipt greatest seqs r =
    (is_given greatest r.seq, receipt_as r column.Seq (found.Number r.seq) (wanted.Given greatest))
    ∷ (is_content r.content, receipt_as r column.Content found.Row wanted.Content)
    ∷ (length (filter (λ n. n == r.seq) seqs) == 1, receipt_as r column.Seq (found.Number r.seq) wanted.OwnNumber)
    ∷ []

abbrev pub receipt_fault : ℕ → List ℕ → Receipt → Option RowFault
receipt_fault greatest seqs r = first_unmet (of_receipt greatest seqs r)

abbrev pub receipt_fault_in : ℕ → List Receipt → Option RowFault
receipt_fault_in greatest rs = first_reported (receipt_fault greatest (seqs_of rs)) rs
