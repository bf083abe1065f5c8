use Rattle.plant_check.proofs.FoundIfDisobeyed.{found_by_row, found_where_broken}
use Rattle.plant_check.proofs.FirstFoundIsFirstBroken.{first_found}
use Rattle.plant_check.proofs.ObeyedColumns.{all_unread}
use Rattle.plant_check.proofs.finding.findings_law.Goals as goal

pub returns : goal.returns
returns c = record {
  broken = found_where_broken;
  by_row = found_by_row;
  first = first_found;
  unread = all_unread;
}
