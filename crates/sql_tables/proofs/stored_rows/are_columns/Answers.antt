use Rattle.std.proofs.Common.{◌≡◌, refl, length, arith}
use Rattle.sql_tables.specs.{column_of}
use Rattle.sql_tables.proofs.ListsAgree.{same_map}
use Rattle.sql_tables.proofs.stored_rows.are_columns.Goals as goal

pub returns : goal.returns
returns c =
    let len : length c.args.columns.now ≡ length c.args.table_defs.now = omega arith in
    (λ _. same_map column_of c.args.columns.now c.args.table_defs.now len (λ k d e low. c.loop-at.invariant k d e (omega arith)), λ _. refl)
