use Rattle.std.proofs.Common.{◌≡◌, true, rules}
use Rattle.std.proofs.lemmas.Str.{IsUtf8-from_ascii}
use Rattle.plant_tables_columns.proofs.receipts.ascii_or_empty.Goals as goal

pub unreachable-requires : goal.unreachable-requires
unreachable-requires c =
    let reported : c.is_all_ascii.result ≡ true = search rules in
    c.in-Err.ensures.cases.0 (IsUtf8-from_ascii c.args.bytes.now (rw reported at c.is_all_ascii.ensures.ascii))
