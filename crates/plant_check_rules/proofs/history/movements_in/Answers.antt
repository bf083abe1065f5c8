use Rattle.std.proofs.Common.{rules}
use Rattle.std.proofs.lemmas.Iterator.{YieldsList-from_slice}
use Rattle.std.proofs.lemmas.Iterator.Adapters.{items_from_extend}
use Rattle.std.proofs.lemmas.Iterator.Consumers.{YieldsList-from_filter_map}
use Rattle.plant_tables_columns.specs.{movement_from}
use Rattle.plant_check_rules.proofs.history.movements_in.Goals as goal

pub returns : goal.returns
returns c =
    let extended = items_from_extend c.extend.result c.extend.ensures.ran (YieldsList-from_filter_map _ movement_from (YieldsList-from_slice c.args.rows.now cc) c.filter_map.ensures.closure (λ x r q k. search rules)) in
    search (rules, extended)
