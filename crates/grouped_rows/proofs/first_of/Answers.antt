use Rattle.std.proofs.Common.{◌<◌, length, sym, ◌∙◌, arith}
use Rattle.grouped_rows.proofs.BinarySearch.{all_before, first_there, none_there}
use Rattle.grouped_rows.proofs.first_of.Goals as goal

pub returns-then-start-rows : goal.returns-then-start-rows
returns-then-start-rows g c = sym (all_before g.G.Key.Ord.cmp g.G.Grouping.key_of c.args.rows.now c.args.key _ c.start_of-start.ensures.start (omega (arith, c.if-start-rows.true)))

pub returns-then-is_keyed : goal.returns-then-is_keyed
returns-then-is_keyed g c =
    let within : c.start_of-start.result < length c.args.rows.now = omega (arith, c.if-start-rows.false) in
    sym (first_there g.G.Key.Ord.cmp g.G.Grouping.key_of c.args.rows.now c.args.key _ c.start_of-start.ensures.start within c.index-rows-start.result c.index-rows-start.is (sym c.is_keyed.ensures ∙ c.if-is_keyed.true))

pub returns : goal.returns
returns g c =
    let within : c.start_of-start.result < length c.args.rows.now = omega (arith, c.if-start-rows.false) in
    sym (none_there g.G.Key.Ord.cmp g.met.G.Key.Ord.total g.G.Grouping.key_of c.args.rows.now c.args.key c.requires _ c.start_of-start.ensures.start within c.index-rows-start.result c.index-rows-start.is (sym c.is_keyed.ensures ∙ c.if-is_keyed.false))
