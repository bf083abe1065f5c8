use Rattle.std.proofs.Common.{◌≡◌, ◌∙◌, ◌-◌, ap, arith, drop, length, sym, take, length-drop, take_all}
use Rattle.grouped_rows.specs.{EndsAt}
use Rattle.grouped_rows.proofs.RunEnds.{found_from}
use Rattle.grouped_rows.proofs.run_of.Goals as goal

pub returns : goal.returns
returns g c =
    let cmp = g.G.Key.Ord.cmp in
    let of = g.G.Grouping.key_of in
    let rows = c.args.rows.now in
    let start = c.start_of-start.result in
    let count = c.end_of-count.result in
    let rest = drop start rows in
    let all : take (length rows - start) rest ≡ rest = take_all (length rows - start) rest (omega (arith, length-drop start rows)) in
    let till : EndsAt cmp of rest c.args.key count = rw (sym all) c.end_of-count.ensures.end in
    ap (take count) all ∙ found_from cmp of rows c.args.key start count c.start_of-start.ensures.start till
