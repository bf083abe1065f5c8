use Rattle.std.proofs.Common.{◌≡◌, ◌+◌, ◌*◌, ◌/◌, length, drop, sym, ap, ◌∙◌, arith, nat_cmp}
use Rattle.std.proofs.lemmas.List.{take_rest}
use Rattle.std.specs.Cmp.Lexicographic.{slice_cmp}
use Rattle.plant_values.proofs.BytesCompareAsNumbers.{equal_eight, unequal_eight}
use Rattle.plant_values.proofs.short.order.Goals as goal

pub loop-i-preserved : goal.loop-i-preserved
loop-i-preserved c =
    let xs = c.args.a.now in
    let ys = c.args.b.now in
    let next : 8 * c.loop-i.i + 8 ≡ 8 * (c.loop-i.i + 1) = omega arith in
    c.loop-i.invariant
    ∙ equal_eight xs ys c.type_inv.a c.type_inv.b (8 * c.loop-i.i) (omega arith) (omega arith) _ _ c.word-x.ensures c.word-y.ensures c.if-x-y.false
    ∙ ap (λ k. slice_cmp nat_cmp (drop k xs) (drop k ys)) next

pub returns-then-x-y : goal.returns-then-x-y
returns-then-x-y c =
    c.cmp.ensures
    ∙ sym (c.loop-i.invariant
    ∙ unequal_eight c.args.a.now c.args.b.now c.type_inv.a c.type_inv.b (8 * c.loop-i.i) (omega arith) (omega arith) _ _ c.word-x.ensures c.word-y.ensures c.if-x-y.true)

pub returns : goal.returns
returns c =
    let xs = c.args.a.now in
    let ys = c.args.b.now in
    let all : 8 * c.loop-i.i ≡ length xs / 8 * 8 = omega arith in
    let rest = length xs / 8 * 8 in
    c.cmp-2.ensures
    ∙ (λ t. slice_cmp nat_cmp (take_rest xs rest t) (take_rest ys rest t))
    ∙ sym (c.loop-i.invariant ∙ ap (λ k. slice_cmp nat_cmp (drop k xs) (drop k ys)) all)
