use Rattle.std.proofs.Common.{◌≡◌, ◌∙◌, ◌+◌, List, [], ◌∷◌, ◌++◌, take, sym, ap, subst, arith, take_all}
use Rattle.std.proofs.lemmas.List.{take_more}
use Rattle.genealogy_svg.specs.declared.drawing.DrawnEdge.{DrawnEdge}
use Rattle.genealogy_svg.specs.{HaveRows, in_row}
use Rattle.genealogy_svg.proofs.RowsLoop.{Rowing, have_rows, rowing_more}
use Rattle.genealogy_svg.proofs.rows.with_rows.Goals as goal

pub loop-edge-preserved : goal.loop-edge-preserved
loop-edge-preserved c =
    let i = c.loop-edge.edge-index in
    let e = c.edge-item.result in
    let prefix : List DrawnEdge = take i c.args.edges.now in
    let before : List DrawnEdge = c.loop-edge.placed.items in
    let more : take (i + 1) c.args.edges.now ≡ prefix ++ e ∷ [] =
    take_more c.args.edges.now i e c.loop-edge-test.true ∙ ap (λ (y : DrawnEdge). prefix ++ y ∷ []) (sym c.edge-item.is) in
    let pushed : c.push.new.self.items ≡ before ++ in_row e c.in-Some.place.slot ∷ [] =
    c.in_ok-push-in-Some.ensures.items ∙ ap (λ (y : DrawnEdge). before ++ y ∷ []) c.in_row.ensures in
    let now = rowing_more prefix before c.loop-edge.taken c.take.new.taken e c.in-Some.place
    c.in_ok-take-in-Some.ensures c.in-Some.ensures.free c.in-Some.ensures.layer c.loop-edge.invariant in
    let P : List DrawnEdge → Type 0 = λ edges. Rowing edges c.take.new.taken c.push.new.self.items in
    let Q : List DrawnEdge → Type 0 = λ placed. Rowing (prefix ++ e ∷ []) c.take.new.taken placed in
    let here : P (prefix ++ e ∷ []) = subst Q (sym pushed) now in
    subst P (sym more) here

pub returns : goal.returns
returns c =
    let all : take c.loop-edge.edge-index c.args.edges.now ≡ c.args.edges.now = take_all c.loop-edge.edge-index c.args.edges.now (omega (arith, c.loop-edge-test.false)) in
    let P : List DrawnEdge → Type 0 = λ edges. HaveRows edges c.loop-edge.placed.items in
    subst P all (have_rows (take c.loop-edge.edge-index c.args.edges.now) c.loop-edge.taken c.loop-edge.placed.items c.loop-edge.invariant)
