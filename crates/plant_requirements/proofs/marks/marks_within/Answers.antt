use Rattle.std.proofs.Common.{◌≡◌, ◌∙◌, ◌+◌, ◌∷◌, [], ◌++◌, List, take, drop, length, ap, sym, rules, arith, take-append-drop}
use Rattle.std.proofs.lemmas.List.{take_more}
use Rattle.plant_base.specs.{Mark, Recall}
use Rattle.plant_trace.specs.{Node}
use Rattle.plant_view.specs.{marks}
use Rattle.plant_requirements.proofs.MarksByRecall.{marks_longer}
use Rattle.plant_requirements.proofs.marks.marks_within.Goals as goal

pub loop-recall-init : goal.loop-recall-init
unfolding marks
loop-recall-init c = record { same = c.in_ok-edges.ensures; first = c.new-all.ensures.empty }

pub loop-recall-preserved : goal.loop-recall-preserved
loop-recall-preserved c =
    let prefix = take c.loop-recall.recall-index c.args.recalls.now in
    let r = c.recall-item.result in
    let inv = c.loop-recall.invariant in
    let more : take (c.loop-recall.recall-index + 1) c.args.recalls.now ≡ prefix ++ r ∷ [] = search (rules, take_more) in
    record {
      same = c.in_ok-mark_reached.ensures.same ∙ inv.same;
      first = c.in_ok-mark_reached.ensures.marks prefix (inv.first ∙ ap (λ (ps : List (Node × Node)). marks prefix ps) (sym inv.same)) ∙ (λ i. marks (sym more i) (inv.same i));
    }

pub returns-then-len-most : goal.returns-then-len-most
returns-then-len-most c =
    let n = c.loop-recall.recall-index + 1 in
    let recalls = c.args.recalls.now in
    let prefix = take c.loop-recall.recall-index recalls in
    let r = c.recall-item.result in
    let inv = c.loop-recall.invariant in
    let more : take (c.loop-recall.recall-index + 1) recalls ≡ prefix ++ r ∷ [] = search (rules, take_more) in
    let keys : c.mark_reached.new.all.keys ≡ marks (take n recalls) c.args.pairs.now = c.in_ok-mark_reached.ensures.marks prefix (inv.first ∙ ap (λ (ps : List (Node × Node)). marks prefix ps) (sym inv.same)) ∙ (λ i. marks (sym more i) (inv.same i)) in
    let all : length (marks (take n recalls ++ drop n recalls) c.args.pairs.now) ≡ length (marks recalls c.args.pairs.now) = ap (λ (rs : List Recall). length (marks rs c.args.pairs.now)) (take-append-drop n recalls) in
    let found = ap (λ (ms : List Mark). length ms) keys in
    omega (arith, marks_longer c.args.pairs.now (take n recalls) (drop n recalls), all, found, c.len.ensures.len, c.if-len-most.true)
