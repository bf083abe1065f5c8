use Rattle.std.proofs.Common.{◌≡◌, ◌∙◌, ℕ, zero, suc, ◌<◌, List, [], ◌∷◌, Option, Some, None, drop, get_or, length, refl, sym, ap, arith, add-one}
use Rattle.plant_requirements.specs.{RowFault, first_reported, or_fault}
use Rattle.plant_requirements.proofs.first.first_of.Goals as goal

-- what is reported from a row on is its own fault, or else what is reported after it
from_row : {R : Type 0} (fault_of : R → Option RowFault) (rows : List R) (i : ℕ) (x : R) → i < length rows → x ≡ get_or rows i x
    → first_reported fault_of (drop i rows) ≡ or_fault (fault_of x) (first_reported fault_of (drop (suc i) rows))
from_row fault_of [] i x lt is = absurd (omega arith)
from_row fault_of (y ∷ ys) zero x lt is = λ k. or_fault (fault_of (sym is k)) (first_reported fault_of ys)
from_row fault_of (y ∷ ys) (suc i) x lt is = from_row fault_of ys i x (omega arith) is

pub returns-in-Some : goal.returns-in-Some
returns-in-Some g c fault_of same =
    let rest = first_reported fault_of (drop (suc c.loop-row.row-index) c.args.rows.now) in
    ap (λ o. or_fault o rest) (same c.row-item.result (Some c.in-Some.found) (record { shown = _; shows = refl; says = record { met = c.in-Some.ensures } }))
    ∙ sym (from_row fault_of c.args.rows.now c.loop-row.row-index c.row-item.result (omega (arith, c.loop-row-test.true)) c.row-item.is)
    ∙ c.loop-row.invariant fault_of same

pub loop-row-preserved : goal.loop-row-preserved
loop-row-preserved g c fault_of same =
    let rest = first_reported fault_of (drop (suc c.loop-row.row-index) c.args.rows.now) in
    rw add-one
    (ap (λ o. or_fault o rest) (same c.row-item.result None (record { shown = _; shows = refl; says = record { met = c.in-None.ensures } }))
    ∙ sym (from_row fault_of c.args.rows.now c.loop-row.row-index c.row-item.result (omega (arith, c.loop-row-test.true)) c.row-item.is)
    ∙ c.loop-row.invariant fault_of same)
