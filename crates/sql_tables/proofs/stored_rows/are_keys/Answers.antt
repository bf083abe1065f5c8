use Rattle.std.proofs.Common.{◌≡◌, refl, length, arith, Bor, List, ℕ}
use Rattle.sql_tables.proofs.ListsAgree.{same_map}
use Rattle.sql_tables.proofs.stored_rows.are_keys.Goals as goal

pub returns : goal.returns
returns c =
    let len : length c.args.uniques.now ≡ length c.args.keys.now = omega arith in
    (λ _. same_map (λ (key : Bor (List ℕ)). key.now) c.args.uniques.now c.args.keys.now len (λ k d e low. c.loop-at.invariant k d e (omega arith)), λ _. refl)
