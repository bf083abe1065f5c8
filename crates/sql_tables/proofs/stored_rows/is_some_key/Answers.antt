use Rattle.std.proofs.Common.{refl, sym, subst, arith, Bor, List, ℕ, map}
use Rattle.sqlite_rules.specs.Lists.{Has}
use Rattle.sql_tables.proofs.ListsAgree.{has_image, image_none}
use Rattle.sql_tables.proofs.stored_rows.is_some_key.Goals as goal

pub returns-then-is_key : goal.returns-then-is_key
returns-then-is_key c =
    let hit = c.is_key.ensures.0 c.if-is_key.true in
    (λ _. subst (Has (map (λ (key : Bor (List ℕ)). key.now) c.args.keys.now)) (sym hit) (has_image (λ (key : Bor (List ℕ)). key.now) c.args.keys.now c.loop-key.key-index _ c.loop-key-test.true), λ _. refl)

pub returns : goal.returns
returns c = (λ no'. absurd cc, λ has. absurd (image_none (λ (key : Bor (List ℕ)). key.now) c.args.keys.now c.args.column_indexes.now (λ k d low same. c.loop-key.invariant k d (omega (arith, c.loop-key-test.false)) same) has))
