-- Lines and progresses that `==` calls equal are one.
use denote.Enum.Bare.{same_true}
use Rattle.plant_base.specs.contracts.states.BatchState.{the_type}
use Rattle.std.proofs.Common.{rules, ◌≡◌, true, List, [], ◌∷◌, Option, Some, None, refl, ap, eqb-true, ◌&&◌, ◌==◌}
use Rattle.std.proofs.Math.Bool.{beq}
use Rattle.std.specs.Cmp.{booleans_Decides}
use Rattle.std.specs.Cmp.Lexicographic.{pointwise}
use Rattle.std.proofs.lemmas.Bool.{false≢true, and_parts}
use Rattle.plant_base.specs.{same, RecipeLine}
use Rattle.plant_base.specs.contracts.rows.RecipeLinePartialEq.TheImpl.{ghosts as equal}
use Rattle.plant_base.specs.contracts.states.BatchStatePartialEq.TheImpl.{ghosts as equal_state}
use Rattle.plant_base.specs.declared.rows.RecipeLine.TheVariants as line
use Rattle.plant_view.proofs.ListLemmas.{same_id, same_key}
use Rattle.plant_recipe.specs.contracts.progress.ProgressPartialEq.TheImpl.{ghosts as equal_progress}
use Rattle.plant_recipe.specs.declared.progress.Progress.{Progress}
use Rattle.plant_requirements.specs.{is_control}

-- ---- lines

one_line : (a b : RecipeLine) → equal.eq a b ≡ true → a ≡ b
one_line (line.In d m) (line.In e n) h = let k = same_key d e m n h in λ i. line.In (k.0 i) (k.1 i)
one_line (line.Out d m) (line.Out e n) h = let k = same_key d e m n h in λ i. line.Out (k.0 i) (k.1 i)
one_line (line.Parameter a x) (line.Parameter b y) h = let k = and_parts (same a b) (same x y) h in λ i. line.Parameter (same_id a b k.0 i) (same_id x y k.1 i)
one_line (line.Phase a x u) (line.Phase b y v) h =
    let k = and_parts (same a b) (same x y && same u v) h in
    let l = and_parts (same x y) (same u v) k.1 in
    λ i. line.Phase (same_id a b k.0 i) (same_id x y l.0 i) (same_id u v l.1 i)
one_line a b h = absurd (false≢true h)

one_list : (a b : List RecipeLine) → pointwise equal.eq a b ≡ true → a ≡ b
one_list [] [] h = refl
one_list [] (y ∷ ys) h = absurd (false≢true h)
one_list (x ∷ xs) [] h = absurd (false≢true h)
one_list (x ∷ xs) (y ∷ ys) h = let k = and_parts (equal.eq x y) (pointwise equal.eq xs ys) h in λ i. one_line x y k.0 i ∷ one_list xs ys k.1 i

-- the lines are those of the control recipe
pub control_is : (o : Option (List RecipeLine)) (lines : List RecipeLine) → is_control o lines ≡ true → o ≡ Some lines
control_is None lines h = absurd (false≢true h)
control_is (Some control) lines h = ap Some (one_list control lines h)

-- ---- progresses

pub one_progress : (p q : Progress) → equal_progress.eq p q ≡ true → p ≡ q
one_progress p q h =
    let last = p.next == q.next && beq p.closed q.closed in
    let k = and_parts (equal_state.eq p.state q.state) (p.attempt == q.attempt && last) h in
    let l = and_parts (p.attempt == q.attempt) last k.1 in
    let m = and_parts (p.next == q.next) (beq p.closed q.closed) l.1 in
    let state : p.state ≡ q.state = same_true the_type (search rules) p.state q.state k.0 in
    λ i. record { state = state i; attempt = eqb-true p.attempt q.attempt l.0 i; next = eqb-true p.next q.next m.0 i; closed = (booleans_Decides p.closed q.closed).0 m.1 i }
