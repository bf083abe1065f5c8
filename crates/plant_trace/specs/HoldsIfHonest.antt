-- What calls of a source say.
use Rattle.std.specs.Prelude.{◌≡◌}
use Rattle.std.proofs.Common.{◌∙◌}

-- Where the source ends honest, it was so before, it kept what it keeps, and the fact holds. What is steady stays in any case.
pub record HoldsIfHonest {S : Type 0} (honest : S → Type 0) (kept frame : S → S → Type 0) (old new : S) (fact : Type 0) : Type 0 where
  pub always : frame old new
  pub before : honest new → honest old
  pub same : honest new → kept old new
  pub holds : honest new → fact

-- for a source whose value stays
pub same_along : {X : Type 0} {a b c : X} → b ≡ a → c ≡ b → c ≡ a
same_along p q = q ∙ p
