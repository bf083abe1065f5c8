-- Facts of calls that only read, one after another.
use Rattle.plant_trace.specs.HoldsIfHonest.{HoldsIfHonest}
use Rattle.plant_trace.proofs.HoldsIfHonest.{HoldsIfHonest-then}

module _ {S : Type 0} {honest : S → Type 0} {kept frame : S → S → Type 0} where
  -- what held where this does, and what a further call says
  pub and_too : {s t u : S} {D P Q R : Type 0} (along : (s t u : S) → kept s t → kept t u → kept s u) (steadily : (s t u : S) → frame s t → frame t u → frame s u) → HoldsIfHonest honest kept frame s t (D → P) → HoldsIfHonest honest kept frame t u Q → (kept s t → Q → D → R) → HoldsIfHonest honest kept frame s u (D → P × R)
  and_too along steadily a b f = HoldsIfHonest-then along steadily a b (λ k p q sound. (p sound, f k q sound))
