-- Calls of a source, one after another.
use Rattle.plant_trace.specs.HoldsIfHonest.{HoldsIfHonest}

module _ {S : Type 0} {honest : S → Type 0} {kept frame : S → S → Type 0} where
  -- a call after others
  pub HoldsIfHonest-then : {s t u : S} {P Q R : Type 0} (along : (s t u : S) → kept s t → kept t u → kept s u) (steadily : (s t u : S) → frame s t → frame t u → frame s u) → HoldsIfHonest honest kept frame s t P → HoldsIfHonest honest kept frame t u Q → (kept s t → P → Q → R) → HoldsIfHonest honest kept frame s u R
  HoldsIfHonest-then {s} {t} {u} along steadily a b f = record {
    always = steadily s t u a.always b.always;
    before = λ h. a.before (b.before h);
    same = λ h. along s t u (a.same (b.before h)) (b.same h);
    holds = λ h. f (a.same (b.before h)) (a.holds (b.before h)) (b.holds h);
  }

  -- a weaker fact
  pub HoldsIfHonest-weaker : {s t : S} {P Q : Type 0} → (P → Q) → HoldsIfHonest honest kept frame s t P → HoldsIfHonest honest kept frame s t Q
  HoldsIfHonest-weaker f a = record { always = a.always; before = a.before; same = a.same; holds = λ h. f (a.holds h) }
