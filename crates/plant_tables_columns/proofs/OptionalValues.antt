-- Options, and values that obey a rule.
use Rattle.std.proofs.Common.{◌≡◌, refl, subst, Bool, true, false, Option, Some, None, option_map, if◌then◌else◌, option_and_then, is_none}
use Rattle.plant_base.specs.{only}

pub bound : {A B : Type 0} (o : Option A) (f : A → Option B) (y : B) → option_and_then f o ≡ Some y → (x : A) × (o ≡ Some x) × (f x ≡ Some y)
bound None f y h = absurd (cc)
bound (Some x) f y h = (x, refl, h)

pub mapped : {A B : Type 0} (f : A → B) (o : Option A) (y : B) → option_map f o ≡ Some y → (x : A) × (o ≡ Some x) × (f x ≡ y)
mapped f None y h = absurd (cc)
mapped f (Some x) y h = (x, refl, cc)

pub some_same : {A : Type 0} (x y : A) → Some x ≡ Some y → x ≡ y
some_same x y h = cc

pub where_true : {A : Type 0} (test : Bool) (o : Option A) (y : A) → (if test then o else None) ≡ Some y → (test ≡ true) × (o ≡ Some y)
where_true true o y h = (refl, h)
where_true false o y h = absurd (cc)

pub is_nothing : {A : Type 0} (o : Option A) → is_none o ≡ true → o ≡ None
is_nothing None h = refl
is_nothing (Some x) h = absurd (cc)

pub only_back : {A : Type 0} (obeys : A → Bool) (x y : A) → only obeys x ≡ Some y → (x ≡ y) × (obeys y ≡ true)
only_back {A} obeys x y h = elim (obeys x) as (λ b. obeys x ≡ b → (if b then Some x else None) ≡ Some y → (x ≡ y) × (obeys y ≡ true)) [
  | true ↦ λ e f. let same : x ≡ y = cc in (same, subst (λ v. obeys v ≡ true) same e)
  | false ↦ λ e f. absurd (cc)
] refl h

pub only_again : {A : Type 0} (obeys : A → Bool) (x : A) → obeys x ≡ true → only obeys x ≡ Some x
only_again obeys x valid = rw valid refl
