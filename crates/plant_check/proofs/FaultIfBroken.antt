-- A fault is reported of a row exactly where it breaks its rule.
use Rattle.std.proofs.Common.{◌≡◌, ◌∙◌, Bool, true, false, List, [], ◌∷◌, map, Option, Some, None, refl, ap, ◌&&◌, is_none}
use Rattle.std.specs.List.{list_all}
use Rattle.plant_check.specs.{fault_unless, or_fault, first_reported, RowFault}

pub reported_none : (b : Bool) (f : RowFault) → is_none (fault_unless b f) ≡ b
reported_none true f = refl
reported_none false f = refl

-- two tests one after the other
pub two_none : (p q : Bool) (f g : RowFault) → is_none (or_fault (fault_unless p f) (fault_unless q g)) ≡ (p && q)
two_none true q f g = reported_none q g
two_none false q f g = refl

-- three
pub three_none : (p q r : Bool) (f g h : RowFault) → is_none (or_fault (fault_unless p f) (or_fault (fault_unless q g) (fault_unless r h))) ≡ (p && q && r)
three_none true q r f g h = two_none q r g h
three_none false q r f g h = refl

-- three, and then what is reported of another
pub after_three : (p q r s : Bool) (f g h : RowFault) (rest : Option RowFault) → is_none rest ≡ s
    → is_none (or_fault (fault_unless p f) (or_fault (fault_unless q g) (or_fault (fault_unless r h) rest))) ≡ (p && q && r && s)
after_three true true true s f g h rest e = e
after_three true true false s f g h rest e = refl
after_three true false r s f g h rest e = refl
after_three false q r s f g h rest e = refl

-- what is reported, and then two tests
pub then_two : (reported : Option RowFault) (k p q : Bool) (g h : RowFault) → is_none reported ≡ k → is_none (or_fault reported (or_fault (fault_unless p g) (fault_unless q h))) ≡ (k && p && q)
then_two None k p q g h e = two_none p q g h ∙ (λ i. e i && p && q)
then_two (Some f) k p q g h e = λ i. e i && p && q

pub both_none : (a b : Option RowFault) (p q : Bool) → is_none a ≡ p → is_none b ≡ q → is_none (or_fault a b) ≡ (p && q)
both_none None b p q e f = f ∙ (λ i. e i && q)
both_none (Some x) b p q e f = λ i. e i && q

-- what is reported three times
pub each_none : (a b c : Option RowFault) (p q r : Bool) → is_none a ≡ p → is_none b ≡ q → is_none c ≡ r → is_none (or_fault a (or_fault b c)) ≡ (p && q && r)
each_none None b c p q r e f g = both_none b c q r f g ∙ (λ i. e i && q && r)
each_none (Some x) b c p q r e f g = λ i. e i && q && r

-- what is reported, and then three times
pub then_each : (a b c d : Option RowFault) (p q r s : Bool) → is_none a ≡ p → is_none b ≡ q → is_none c ≡ r → is_none d ≡ s → is_none (or_fault a (or_fault b (or_fault c d))) ≡ (p && q && r && s)
then_each None b c d p q r s e f g h = each_none b c d q r s f g h ∙ (λ i. e i && q && r && s)
then_each (Some x) b c d p q r s e f g h = λ i. e i && q && r && s

-- none is reported of a list exactly where each of its elements passes
pub first_none : {R : Type 0} (fault_of : R → Option RowFault) (passes : R → Bool) → ((r : R) → is_none (fault_of r) ≡ passes r) → (rs : List R) → is_none (first_reported fault_of rs) ≡ list_all passes rs
first_none fault_of passes each [] = refl
first_none fault_of passes each (r ∷ rs) = both_none (fault_of r) (first_reported fault_of rs) (passes r) (list_all passes rs) (each r) (first_none fault_of passes each rs)

pub all_mapped : {X Y : Type 0} (p : Y → Bool) (f : X → Y) (xs : List X) → list_all (λ x. p (f x)) xs ≡ list_all p (map f xs)
all_mapped p f [] = refl
all_mapped p f (x ∷ xs) = ap (λ b. p (f x) && b) (all_mapped p f xs)
