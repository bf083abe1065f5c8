-- No fault is reported exactly where what it is about holds: of requirements, of two reports, of each row of a list.
use Rattle.std.proofs.Common.{◌≡◌, ◌∙◌, Bool, true, false, List, [], ◌∷◌, Option, Some, None, is_none, refl, sym, ◌&&◌, Decides}
use Rattle.std.specs.List.{AllByRecursion, list_all}
use Rattle.std.proofs.lemmas.Bool.Decides.{Decides-and}
use Rattle.plant_requirements.specs.{Requirement, first_unmet, or_fault, fault_unless, first_reported, RowFault}

none_unless : (b : Bool) (f : RowFault) → is_none (fault_unless b f) ≡ b
none_unless true f = refl
none_unless false f = refl

none_of_two : (a b : Option RowFault) → is_none (or_fault a b) ≡ (is_none a && is_none b)
none_of_two None b = refl
none_of_two (Some f) b = refl

-- one requirement and more
pub none_unmet : (rs : List Requirement) → is_none (first_unmet rs) ≡ list_all (λ r. r.0) rs
none_unmet [] = refl
none_unmet (r ∷ rs) = none_of_two (fault_unless r.0 r.1) (first_unmet rs) ∙ (λ i. none_unless r.0 r.1 i && none_unmet rs i)

by_none : {a : Bool} {b : Bool} {P : Type 0} → a ≡ b → Decides b P → Decides a P
by_none e d = ((λ h. d.0 (sym e ∙ h)), (λ p. e ∙ d.1 p))

-- of requirements: each is met
pub met_exact : {P : Type 0} (rs : List Requirement) → Decides (list_all (λ r. r.0) rs) P → Decides (is_none (first_unmet rs)) P
met_exact rs d = by_none (none_unmet rs) d

-- where no requirement is left
pub no_more : Decides true Unit
no_more = ((λ e. tt), (λ u. refl))

-- of one fault
pub unless_exact : {P : Type 0} (b : Bool) (f : RowFault) → Decides b P → Decides (is_none (fault_unless b f)) P
unless_exact b f d = by_none (none_unless b f) d

-- of one report and then another
pub or_exact : {P Q : Type 0} (a b : Option RowFault) → Decides (is_none a) P → Decides (is_none b) Q → Decides (is_none (or_fault a b)) (P × Q)
or_exact a b p q = by_none (none_of_two a b) (Decides-and (is_none a) (is_none b) p q)

-- of each row
pub rows_exact : {R : Type 0} (fault_of : R → Option RowFault) (P : R → Type 0) → ((r : R) → Decides (is_none (fault_of r)) (P r)) → (rs : List R) → Decides (is_none (first_reported fault_of rs)) (AllByRecursion P rs)
rows_exact fault_of P each [] = ((λ e. tt), (λ a. refl))
rows_exact fault_of P each (r ∷ rs) = or_exact (fault_of r) (first_reported fault_of rs) (each r) (rows_exact fault_of P each rs)
