-- The parts of a path are the members of a question in their order.
use Rattle.std.proofs.Common.{◌≡◌, ℕ, List, [], ◌∷◌, length, Option, refl, subst}
use Rattle.std.specs.Prelude.{get_or}
use Rattle.plant_json_in.specs.{Member, QuestionKind, field_of_part, question_members, question_of_parts}
use Rattle.plant_json_in.specs.Questions.{question_of_members, two_parts}

of_two : (kind : QuestionKind) (ms : List Member) (a b : Member) (first second : Option (List ℕ)) → length ms ≡ 2 → two_parts kind (field_of_part (get_or ms 0 a) first) (field_of_part (get_or ms 1 b) second) ≡ question_of_members kind ms first second
of_two kind (one ∷ other ∷ []) a b first second two = refl
of_two kind [] a b first second two = absurd (cc)
of_two kind (one ∷ []) a b first second two = absurd (cc)
of_two kind (one ∷ other ∷ third ∷ rest) a b first second two = absurd (cc)

-- of a question of two members
pub two_in_order : (kind : QuestionKind) (ms : List Member) (a b : Member) (first second : Option (List ℕ)) → ms ≡ question_members kind → length ms ≡ 2 → two_parts kind (field_of_part (get_or ms 0 a) first) (field_of_part (get_or ms 1 b) second) ≡ question_of_parts kind first second
two_in_order kind ms a b first second are two = subst (λ (xs : List Member). two_parts kind (field_of_part (get_or ms 0 a) first) (field_of_part (get_or ms 1 b) second) ≡ question_of_members kind xs first second) are (of_two kind ms a b first second two)
