-- Whether pairs lead round: the test and the least relation agree.
use Rattle.std.proofs.Common.{◌≡◌, ◌∙◌, Bool, true, false, List, [], ◌∷◌, refl, sym, ap, ◌↔◌, ◌&&◌, not, IsTrue}
use Rattle.std.specs.List.{list_all}
use Rattle.std.proofs.lemmas.Bool.{false≢true}
use Rattle.std.proofs.lemmas.List.Elements.{All-contains}
use Rattle.std.proofs.lemmas.List.Sums.{AllPass-from_list_all}
use Rattle.plant_trace.specs.{IsAcyclic, leads, Node}
use Rattle.plant_trace.proofs.AddingKeepsAcyclic.{first_edge}
use Rattle.plant_trace.proofs.LeadsIsReach.{leads_where_reached}
use Rattle.plant_check_rules.specs.{are_acyclic}

-- where no node leads to itself, none of a list does
none_leads : (pairs ps : List (Node × Node)) → ((x : Node) → leads pairs x x ≡ false) → list_all (λ p. not (leads pairs p.0 p.0)) ps ≡ true
none_leads pairs [] h = refl
none_leads pairs (p ∷ ps) h = ap (λ b. not b && list_all (λ q. not (leads pairs q.0 q.0)) ps) (h p.0) ∙ none_leads pairs ps h

not_both : (b : Bool) → b ≡ true → not b ≡ true → false ≡ true
not_both true e f = f
not_both false e f = e

of_acyclic : (pairs : List (Node × Node)) → IsAcyclic pairs → are_acyclic pairs ≡ true
of_acyclic pairs a = none_leads pairs pairs (λ x. never x (leads pairs x x) refl)
  where
    never : (x : Node) (b : Bool) → leads pairs x x ≡ b → b ≡ false
    never x true e = absurd (a x ((leads_where_reached pairs x x).0 e))
    never x false e = refl

pub to_acyclic : (pairs : List (Node × Node)) → are_acyclic pairs ≡ true → IsAcyclic pairs
to_acyclic pairs e x r =
    let f = first_edge r in
    let passes : not (leads pairs x x) ≡ true = All-contains (λ (p : Node × Node). not (leads pairs p.0 p.0) ≡ true) pairs (x, f.0) (AllPass-from_list_all (λ p. not (leads pairs p.0 p.0)) pairs e) f.1 in
    false≢true (not_both (leads pairs x x) ((leads_where_reached pairs x x).1 r) passes)

by_cases : (pairs : List (Node × Node)) (b c : Bool) → are_acyclic pairs ≡ c → (IsTrue b ↔ IsAcyclic pairs) → b ≡ c
by_cases pairs true true e h = refl
by_cases pairs true false e h = sym (of_acyclic pairs (h.0 refl)) ∙ e
by_cases pairs false true e h = h.1 (to_acyclic pairs e)
by_cases pairs false false e h = refl

pub acyclic_tested : (pairs : List (Node × Node)) (b : Bool) → (IsTrue b ↔ IsAcyclic pairs) → b ≡ are_acyclic pairs
acyclic_tested pairs b h = by_cases pairs b (are_acyclic pairs) refl h
