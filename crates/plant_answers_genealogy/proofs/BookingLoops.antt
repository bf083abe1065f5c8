-- The turns of the loops that gather what is booked.
use Rattle.std.proofs.Common.{◌≡◌, ◌∙◌, ℕ, ◌+◌, ◌<◌, Bool, true, false, cond, List, [], ◌∷◌, ◌++◌, Option, option_to_list, length, take, get_or, refl, sym, ap, append_assoc, ◌||◌, BTreeSet, filter_map, flat_map, is_eq, append-nil}
use Rattle.std.specs.BTreeSet.{contains, Updates}
use Rattle.std.specs.List.{list_any}
use Rattle.std.proofs.lemmas.List.{take_more}
use Rattle.std.proofs.lemmas.List.Concat.{flat_map-append}
use Rattle.std.proofs.lemmas.List.Folds.{list_any_more}
use Rattle.plant_trace.specs.{node_cmp, node_eq, node_ties, Node}
use Rattle.plant_answers_genealogy.specs.{IsSetOf}
use Rattle.plant_answers_genealogy.proofs.BatchMovementsSuffice.{reported_more}

-- a node more in a set
or_last : (b c : Bool) → cond b true c ≡ (c || b)
or_last true true = refl
or_last true false = refl
or_last false true = refl
or_last false false = refl

pub set_more : (nodes : List Node) (i : ℕ) (x : Node) (old new : BTreeSet Node) → i < length nodes → x ≡ get_or nodes i x → Updates node_cmp old new x true → IsSetOf (take i nodes) old → IsSetOf (take (i + 1) nodes) new
set_more nodes i x old new l at updates has y =
    updates.0 y
    ∙ or_last (is_eq (node_cmp x y)) (contains node_cmp old y)
    ∙ (λ j. has y j || sym (node_ties x y) j)
    ∙ ap (λ (z : Node). list_any (λ q. node_eq q y) (take i nodes) || node_eq z y) at
    ∙ sym (list_any_more (λ (q : Node). node_eq q y) nodes i x l)

-- one more row after others, where one is reported
pub pushed_more : {X Y : Type 0} (h : X → Option Y) (xs : List X) (i : ℕ) (x : X) (prefix ys : List Y) (o : Option Y) → i < length xs → x ≡ get_or xs i x → o ≡ h x → ys ≡ prefix ++ filter_map h (take i xs) → ys ++ option_to_list o ≡ prefix ++ filter_map h (take (i + 1) xs)
pushed_more h xs i x prefix ys o l at is e =
    ap (λ (zs : List _). zs ++ option_to_list o) e
    ∙ append_assoc prefix (filter_map h (take i xs)) (option_to_list o)
    ∙ ap (λ (zs : List _). prefix ++ zs) (reported_more h xs i x (filter_map h (take i xs)) o l at is refl)

-- the rows of one more
pub joined_more : {X Y : Type 0} (h : X → List Y) (xs : List X) (i : ℕ) (x : X) (ys zs : List Y) → i < length xs → x ≡ get_or xs i x → zs ≡ h x → ys ≡ flat_map h (take i xs) → ys ++ zs ≡ flat_map h (take (i + 1) xs)
joined_more h xs i x ys zs l at is e =
    let longer : take (i + 1) xs ≡ take i xs ++ x ∷ [] = take_more xs i x l ∙ ap (λ q. take i xs ++ q ∷ []) (sym at) in
    (λ j. e j ++ is j) ∙ sym (ap (flat_map h) longer ∙ flat_map-append h (take i xs) (x ∷ []) ∙ ap (λ (ws : List _). flat_map h (take i xs) ++ ws) (append-nil (h x)))
