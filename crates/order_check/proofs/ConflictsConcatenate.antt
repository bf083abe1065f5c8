-- The conflicts of orders, one order after the other.
use Rattle.std.proofs.Common.{◌≡◌, ◌∙◌, ◌+◌, ◌<◌, ℕ, length, take, get_or, List, [], ◌∷◌, ◌++◌, ap, sym, append-nil, append_assoc}
use Rattle.std.proofs.lemmas.List.{take_more}
use Rattle.plant_orders.specs.{NumberedOrder}
use Rattle.order_check.specs.{conflict_in, conflicts_among}
use Rattle.order_check.specs.declared.conflicts.Conflict.{Conflict}

conflicts_more : (orders some : List NumberedOrder) (o : NumberedOrder) → conflicts_among orders (some ++ o ∷ []) ≡ conflicts_among orders some ++ conflict_in orders o
conflicts_more orders [] o = append-nil (conflict_in orders o)
conflicts_more orders (p ∷ some) o =
    ap (λ cs. conflict_in orders p ++ cs) (conflicts_more orders some o)
    ∙ sym (append_assoc (conflict_in orders p) (conflicts_among orders some) (conflict_in orders o))

pub conflicts_added : (orders some : List NumberedOrder) (i : ℕ) (d : NumberedOrder) (before now : List Conflict) → i < length some
    → before ≡ conflicts_among orders (take i some) → now ≡ before ++ conflict_in orders (get_or some i d) → now ≡ conflicts_among orders (take (i + 1) some)
conflicts_added orders some i d before now within so_far added =
    added ∙ ap (λ (cs : List Conflict). cs ++ conflict_in orders (get_or some i d)) so_far
    ∙ sym (ap (conflicts_among orders) (take_more some i d within) ∙ conflicts_more orders (take i some) (get_or some i d))
