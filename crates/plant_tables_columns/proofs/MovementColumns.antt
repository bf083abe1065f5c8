-- What a movement's kind asks of its columns, and the movement of a row that has them.
use Rattle.std.proofs.Common.{◌≡◌, refl, ap, ◌∙◌, subst, ℕ, List, true, ◌&&◌, Option, Some, None, eqb-true, is_none}
use Rattle.std.proofs.lemmas.Bool.{and_parts}
use Rattle.plant_base.specs.{Movement, MovementKind}
use Rattle.plant_base.specs.declared.rows.MovementKind.TheVariants as kind
use Rattle.plant_view.proofs.ListLemmas.{same_id, same_itself}
use Rattle.plant_tables_columns.specs.{names_nothing, batch_named, lot_named, is_lot, sublot_named, kind_of_code, kind_from, moved_as, movement_from, code_of, other_lot, other_sublot, booked_of}
use Rattle.plant_tables_columns.specs.Booked.{is_zero}
use Rattle.plant_view.specs.{batch_by}
use Rattle.plant_tables_columns.specs.declared.booked.MovementKindCode.{MovementKindCode}
use Rattle.plant_tables_columns.specs.declared.booked.MovementKindCode.TheVariants as kind_code
use Rattle.plant_tables_columns.specs.declared.booked.BookedRow.{BookedRow}
use Rattle.plant_tables_columns.proofs.OptionalValues.{mapped, some_same, where_true, is_nothing}

number_zero : (o : Option ℕ) → is_zero o ≡ true → o ≡ Some 0
number_zero None h = absurd (cc)
number_zero (Some n) h = ap Some (eqb-true n 0 h)

own_lot : (lot : List ℕ) (o : Option (List ℕ)) → is_lot lot o ≡ true → o ≡ Some lot
own_lot lot None h = absurd (cc)
own_lot lot (Some other) h = ap Some (same_id other lot h)

-- what is asked of the columns
pub record Names (r : BookedRow) (lot : Option (List ℕ)) (sub : Option ℕ) (batch : Option (List ℕ)) : Type 0 where
  pub other_lot : r.lot2 ≡ lot
  pub other_sub : r.sub2 ≡ sub
  pub its_batch : r.batch ≡ batch

pub nothing_named : (r : BookedRow) → names_nothing r ≡ true → Names r None None None
nothing_named r h =
    let outer = and_parts (is_none r.lot2 && is_none r.sub2) (is_none r.batch) h in
    let inner = and_parts (is_none r.lot2) (is_none r.sub2) outer.0 in
    record { other_lot = is_nothing r.lot2 inner.0; other_sub = is_nothing r.sub2 inner.1; its_batch = is_nothing r.batch outer.1 }

pub one_batch : (r : BookedRow) (batch : List ℕ) → batch_named r ≡ Some batch → Names r None None (Some batch)
one_batch r batch h =
    let parts = where_true (is_none r.lot2 && is_none r.sub2) r.batch batch h in
    let inner = and_parts (is_none r.lot2) (is_none r.sub2) parts.0 in
    record { other_lot = is_nothing r.lot2 inner.0; other_sub = is_nothing r.sub2 inner.1; its_batch = parts.1 }

pub one_lot : (r : BookedRow) (to : List ℕ) → lot_named r ≡ Some to → Names r (Some to) (Some 0) None
one_lot r to h =
    let parts = where_true (is_zero r.sub2 && is_none r.batch) r.lot2 to h in
    let inner = and_parts (is_zero r.sub2) (is_none r.batch) parts.0 in
    record { other_lot = parts.1; other_sub = number_zero r.sub2 inner.0; its_batch = is_nothing r.batch inner.1 }

pub one_sublot : (r : BookedRow) (to : ℕ) → sublot_named r ≡ Some to → Names r (Some r.lot) (Some to) None
one_sublot r to h =
    let parts = where_true (is_lot r.lot r.lot2 && is_none r.batch) r.sub2 to h in
    let inner = and_parts (is_lot r.lot r.lot2) (is_none r.batch) parts.0 in
    record { other_lot = own_lot r.lot r.lot2 inner.0; other_sub = parts.1; its_batch = is_nothing r.batch inner.1 }

-- the row names what this kind asks for
pub record FitsKind (s : MovementKindCode) (r : BookedRow) (k : MovementKind) : Type 0 where
  pub is_kind_code : s ≡ code_of k
  pub names : Names r (other_lot k r.lot) (other_sublot k) (batch_by k)

kind_code_fits : (s : MovementKindCode) (r : BookedRow) (k : MovementKind) → kind_of_code s r ≡ Some k → FitsKind s r k
kind_code_fits kind_code.Received r k h =
    let parts = where_true (names_nothing r) (Some kind.Received) k h in
    subst (FitsKind kind_code.Received r) (some_same _ _ parts.1) (record { is_kind_code = refl; names = nothing_named r parts.0 })
kind_code_fits kind_code.Consumed r k h =
    let read = mapped kind.Consumed (batch_named r) k h in
    subst (FitsKind kind_code.Consumed r) read.2 (record { is_kind_code = refl; names = one_batch r read.0 read.1 })
kind_code_fits kind_code.Produced r k h =
    let read = mapped kind.Produced (batch_named r) k h in
    subst (FitsKind kind_code.Produced r) read.2 (record { is_kind_code = refl; names = one_batch r read.0 read.1 })
kind_code_fits kind_code.Scrapped r k h =
    let parts = where_true (names_nothing r) (Some kind.Scrapped) k h in
    subst (FitsKind kind_code.Scrapped r) (some_same _ _ parts.1) (record { is_kind_code = refl; names = nothing_named r parts.0 })
kind_code_fits kind_code.Divided r k h =
    let read = mapped kind.Divided (sublot_named r) k h in
    subst (FitsKind kind_code.Divided r) read.2 (record { is_kind_code = refl; names = one_sublot r read.0 read.1 })
kind_code_fits kind_code.Split r k h =
    let read = mapped kind.Split (lot_named r) k h in
    subst (FitsKind kind_code.Split r) read.2 (record { is_kind_code = refl; names = one_lot r read.0 read.1 })
kind_code_fits kind_code.Merged r k h =
    let read = mapped kind.Merged (lot_named r) k h in
    subst (FitsKind kind_code.Merged r) read.2 (record { is_kind_code = refl; names = one_lot r read.0 read.1 })

-- the row is the one that books its movement
pub movement_back : (r : BookedRow) (m : Movement) → movement_from r ≡ Some m → r ≡ booked_of m
unfolding movement_from
movement_back r m h =
    let read = mapped (moved_as r) (kind_from r) m h in
    let fits = kind_code_fits r.kind_code r read.0 read.1 in
    let named = fits.names in
    (λ i. record r { kind_code = fits.is_kind_code i; lot2 = named.other_lot i; sub2 = named.other_sub i; batch = named.its_batch i }) ∙ ap booked_of read.2

own_kind : (k : MovementKind) (r : BookedRow) → r.kind_code ≡ code_of k → r.lot2 ≡ other_lot k r.lot → r.sub2 ≡ other_sublot k → r.batch ≡ batch_by k → kind_from r ≡ Some k
own_kind (kind.Divided to) r s a b c = rw (s, a, b, c, same_itself r.lot) refl
own_kind _ r s a b c = rw (s, a, b, c) refl

-- the row that books a movement books it
pub movement_again : (m : Movement) → movement_from (booked_of m) ≡ Some m
unfolding movement_from
movement_again m = rw (own_kind m.kind (booked_of m) refl refl refl refl) refl
