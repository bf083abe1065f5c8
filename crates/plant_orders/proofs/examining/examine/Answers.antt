use Rattle.std.proofs.Common.{◌≡◌, ◌++◌, ◌+◌, true, false, IfOk, refl, sym, subst, ap, ◌∙◌, arith, rules, [], ◌∷◌, append-nil}
use Rattle.csv.specs.Records.{fields_of}
use Rattle.csv.specs.Reading.{default_config, records_from}
use Rattle.plant_orders.specs.{whole_fault, faults_from, orders_from, faults_in, orders_in, faults_of, numbered_orders_of, is_header}
use Rattle.plant_orders.specs.declared.fault.CsvKind.TheVariants as kind
use Rattle.plant_orders.proofs.RowsFollowRecords.{next_found, next_gone, records-none, records-some, one_less}
use Rattle.plant_orders.proofs.RowsExamined.{short_faults, short_orders, good_header_faults, good_header_orders, bad_header_faults, bad_header_orders, over_faults, over_orders, faults_added, orders_added}
use Rattle.plant_orders.proofs.examining.examine.Goals as goal

pub returns-then-not-branch-clause-faults : goal.returns-then-not-branch-clause-faults
returns-then-not-branch-clause-faults c =
    let gone = next_gone _ _ _ _ (c.in_ok-next_row.ensures _ _ c.reader-reader.ensures) (search rules) in
    let same : faults_of c.args.bytes.now ≡ whole_fault 0 kind.Header ∷ [] = short_faults c.args.bytes.now (omega arith) ∙ rw (records-none 1001 _ _ gone) refl in
    subst (λ x. IfOk c.alone-then-not-branch.result (λ examined. examined.faults ≡ x)) (sym same) c.alone-then-not-branch.ensures.faults

pub returns-then-not-branch-clause-orders : goal.returns-then-not-branch-clause-orders
returns-then-not-branch-clause-orders c =
    let gone = next_gone _ _ _ _ (c.in_ok-next_row.ensures _ _ c.reader-reader.ensures) (search rules) in
    let same : numbered_orders_of c.args.bytes.now ≡ [] = short_orders c.args.bytes.now (omega arith) ∙ rw (records-none 1001 _ _ gone) refl in
    subst (λ x. IfOk c.alone-then-not-branch.result (λ examined. examined.orders ≡ x)) (sym same) c.alone-then-not-branch.ensures.orders

pub returns-then-not-is_header-clause-faults : goal.returns-then-not-is_header-clause-faults
returns-then-not-is_header-clause-faults c =
    let (p, e, fields, after) = next_found _ _ _ _ (c.in_ok-next_row.ensures _ _ c.reader-reader.ensures) (search rules) in
    let no : is_header (fields_of c.next_row.new.row) ≡ false = search rules in
    subst (λ x. IfOk c.alone-then-not-is_header.result (λ examined. examined.faults ≡ x))
    (sym (short_faults c.args.bytes.now (omega arith) ∙ ap faults_in (records-some 1001 _ _ p e) ∙ bad_header_faults _ _ (rw fields at no))) c.alone-then-not-is_header.ensures.faults

pub returns-then-not-is_header-clause-orders : goal.returns-then-not-is_header-clause-orders
returns-then-not-is_header-clause-orders c =
    let (p, e, fields, after) = next_found _ _ _ _ (c.in_ok-next_row.ensures _ _ c.reader-reader.ensures) (search rules) in
    let no : is_header (fields_of c.next_row.new.row) ≡ false = search rules in
    subst (λ x. IfOk c.alone-then-not-is_header.result (λ examined. examined.orders ≡ x))
    (sym (short_orders c.args.bytes.now (omega arith) ∙ ap orders_in (records-some 1001 _ _ p e) ∙ bad_header_orders _ _ (rw fields at no))) c.alone-then-not-is_header.ensures.orders

pub loop-n-init : goal.loop-n-init
loop-n-init c =
    let (p, e, fields, after) = next_found _ _ _ _ (c.in_ok-next_row.ensures _ _ c.reader-reader.ensures) (search rules) in
    let yes : is_header (fields_of c.next_row.new.row) ≡ true = search rules in (
      p.1,
      p.2,
      1000,
      refl,
      after,
      short_faults c.args.bytes.now (omega arith) ∙ ap faults_in (records-some 1001 _ _ p e) ∙ good_header_faults _ _ (rw fields at yes) ∙ rw c.new.ensures.items refl,
      short_orders c.args.bytes.now (omega arith) ∙ ap orders_in (records-some 1001 _ _ p e) ∙ good_header_orders _ _ (rw fields at yes) ∙ rw c.new-2.ensures.items refl,
    )

pub returns-then-not-branch-2-clause-faults : goal.returns-then-not-branch-2-clause-faults
returns-then-not-branch-2-clause-faults c =
    let (s, text, k, size, represents, faults, orders) = c.loop-n.invariant in
    let gone = next_gone _ _ _ _ (c.in_ok-next_row-2.ensures _ _ represents) (search rules) in
    c.examined_of.ensures.faults ∙ sym (faults ∙ ap (λ r. c.loop-n.lists.faults.items ++ faults_from c.loop-n.n r) (records-none k s text gone) ∙ append-nil c.loop-n.lists.faults.items)

pub returns-then-not-branch-2-clause-orders : goal.returns-then-not-branch-2-clause-orders
returns-then-not-branch-2-clause-orders c =
    let (s, text, k, size, represents, faults, orders) = c.loop-n.invariant in
    let gone = next_gone _ _ _ _ (c.in_ok-next_row-2.ensures _ _ represents) (search rules) in
    c.examined_of.ensures.orders ∙ sym (orders ∙ ap (λ r. c.loop-n.lists.orders.items ++ orders_from c.loop-n.n r) (records-none k s text gone) ∙ append-nil c.loop-n.lists.orders.items)

pub loop-n-preserved : goal.loop-n-preserved
loop-n-preserved c =
    let (s, text, k, size, represents, faults, orders) = c.loop-n.invariant in
    let (p, e, fields, after) = next_found _ _ _ _ (c.in_ok-next_row-2.ensures _ _ represents) (search rules) in
    let (j, is) = one_less c.loop-n.n k 1000 size (omega arith) in (
      p.1,
      p.2,
      j,
      omega arith,
      after,
      faults ∙ ap (λ r. c.loop-n.lists.faults.items ++ faults_from c.loop-n.n r) (records-some k s text p e)
          ∙ faults_added c.loop-n.n p.0 _ c.loop-n.lists.faults.items _ (omega arith) (rw fields at c.in_ok-add_row.ensures.faults)
          ∙ ap (λ x. c.add_row.new.lists.faults.items ++ faults_from (c.loop-n.n + 1) (records_from default_config x p.1 p.2)) is,
      orders ∙ ap (λ r. c.loop-n.lists.orders.items ++ orders_from c.loop-n.n r) (records-some k s text p e)
          ∙ orders_added c.loop-n.n p.0 _ c.loop-n.lists.orders.items _ (omega arith) (rw fields at c.in_ok-add_row.ensures.orders)
          ∙ ap (λ x. c.add_row.new.lists.orders.items ++ orders_from (c.loop-n.n + 1) (records_from default_config x p.1 p.2)) is,
    )

pub returns-then-branch-clause-faults : goal.returns-then-branch-clause-faults
returns-then-branch-clause-faults c =
    let (s, text, k, size, represents, faults, orders) = c.loop-n.invariant in
    let (p, e, fields, after) = next_found _ _ _ _ (c.in_ok-next_row-3.ensures _ _ represents) (search rules) in
    subst (λ x. IfOk c.too_many.result (λ examined. examined.faults ≡ x))
    (sym (faults ∙ ap (λ r. c.loop-n.lists.faults.items ++ faults_from c.loop-n.n r) (records-some k s text p e)
    ∙ ap (λ fs. c.loop-n.lists.faults.items ++ fs) (over_faults c.loop-n.n p.0 _ (omega arith)))) c.too_many.ensures.faults

pub returns-then-branch-clause-orders : goal.returns-then-branch-clause-orders
returns-then-branch-clause-orders c =
    let (s, text, k, size, represents, faults, orders) = c.loop-n.invariant in
    let (p, e, fields, after) = next_found _ _ _ _ (c.in_ok-next_row-3.ensures _ _ represents) (search rules) in
    subst (λ x. IfOk c.too_many.result (λ examined. examined.orders ≡ x))
    (sym (orders ∙ ap (λ r. c.loop-n.lists.orders.items ++ orders_from c.loop-n.n r) (records-some k s text p e)
    ∙ ap (λ os. c.loop-n.lists.orders.items ++ os) (over_orders c.loop-n.n p.0 _ (omega arith)) ∙ append-nil c.loop-n.lists.orders.items)) c.too_many.ensures.orders

pub returns-clause-faults : goal.returns-clause-faults
returns-clause-faults c =
    let (s, text, k, size, represents, faults, orders) = c.loop-n.invariant in
    let gone = next_gone _ _ _ _ (c.in_ok-next_row-3.ensures _ _ represents) (search rules) in
    c.examined_of-2.ensures.faults ∙ sym (faults ∙ ap (λ r. c.loop-n.lists.faults.items ++ faults_from c.loop-n.n r) (records-none k s text gone) ∙ append-nil c.loop-n.lists.faults.items)

pub returns-clause-orders : goal.returns-clause-orders
returns-clause-orders c =
    let (s, text, k, size, represents, faults, orders) = c.loop-n.invariant in
    let gone = next_gone _ _ _ _ (c.in_ok-next_row-3.ensures _ _ represents) (search rules) in
    c.examined_of-2.ensures.orders ∙ sym (orders ∙ ap (λ r. c.loop-n.lists.orders.items ++ orders_from c.loop-n.n r) (records-none k s text gone) ∙ append-nil c.loop-n.lists.orders.items)
