use Rattle.std.proofs.Common.{◌≡◌, suc, ◌+◌, [], ◌∷◌, ◌++◌, true, false, Ok, Err, refl, sym, ap, ◌∙◌, arith, rules, is_ok}
use Rattle.csv.specs.Records.{fields_of}
use Rattle.csv.specs.Reading.{default_config, records_from}
use Rattle.plant_orders.specs.{fault, rows_of, file_of, is_header, order_of}
use Rattle.plant_orders.proofs.RowsFollowRecords.{with_prefix, next_found, next_gone, records-none, records-some, prefix-nil, prefix-more, rows-ok, rows-err, rows-over, one_less, fails_as, not_memory, short_text, past_header, bad_header, no_prefix, gives_memory}
use Rattle.plant_orders.proofs.read.read_orders.Goals as goal

pub returns-then-not-branch : goal.returns-then-not-branch
returns-then-not-branch c =
    let gone = next_gone _ _ _ _ (c.in_ok-next.ensures.reads _ _ c.reader-reader.ensures) (search rules) in
    short_text c.args.bytes.now (omega arith) ∙ rw (records-none 1001 _ _ gone) refl

pub returns-then-not-is_header : goal.returns-then-not-is_header
returns-then-not-is_header c =
    let (p, e, fields, represents) = next_found _ _ _ _ (c.in_ok-next.ensures.reads _ _ c.reader-reader.ensures) (search rules) in
    let no : is_header (fields_of c.next.new.row) ≡ false = search rules in
    short_text c.args.bytes.now (omega arith) ∙ ap file_of (records-some 1001 _ _ p e) ∙ bad_header _ _ (rw fields at no)

pub loop-n-init : goal.loop-n-init
loop-n-init c =
    let (p, e, fields, represents) = next_found _ _ _ _ (c.in_ok-next.ensures.reads _ _ c.reader-reader.ensures) (search rules) in
    let yes : is_header (fields_of c.next.new.row) ≡ true = search rules in (
      p.1,
      p.2,
      1000,
      refl,
      represents,
      short_text c.args.bytes.now (omega arith) ∙ ap file_of (records-some 1001 _ _ p e) ∙ past_header _ _ (rw fields at yes) ∙ rw c.new-orders.ensures.items (sym (no_prefix _)),
    )

pub returns-then-not-branch-2 : goal.returns-then-not-branch-2
returns-then-not-branch-2 c =
    let (s, text, k, size, represents, reported) = c.loop-n.invariant in
    let gone = next_gone _ _ _ _ (c.in_ok-next-2.ensures.reads _ _ represents) (search rules) in
    reported ∙ (rw (records-none k s text gone, c.new.ensures) (prefix-nil c.loop-n.orders.items))

pub returns-in-Err : goal.returns-in-Err
returns-in-Err c =
    let (s, text, k, size, represents, reported) = c.loop-n.invariant in
    let (p, e, fields, after) = next_found _ _ _ _ (c.in_ok-next-2.ensures.reads _ _ represents) (search rules) in
    let bad : order_of (fields_of c.next-in-loop-n.new.row) ≡ Err c.in-Err.kind = search rules in
    fails_as c.in-Err.kind (fault (c.loop-n.n + 1) c.in-Err.kind) _ (not_memory _ c.in-Err.kind bad) (
    reported ∙ ap (λ r. with_prefix c.loop-n.orders.items (rows_of c.loop-n.n r)) (records-some k s text p e)
    ∙ ap (with_prefix c.loop-n.orders.items) (rows-err c.loop-n.n p.0 _ c.in-Err.kind (omega arith) (rw fields at bad)))

pub loop-n-preserved : goal.loop-n-preserved
loop-n-preserved c =
    let (s, text, k, size, represents, reported) = c.loop-n.invariant in
    let (p, e, fields, after) = next_found _ _ _ _ (c.in_ok-next-2.ensures.reads _ _ represents) (search rules) in
    let valid : order_of (fields_of c.next-in-loop-n.new.row) ≡ Ok c.in-Ok.order = search rules in
    let pushed : is_ok c.push.result ≡ true = search rules in
    let items = rw pushed at c.push.ensures.items in
    let (j, is) = one_less c.loop-n.n k 1000 size (omega arith) in (
      p.1,
      p.2,
      j,
      omega arith,
      after,
      reported ∙ ap (λ r. with_prefix c.loop-n.orders.items (rows_of c.loop-n.n r)) (records-some k s text p e)
          ∙ ap (with_prefix c.loop-n.orders.items) (rows-ok c.loop-n.n p.0 _ c.in-Ok.order (omega arith) (rw fields at valid))
          ∙ prefix-more c.loop-n.orders.items c.in-Ok.order _
          ∙ ap (λ x. with_prefix (c.loop-n.orders.items ++ c.in-Ok.order ∷ []) (rows_of (c.loop-n.n + 1) (records_from default_config x p.1 p.2))) is
          ∙ ap (λ x. with_prefix x (rows_of (c.loop-n.n + 1) (records_from default_config (suc j) p.1 p.2))) (sym items),
    )

pub returns-then-branch : goal.returns-then-branch
returns-then-branch c =
    let (s, text, k, size, represents, reported) = c.loop-n.invariant in
    let (p, e, fields, after) = next_found _ _ _ _ (c.in_ok-next-3.ensures.reads _ _ represents) (search rules) in
    reported ∙ ap (λ r. with_prefix c.loop-n.orders.items (rows_of c.loop-n.n r)) (records-some k s text p e)
    ∙ ap (with_prefix c.loop-n.orders.items) (rows-over c.loop-n.n p.0 _ (omega arith))

pub returns : goal.returns
returns c =
    let (s, text, k, size, represents, reported) = c.loop-n.invariant in
    let gone = next_gone _ _ _ _ (c.in_ok-next-3.ensures.reads _ _ represents) (search rules) in
    reported ∙ (rw (records-none k s text gone, c.new-2.ensures) (prefix-nil c.loop-n.orders.items))

pub returns-in_err-next : goal.returns-in_err-next
returns-in_err-next c =
    let reported = c.in_err-next.ensures.memory _ _ c.reader-reader.ensures in
    gives_memory c.from_residual.result _ (search rules)

pub returns-in_err-next-2 : goal.returns-in_err-next-2
returns-in_err-next-2 c =
    let (s, text, k, size, represents, reported) = c.loop-n.invariant in
    let wanted = c.in_err-next-2.ensures.memory _ _ represents in
    gives_memory c.from_residual-in_err-next-2.result _ (search rules)

pub returns-in_err-next-3 : goal.returns-in_err-next-3
returns-in_err-next-3 c =
    let (s, text, k, size, represents, reported) = c.loop-n.invariant in
    let wanted = c.in_err-next-3.ensures.memory _ _ represents in
    gives_memory c.from_residual-in_err-next-3.result _ (search rules)
