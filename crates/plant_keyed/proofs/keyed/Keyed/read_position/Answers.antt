use Rattle.std.proofs.Common.{◌≡◌, ◌∙◌, [], ap, refl, sym, arith, nat_le, true}
use Rattle.std.proofs.lemmas.Bool.Decides.{nat_tests}
use Rattle.sqlite.specs.Held.{state}
use Rattle.plant_base.specs.{greatest_seq}
use Rattle.plant_tables_columns.proofs.OptionalValues.{some_same}
use Rattle.plant_tables_columns.proofs.RowLaws.{meta_reads}
use Rattle.plant_keyed.proofs.LookupFinds.{meta_is}
use Rattle.plant_keyed.specs.declared.lookup_cache.LookupCache.{LookupCache}
use Rattle.plant_keyed.proofs.LookupsKeep.{reported_by, position_stays}
use Rattle.plant_keyed.proofs.LookupTexts.{meta}
use Rattle.plant_keyed.proofs.keyed.Keyed.read_position.Goals as goal

pub first_found-requires : goal.first_found-requires
first_found-requires g c = ([], meta)

pub returns-in-Some-clause-reported : goal.returns-in-Some-clause-reported
returns-in-Some-clause-reported g c =
    let old = state g.S.Store c.args.self.now.conn.now in
    let new = state g.S.Store c.first_found.new.self.conn.now in
    reported_by old new c.args.self.now.has_failed c.first_found.new.self.has_failed _ c.first_found.ensures.frame
    (λ clean valid holds.
    let found = meta_is old.now _ valid holds _ (c.in_ok-meta.ensures.row [] meta (refl, refl) clean) in
    ap (λ m. m.position) (some_same _ _ (sym c.in-Some.is ∙ found)))

pub returns-in-Some-clause-small : goal.returns-in-Some-clause-small
returns-in-Some-clause-small g c =
    let decoded = rw c.in-Some.is at c.in_ok-meta.ensures.decoded in
    let most : nat_le c.in-Some.meta.position.seq greatest_seq ≡ true = (meta_reads.keeps decoded.0 c.in-Some.meta decoded.1).seq in
    grind (arith, nat_tests)

pub returns-in-Some-clause-stays : goal.returns-in-Some-clause-stays
returns-in-Some-clause-stays g c =
    let old = state g.S.Store c.args.self.now.conn.now in
    let new = state g.S.Store c.first_found.new.self.conn.now in
    let same = c.first_found.ensures.cached in
    position_stays old new c.args.self.now.has_failed c.first_found.new.self.has_failed c.args.self.now.cache.now c.remember.new.self c.in-Some.meta.position c.first_found.ensures.frame
    (c.remember.ensures.edges ∙ ap (λ (k : LookupCache). k.edges) same)
    (λ q e. c.remember.ensures.known q (ap (λ (k : LookupCache). k.position) same ∙ e))
    (λ e. c.remember.ensures.unknown (ap (λ (k : LookupCache). k.position) same ∙ e))
    (returns-in-Some-clause-reported g c).holds
