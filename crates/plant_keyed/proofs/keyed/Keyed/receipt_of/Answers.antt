use Rattle.std.proofs.Common.{refl, [], ◌∷◌}
use Rattle.sqlite.specs.Held.{state}
use Rattle.plant_keyed.proofs.IdLookups.{receipt_is}
use Rattle.plant_keyed.proofs.LookupsKeep.{reported_by}
use Rattle.plant_keyed.proofs.LookupTexts.{receipt_by_id}
use Rattle.plant_keyed.proofs.keyed.Keyed.receipt_of.Goals as goal

pub receipts_found-requires : goal.receipts_found-requires
receipts_found-requires g c = (1 ∷ [], receipt_by_id)

pub returns-clause-reported : goal.returns-clause-reported
returns-clause-reported g c =
    let old = state g.S.Store c.args.self.now.conn.now in
    let new = state g.S.Store c.receipts_found.new.self.conn.now in
    reported_by old new c.args.self.now.has_failed c.receipts_found.new.self.has_failed _ c.receipts_found.ensures.frame
    (λ clean valid holds.
    let found = rw c.id.ensures at (c.in_ok-rows.ensures.rows (1 ∷ []) receipt_by_id (refl, rw c.id.ensures refl) clean) in
    receipt_is old.now _ valid holds c.args.reference.now c.first_of.result (record { rows = c.in_ok-rows.rows.items; found = found; first = c.first_of.ensures }))
