use Rattle.std.proofs.Common.{◌∙◌, refl}
use Rattle.plant_answers_genealogy.specs.Balances.{flows_of}
use Rattle.plant_answers_genealogy.specs.declared.balances.Flow.TheVariants as flow
use Rattle.plant_answers_genealogy.proofs.FlowsFit.{own_counted, split_counted, merged_counted}
use Rattle.plant_answers_genealogy.proofs.balances.flows_of.Goals as goal

pub returns : goal.returns
returns c s sound own into =
    let lot = c.args.lot in
    let received = (rw own at c.flow_in-received.ensures) ∙ own_counted s sound lot flow.Received refl in
    let produced = (rw own at c.flow_in-produced.ensures) ∙ own_counted s sound lot flow.Produced refl in
    let split_in = (rw into at c.flow_in-split_in.ensures) ∙ split_counted s sound lot in
    let merged_in = (rw into at c.flow_in-merged_in.ensures) ∙ merged_counted s sound lot in
    let consumed = (rw own at c.flow_in-consumed.ensures) ∙ own_counted s sound lot flow.Consumed refl in
    let scrapped = (rw own at c.flow_in-scrapped.ensures) ∙ own_counted s sound lot flow.Scrapped refl in
    let split_out = (rw own at c.flow_in-split_out.ensures) ∙ own_counted s sound lot flow.SplitOut refl in
    let merged_out = (rw own at c.flow_in-merged_out.ensures) ∙ own_counted s sound lot flow.MergedOut refl in
    λ i. record (flows_of s lot) { received = received i; produced = produced i; split_in = split_in i; merged_in = merged_in i; consumed = consumed i; scrapped = scrapped i; split_out = split_out i; merged_out = merged_out i }
