use Rattle.std.proofs.Common.{◌∙◌, ap, rules}
use Rattle.std.specs.Str.Iter.{lines_rest}
use Rattle.std.proofs.lemmas.Iterator.{items_from_collect}
use Rattle.std.proofs.lemmas.Iterator.Consumers.{YieldsList-from_filter_map}
use Rattle.std.proofs.lemmas.Iterator.Splits.{YieldsList-from_lines}
use Rattle.plant_base.specs.{is_text, only}
use Rattle.plant_answers_pages.proofs.history.texts_in.Goals as goal

pub returns : goal.returns
returns c =
    let source = ap lines_rest c.filter_map.ensures.source ∙ c.lines.ensures.rest ∙ c.said_in.ensures in
    items_from_collect _ c.collect.ensures.ran (YieldsList-from_filter_map _ (only is_text) (YieldsList-from_lines _ source) c.filter_map.ensures.closure (λ x r q k. search rules))
