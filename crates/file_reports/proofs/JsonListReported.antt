-- Values in a list.
use Rattle.std.proofs.Common.{◌≡◌, ◌∙◌, ◌+◌, ◌<◌, ℕ, length, take, get_or, List, [], ◌∷◌, ◌++◌, Vec, Global, map, ap, sym, append-nil, append_assoc}
use Rattle.std.proofs.lemmas.List.{take_more}
use Rattle.serde_json.specs.Data.{Data, array}
use Rattle.serde_json.specs.View.{view, items_of}
use Rattle.serde_json.specs.declared.value.Value.{Value, Array}
use Rattle.serde_json.proofs.Views.{view-Array}
use Rattle.plant_check_rules.specs.{Rule}
use Rattle.plant_check.specs.{Tested}
use Rattle.file_reports.specs.{each_data, found_data, found_in}

-- what is reported of one rule more
pub each_data_more : (t : Tested) (rs : List Rule) (r : Rule) → each_data t (rs ++ r ∷ []) ≡ each_data t rs ++ found_data (found_in t r)
each_data_more t [] r = append-nil (found_data (found_in t r))
each_data_more t (q ∷ rs) r = ap (λ ds. found_data (found_in t q) ++ ds) (each_data_more t rs r) ∙ sym (append_assoc (found_data (found_in t q)) (each_data t rs) (found_data (found_in t r)))

-- a list of values is that of what they show
pub listed : (v : Vec Value Global) (ds : List Data) → map view v.items ≡ ds → view (Array v) ≡ array (items_of ds)
listed v ds shown = view-Array v ∙ ap (λ shows. array (items_of shows)) shown

-- a rule more is reported
pub each_data_reported : (t : Tested) (rs : List Rule) (i : ℕ) (d : Rule) (before now : List Data) → i < length rs → before ≡ each_data t (take i rs)
    → now ≡ before ++ found_data (found_in t (get_or rs i d)) → now ≡ each_data t (take (i + 1) rs)
each_data_reported t rs i d before now within so_far added =
    added ∙ ap (λ (ds : List Data). ds ++ found_data (found_in t (get_or rs i d))) so_far
    ∙ sym (ap (each_data t) (take_more rs i d within) ∙ each_data_more t (take i rs) (get_or rs i d))
