-- For which causes a picture has no text.
use Rattle.std.proofs.Common.{◌≡◌, ℕ, List, Option, String, IfOk, IfErr, Result, Ok, Err, inl, inr, ◌⊎◌, refl, subst, sym, Contains, Global, string_bytes}
use Rattle.genealogy_svg.specs.{HasEnds, IsBetween, nodes_in, picture_of, GraphError, Picture}
use Rattle.genealogy_svg.specs.declared.reported.GraphError.TheVariants as graph_error
use Rattle.genealogy_svg.specs.declared.reported.Reported.{Reported}
use Rattle.genealogy_svg.proofs.EndsFound.{ends_found}
use Rattle.genealogy_svg.specs.{IsEndOf, nodes_of}
use Rattle.plant_trace.specs.{Node}
use Rattle.genealogy_picture.specs.{◌>>=◌, picture_in, whole, Draws, IsLayoutError, IsNoSvg, IsRefused, IsTextError, IsTextOf, reported_of}
use Rattle.genealogy_picture.specs.declared.ending.DrawError.{DrawError}
use Rattle.genealogy_picture.specs.declared.ending.DrawError.TheVariants as stop
use Rattle.genealogy_picture.specs.declared.ending.InputError.{InputError}
use Rattle.genealogy_picture.specs.declared.ending.InputError.TheVariants as refusal
use Rattle.genealogy_picture.specs.declared.words.Format.{Format}
use Rattle.genealogy_picture.specs.declared.words.Format.TheVariants.{Dot, Svg}
use Rattle.std.proofs.lemmas.List.Elements.{All-get_or}

ends_whole : (r : Result Picture GraphError) (p : Picture) → ((q : Picture) → r ≡ Ok q → HasEnds q) → whole r ≡ Ok p → HasEnds p
ends_whole (Ok q) p f h = let same : q ≡ p = cc in subst HasEnds same (f q refl)
ends_whole (Err e) p f h = absurd cc

ends_reported : (r : Result Reported InputError) (p : Picture) → (r >>= (λ reported. whole (picture_of reported))) ≡ Ok p → HasEnds p
ends_reported (Ok reported) p h = ends_whole (picture_of reported) p (ends_found reported) h
ends_reported (Err e) p h = absurd cc

-- the edges of the picture of an input begin and end at its nodes
ends_in : (bytes : List ℕ) (p : Picture) → picture_in bytes ≡ Ok p → HasEnds p
ends_in bytes p h = ends_reported (reported_of bytes) p h

never_lost : (p : Picture) (node : Node) → HasEnds p → IsEndOf p.edges node → Contains (nodes_of p) node
never_lost p node ends (k, e, h, is, at) = end_at at
  where
    between : IsBetween (nodes_in p) e
    between = subst (IsBetween (nodes_in p)) is (All-get_or (IsBetween (nodes_in p)) p.edges k e h ends)

    end_at : (e.from ≡ node) ⊎ (e.to ≡ node) → Contains (nodes_of p) node
    end_at (inl from) = subst (Contains (nodes_of p)) from between.0
    end_at (inr to) = subst (Contains (nodes_of p)) to between.1

-- why a picture isn't laid out is why it isn't drawn
no_svg : (asked : Option Node) (bytes : List ℕ) (p : Picture) (r : InputError) → picture_in bytes ≡ Ok p → IsLayoutError p (stop.Refused r) → IsNoSvg asked p r
no_svg asked bytes p refusal.Circle made circle = circle
no_svg asked bytes p refusal.Absent made none = absurd none
no_svg asked bytes p (refusal.Graph (graph_error.Lost node)) made lost = absurd (lost.1 (never_lost p node (ends_in bytes p made) lost.0))
no_svg asked bytes p (refusal.Graph (graph_error.Lot id)) made none = absurd none
no_svg asked bytes p (refusal.Graph (graph_error.Amounts from to)) made none = absurd none
no_svg asked bytes p (refusal.Graph (graph_error.Batches from to)) made none = absurd none
no_svg asked bytes p (refusal.Line number error) made none = absurd none

not_laid_out : (asked : Option Node) (bytes : List ℕ) (p : Picture) (error : DrawError) → picture_in bytes ≡ Ok p → IsLayoutError p error → IsRefused Svg asked bytes error
not_laid_out asked bytes p (stop.Refused r) made h = inr (p, made, refl, no_svg asked bytes p r made h)
not_laid_out asked bytes p stop.Open made h = absurd h
not_laid_out asked bytes p stop.Read made h = tt
not_laid_out asked bytes p stop.Write made h = absurd h
not_laid_out asked bytes p stop.Memory made h = tt

in_svg : (asked : Option Node) (bytes : List ℕ) (p : Picture) (error : DrawError) → picture_in bytes ≡ Ok p → IsTextError Svg asked p error → IsRefused Svg asked bytes error
in_svg asked bytes p error made (inl (node, is, none, absent)) = subst (IsRefused Svg asked bytes) (sym absent) (inr (p, made, refl, (node, is, none)))
in_svg asked bytes p error made (inr h) = not_laid_out asked bytes p error made h

pub no_text : (format : Format) (asked : Option Node) (bytes : List ℕ) (p : Picture) (error : DrawError) → picture_in bytes ≡ Ok p → IsTextError format asked p error
    → IsRefused format asked bytes error
no_text Dot asked bytes p error made h = subst (IsRefused Dot asked bytes) (sym h) tt
no_text Svg asked bytes p error made h = in_svg asked bytes p error made h

-- the text of a picture, or why it has none, is that of the answers whose picture it is
pub drawn_text : (format : Format) (asked : Option Node) (bytes : List ℕ) (p : Picture) (r : Result (String Global) DrawError) → picture_in bytes ≡ Ok p
    → IfOk r (λ text. IsTextOf format asked p (string_bytes text)) → IfErr r (IsTextError format asked p) → Draws format asked bytes r
drawn_text format asked bytes p (Ok text) made written failed = (p, made, written)
drawn_text format asked bytes p (Err error) made written failed = no_text format asked bytes p error made failed
