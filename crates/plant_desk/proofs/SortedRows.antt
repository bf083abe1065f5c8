-- Rows that are sorted by what they hold hold sorted rows.
use Rattle.std.proofs.Common.{◌≡◌, ◌∙◌, List, [], ◌∷◌, map, refl, ap, Ordering, Less, Equal, Greater}
use Rattle.plant_base.specs.{put}
use Rattle.plant_questions.specs.{in_order}

module _ {W R : Type 0} (held : W → R) (order : R → R → Ordering) where
  abbrev by_held : W → W → Ordering
  by_held a b = order (held a) (held b)

  put_by : (w x : W) (ws : List W) → map held (put by_held w ws) ≡ put order (held w) (map held ws) → (o : Ordering) → by_held w x ≡ o → map held (put by_held w (x ∷ ws)) ≡ put order (held w) (map held (x ∷ ws))
  put_by w x ws more Less e = rw e refl
  put_by w x ws more Equal e = rw e refl
  put_by w x ws more Greater e = rw e (ap (λ rs. held x ∷ rs) more)

  put_held : (w : W) (ws : List W) → map held (put by_held w ws) ≡ put order (held w) (map held ws)
  put_held w [] = refl
  put_held w (x ∷ ws) = put_by w x ws (put_held w ws) (by_held w x) refl

  pub sorted_held : (ws : List W) → map held (in_order by_held ws) ≡ in_order order (map held ws)
  sorted_held [] = refl
  sorted_held (w ∷ ws) = put_held w (in_order by_held ws) ∙ ap (put order (held w)) (sorted_held ws)
