-- Ways along edges.
use Rattle.std.proofs.Common.{◌≡◌, ℕ, zero, suc, ◌<◌, ◌+◌, List, subst, refl, arith}
use Rattle.genealogy_svg.specs.{PictureEdge}
use Rattle.plant_trace.specs.{step, more, Node}
use Rattle.plant_trace.specs.Reach.{Reach}
use Rattle.genealogy_svg.specs.{Leads}

-- a way of so many edges, from the first node to the last
pub record IsWay (edges : List PictureEdge) (first last : Node) (count : ℕ) : Type 0 where
  pub begun : count ≡ 0 → last ≡ first
  pub gone : 0 < count → Reach (Leads edges) first last

reach_more : (edges : List PictureEdge) (first last next : Node) (count : ℕ) → IsWay edges first last count → Leads edges last next → Reach (Leads edges) first next
reach_more edges first last next zero way leads = step (subst (λ n. Leads edges n next) (way.begun refl) leads)
reach_more edges first last next (suc k) way leads = more (way.gone (omega arith)) leads

pub way_more : (edges : List PictureEdge) (first last next : Node) (count : ℕ) → IsWay edges first last count → Leads edges last next → IsWay edges first next (count + 1)
way_more edges first last next count way leads = record { begun = λ h. absurd (omega arith); gone = λ _. reach_more edges first last next count way leads }
