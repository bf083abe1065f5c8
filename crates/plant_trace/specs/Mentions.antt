-- Positions of nodes in the order in which pairs first mention them.
use Rattle.std.specs.Prelude.{ℕ, ◌+◌, List, [], ◌∷◌, ◌++◌, length, fold, Option, Some, None, find}
use Rattle.grouped_rows.specs.{is_keyed}
use Rattle.plant_trace.specs.Nodes.{node_cmp}
use Rattle.plant_trace.specs.declared.node.Node.{Node}
use Rattle.plant_trace.specs.declared.node.Node.TheVariants.{Lot, Batch}
use Rattle.plant_trace.specs.declared.mention_order.Mention.{Mention}

abbrev pub mention_at : Node → ℕ → Mention
mention_at x n = record { node = x; at = n }

-- one more node
abbrev pub noted : List Mention → Node → List Mention
noted mentions x = mentions ++ mention_at x (length mentions + 1) ∷ []

-- a batch that something comes of
abbrev pub noted_start : List Mention → Node → List Mention
noted_start mentions (Lot id) = mentions
noted_start mentions (Batch id) = noted mentions (Batch id)

-- a lot that comes of something
abbrev pub noted_end : List Mention → Node → List Mention
noted_end mentions (Lot id) = noted mentions (Lot id)
noted_end mentions (Batch id) = mentions

abbrev pub mentioned : List Mention → Node × Node → List Mention
mentioned mentions p = noted_end (noted_start mentions p.0) p.1

-- the mentions of the pairs, in their order
abbrev pub mentions_in : List (Node × Node) → List Mention
mentions_in pairs = fold mentioned [] pairs

-- a lot that isn't mentioned is before all, a batch after all
abbrev pub rank_without : Node → ℕ → ℕ
rank_without (Lot id) mentions = 0
rank_without (Batch id) mentions = mentions + 1

abbrev pub rank_or : Option Mention → ℕ → ℕ
rank_or None other = other
rank_or (Some m) other = m.at

-- the position of the first mention of the node
abbrev pub mention_rank : List Mention → Node → ℕ
mention_rank mentions x = rank_or (find (λ m. is_keyed node_cmp (Some m.node) x) mentions) (rank_without x (length mentions))
