pub mod Nodes
pub mod Reach
pub mod Seen
pub mod HoldsIfHonest
pub mod Turned
pub mod Index
pub mod Ranks
pub mod Growth
pub mod Waiting
pub mod NodeIndexes
pub mod Mentions
pub mod Recalls
pub mod ReadOnly
pub use Nodes.{node_cmp, node_eq, node_text, node_ties, node_total}
pub use Reach.{HasEdge, IsAcyclic, IsNext, IsReached, LeadsWhereReached, Lists, more, step}
unfoldable pub use Reach.{leads}
pub use Seen.{Adds, HasSame, Queues}
pub use HoldsIfHonest.{same_along}
pub use Turned.{turned}
pub use Index.{Indexes, Links, index_has, is_pair, pairs_lead, set_has}
pub use Ranks.{Rises, rank_of}
pub use Growth.{IntoKeepsAcyclic, IsEnd, KeepsAcyclic, LeadsInto, NewKeepsAcyclic}
pub use Waiting.{AreDistinct, AreSoMany, AreWaiting, Awaits, HasCount, HasCounts, IsMentioned}
pub use NodeIndexes.{AreIndexes, Grows, HasFirst, IsNumbering, RiseIfAcyclic}
pub use Mentions.{mention_rank, mentions_in}
pub use Recalls.{GrowsByNew, IsRecalled, ReachesNone, RecalledWhereReached, StaysWhereUnreached, is_recalled}
pub use declared.direction.Direction.{Direction}
pub use declared.fault.TraceFault.{TraceFault}
pub use declared.indexed.Indexed.{Indexed}
pub use declared.node.Node.{Node}
