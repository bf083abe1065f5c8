pub mod Caching
pub mod Edges
pub mod Decoding
pub mod LookupOutcomes
pub mod AbstractionLaws
pub mod Paging
pub mod Abstraction
pub mod StateShown
pub mod Frames
pub use Caching.{AreEdgesOf, CacheStaysValid, IsCacheOf, IsTraced}
pub use Edges.{AreKindsAt, AreTurned, Ascend, HasEdgesAt, begins_at, id_of, near_id}
pub use Decoding.{AreFound, IsDecoded, IsFirstFound}
pub use LookupOutcomes.{IsHonest, IsReported, PreservesFrame}
pub use AbstractionLaws.{AbstractionIsState}
pub use Paging.{AreAbove, IsOfBoth, IsPaged, IsPagedBeyond, half, row_limit}
pub use Abstraction.{abstract_position, abstract_rows, position_of_meta, rows_under, table_under}
unfoldable pub use Abstraction.{rows_at}
unfoldable pub use StateShown.{abstraction}
pub use Frames.{frame_refl, frame_trans, honest_before, stays_refl, stays_trans}
pub use declared.lookup_cache.LookupCache.{LookupCache}
