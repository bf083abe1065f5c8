mod LookupFinds
mod CachedEdges
mod EdgesAtNode
mod FirstDecoded
mod LookupsKeep
mod DecodedPages
mod PagesFind
mod PageIsFirstRows
mod TwoKeyPages
mod TextsSelect
pub mod AbstractionIsState
mod SortedPermutationIsUnique
mod LookupsReport
mod ComparisonTests
mod LookupTexts
mod RowsShown
mod IdLookups
