pub mod Ascii
pub mod BytesCompareAsNumbers
pub mod PaddedTextsCompare
