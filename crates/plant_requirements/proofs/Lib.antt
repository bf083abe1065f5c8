pub mod NoFault
pub mod CountOfConjunction
pub mod KeyTests
pub mod MarksByRecall
pub mod SetsOfKeys
pub mod SublotTests
pub mod MomentsRise
