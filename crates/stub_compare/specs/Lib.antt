pub mod CompareSets
pub mod CompareText
pub mod CompareTold
pub mod CompareCells
pub mod CompareFlats
