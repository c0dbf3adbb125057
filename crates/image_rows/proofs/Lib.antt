pub mod ImageRows
pub mod RowsListed
pub mod FitTurns
pub mod Apart
pub mod Sorted
pub mod ArrangeWays
pub mod Unique
pub mod SortTurns
