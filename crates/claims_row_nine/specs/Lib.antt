pub mod RowNine
