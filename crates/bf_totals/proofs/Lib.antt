pub mod RowByRow
