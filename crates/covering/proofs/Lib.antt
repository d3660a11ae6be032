-- Laws of the ranks of the spares that undercut, and of their columns.
pub mod ColumnLaws
pub mod LowLaws
