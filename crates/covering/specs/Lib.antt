-- What it is to cover and to undercut, the ranks of the spares that undercut, and their columns.
pub mod Covers
