-- Links lent as a list of records: what is copied of the list, what is asked of its numbers, and the laws.
pub mod Records
