pub mod Cnf
pub mod Clauses
pub mod Dimacs
pub mod Export
pub mod Bench
