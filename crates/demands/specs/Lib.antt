pub mod Before
pub mod Demands
pub mod InnerCodes
pub mod Table
pub mod Voters
pub mod Weights
