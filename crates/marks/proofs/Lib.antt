pub mod Tables
pub mod Pass
pub mod ConePass
pub mod InterestPass
pub mod Marked
pub mod Reasons
