pub mod Bytes
pub mod Count
pub mod ByPlace
pub mod Fans
pub mod Relevant
