pub mod Places
pub mod Zero
