pub mod Options
pub mod Steps
pub mod Drawable
