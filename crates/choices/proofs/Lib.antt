pub mod Passing
pub mod Held
pub mod Columns
pub mod Tops
pub mod Below
pub mod Firsts
