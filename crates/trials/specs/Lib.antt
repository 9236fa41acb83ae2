-- What a case line says.
pub mod Text
