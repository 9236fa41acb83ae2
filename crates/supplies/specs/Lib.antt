-- What a supply of draws stands for, and what a draw from it comes to.
pub mod Origins
