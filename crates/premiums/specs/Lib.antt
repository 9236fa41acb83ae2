-- What the passes that lay the first premiums promise.
pub mod Laying
