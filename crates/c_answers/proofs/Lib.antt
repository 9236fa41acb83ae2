-- What the proofs of answers as C sees them share.
pub mod Returns
pub mod KeyRuns
