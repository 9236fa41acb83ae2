-- A run whose first entries were filled. Assumes nothing.
use Rattle.std.specs.Prelude.{ℕ, ◌<◌, ◌≤◌, ◌≡◌, List, get_or, length}

-- the first n entries are nought, the others as they were
pub record Cleared {A : Type 0} (nought : A) (n : ℕ) (old new : List A) : Type 0 where
  pub long : length new ≡ length old
  pub front : (k : ℕ) → k < n → get_or new k nought ≡ nought
  pub past : (k : ℕ) → n ≤ k → get_or new k nought ≡ get_or old k nought
