-- The version of the library, by semantic versioning. Assumes nothing.
use Rattle.std.specs.Prelude.{ℕ, ◌+◌, ◌*◌}

-- major, minor and patch, each at most 255, as one number
abbrev pub packed : ℕ → ℕ → ℕ → ℕ
packed major minor patch = 65536 * major + 256 * minor + patch

-- the version of this library: 1.0.0
abbrev pub current : ℕ
current = packed 1 0 0
