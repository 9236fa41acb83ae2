-- The mines of some cells of a grid, and their bytes in an MBF file. Assumes nothing.
use Rattle.std.specs.Prelude.{ℕ, ◌+◌, ◌*◌, ◌≤◌, ◌≡◌, List, length}
use Rattle.std.proofs.lemmas.List.Edits.{sets}
use Rattle.game.specs.Lists.{concat_map, keep, range}
use Rattle.game.specs.Grid.{Grid, mine}
use Rattle.mbf_form.specs.Form.{mine_bytes}

-- the mines among the cells from a on that are below b, in index order
unfoldable pub mines_from : Grid → ℕ → ℕ → List ℕ
mines_from g a b = keep (mine g) (range a b)

-- their bytes, two each
abbrev pub bytes_from : Grid → ℕ → ℕ → List ℕ
bytes_from g a b = concat_map (mine_bytes g) (mines_from g a b)

-- a run has room for them at a place
abbrev pub RoomFor : Grid → ℕ → ℕ → List ℕ → ℕ → Type 0
RoomFor g a b run at = at + 2 * length (mines_from g a b) ≤ length run

-- they were put at a place, and the next place is past them
pub record Listed (g : Grid) (a b : ℕ) (old : List ℕ) (at : ℕ) (new : List ℕ) (next : ℕ) : Type 0 where
  pub past : next ≡ at + 2 * length (mines_from g a b)
  pub put : new ≡ sets old at (bytes_from g a b)
