-- The grid of a file has a mine at a place exactly if the file lists it, so the bits of its mines are those of its board line. Assumes nothing.
use Prim.Native.Nat.{ℕ, suc, ◌*◌, ◌<◌}
use native.Mathlib.Omega.{arith}
use mathlib.Core.Path.{◌≡◌, sym, ◌∙◌}
use mathlib.Core.List.{List, [], ◌∷◌, map}
use lib.ListN.{get_or, length, take}
use Rattle.game.specs.Lists.{Each, concat_map, has, range}
use Rattle.game.specs.Grid.{Grid, canonical, size}
use Rattle.game.proofs.Canonical.{place_mines}
use Rattle.hex_digits.specs.Hex.{byte_digits}
use Rattle.lines.specs.BoardLine.{bit_bytes, board_line, byte_of_bits, place_mine}
use Rattle.lines.proofs.BytesOfBits.{run_by_bits}
use Rattle.mbf_form.specs.Form.{file_columns, file_grid, file_rows, listed_grid, mine_places}
use Rattle.mbf_form.proofs.Accepted.{Accepted}
use Rattle.mbf_form.proofs.Listed.{length_listed, listed_place}
use Rattle.mbf_checks.specs.Marks.{BitsOf}
use Rattle.mbf_lines.proofs.Verdict.{SmallFile}

-- ---- the canonical grid

module _ (g : Grid) (long : length g.values ≡ size g) where
  -- both have the same board line
  pub canonical_line : board_line (canonical g) ≡ board_line g
  unfolding board_line
  canonical_line = λ i. concat_map byte_digits (g.rows ∷ g.columns ∷ map (byte_of_bits (λ p. sym (place_mines g long p) i)) (range 0 (bit_bytes (size g))))

-- ---- the grid of a file

pub file_place : (file : List ℕ) → Accepted file → (p : ℕ) → place_mine (file_grid file) p ≡ has p (mine_places file)
file_place file a p = sym (place_mines (listed_grid file) (length_listed file) p) ∙ listed_place file a p

-- ---- the bits of its mines

-- bytes at every place are a run of bytes
each_small : (run : List ℕ) → ((k : ℕ) → get_or run k 0 < 256) → Each (λ b. b < 256) run
each_small [] h = tt
each_small (b ∷ run) h = (h 0, each_small run (λ k. h (suc k)))

module _ (file bits : List ℕ) (f : SmallFile file) (of : BitsOf (mine_places file) bits) (small : (k : ℕ) → get_or bits k 0 < 256) where
  -- the first bytes of the bits are those of the line after rows and columns
  pub mine-bytes : take (bit_bytes (file_rows file * file_columns file)) bits ≡ map (byte_of_bits (place_mine (file_grid file))) (range 0 (bit_bytes (file_rows file * file_columns file)))
  mine-bytes =
      run_by_bits (place_mine (file_grid file)) bits (bit_bytes (file_rows file * file_columns file)) (omega (arith, f.few, of.long)) (each_small bits small)
      (λ p h. of.set p ∙ sym (file_place file f.taken p))
