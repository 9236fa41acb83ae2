-- Both loops over all cells gather what a step draws among. Assumes nothing.
use Prim.Native.Nat.{ℕ}
use native.Mathlib.Omega.{arith}
use mathlib.Core.Path.{◌≡◌}
use mathlib.Core.Bool.{Bool}
use mathlib.Core.List.{List, []}
use lib.IntN.{negsuc}
use lib.ListN.{length}
use Rattle.game.specs.Grid.{Grid, cells, size}
use Rattle.game.specs.Lists.{fold}
use Rattle.game.specs.Position.{Position, Tidy, premium}
use Rattle.original.specs.Play.{State}
use Rattle.original.specs.Rounds.{Ties, fallen, tied}
use Rattle.game.proofs.Squares.{cells→, length_cells}
use Rattle.original.proofs.Choosing.{looks}
use Rattle.original.proofs.Positions.{Models}
use Rattle.original.proofs.Scans.{fold_prefix, scanned_none}
use Rattle.original.proofs.Gathering.{Fallen, Tied, fallen_one, front_none, tied_one}

module _ (human : Bool) (g : Grid) (s : Position) (n : ℕ) (st : State) (w : Models g s n st) where
  -- the ties before the first cell
  abbrev pub no_ties : List ℕ → Ties
  no_ties maxpr = record { maxp = negsuc 0; curi_len = 0; maxpr = maxpr }

  pub all_ties : (maxpr : List ℕ) → length maxpr ≡ size g → Tied human g s n st w (cells g) (fold (tied human st.cells) (no_ties maxpr) (cells g))
  all_ties maxpr e =
      fold_prefix (Tied human g s n st w) (tied human st.cells) (size g) (cells g) (λ ps x b t l p. tied_one human g s n st w ps x b (cells→ g x t) l p) [] (no_ties maxpr) (omega (arith, length_cells g))
      (record { list = []; scan = scanned_none (looks human g s) (premium g s); kept_in = front_none (size g) maxpr e })

  pub all_fallen : Tidy g s → (maxpr : List ℕ) → length maxpr ≡ size g → Fallen human g s n st w (cells g) (fold (fallen st.cells) (record { fb_count = 0; maxpr = maxpr }) (cells g))
  unfolding Fallen
  all_fallen f maxpr e =
      fold_prefix (Fallen human g s n st w) (fallen st.cells) (size g) (cells g) (λ ps x b t l p. fallen_one human g s n st w f ps x b (cells→ g x t) l p) [] (record { fb_count = 0; maxpr = maxpr }) (omega (arith, length_cells g))
      (front_none (size g) maxpr e)
