-- Before any move every cell is closed, and so is every opening. Assumes nothing.
use Prim.Native.Nat.{ℕ, ◌<◌}
use mathlib.Core.Path.{◌≡◌, ap}
use mathlib.Core.Bool.{not, true}
use mathlib.Core.List.{List}
use lib.Dec.{eqb}
use lib.ListN.{get_or, get_or-replicate}
use Rattle.game.specs.Grid.{Grid, size}
use Rattle.game.specs.Position.{closed, opening_closed, unopened, untouched}
use Rattle.game.proofs.Openings.{Full}
use Rattle.game.proofs.Owners.{opening_shut}

pub untouched_at : (g : Grid) (j : ℕ) → j < size g → get_or (untouched g) j 0 ≡ 0
untouched_at g j h = get_or-replicate (size g) j 0 0 h

pub closed_untouched : (g : Grid) (j : ℕ) → j < size g → closed (untouched g) j ≡ true
closed_untouched g j h = ap (λ (k : ℕ). eqb k 0) (untouched_at g j h)

pub unopened_untouched : (g : Grid) (j : ℕ) → j < size g → unopened (untouched g) j ≡ true
unopened_untouched g j h = ap (λ (k : ℕ). not (eqb k 1)) (untouched_at g j h)

pub opening_untouched : (g : Grid) (o : List ℕ) → Full g o → opening_closed (untouched g) o ≡ true
opening_untouched g o f =
    let b = f.begun in
    opening_shut (untouched g) o b.0 b.1 (rw (closed_untouched g b.0 (f.zero-cell b.0 b.1).inside) tt)
