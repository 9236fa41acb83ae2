-- There is only one verdict of the checks by lengths: there are a grid and a work area of any lengths; and only one after other checks: there are some that give any refusal. Assumes nothing.
use Prim.Native.Nat.{ℕ}
use native.Mathlib.Omega.{arith}
use mathlib.Core.Path.{◌≡◌, refl}
use mathlib.Core.Bool.{true}
use mathlib.Core.List.{List, [], ◌++◌, ◌∷◌}
use mathlib.Core.Option.{Option, none, some}
use lib.IntN.{pos, ℤ}
use lib.ListN.{length, length-replicate, replicate}
use Rattle.area.specs.Numbers.{grid_of}
use Rattle.game.specs.Grid.{Grid, size}
use Rattle.game.specs.Keys.{Key}
use Rattle.game.specs.Calls.{Check, Refusal, board_checks, first_given, grid_checks, key_check, work_check}
use Rattle.refusals.specs.Names.{refusal_of}
use Rattle.std.specs.Prelude.{Result}
use Rattle.refusals.specs.declared.Refusal as Refusals
use Rattle.refusals.proofs.ReadBack.{checked_once}

-- the board's checks
pub board_checked_once : (rows columns board : ℕ) (r r' : Result Unit Refusals.Refusal)
    → ((vs : List ℤ) → length vs ≡ board → refusal_of r ≡ first_given (board_checks (grid_of rows columns vs)))
    → ((vs : List ℤ) → length vs ≡ board → refusal_of r' ≡ first_given (board_checks (grid_of rows columns vs))) → r ≡ r'
board_checked_once rows columns board r r' k k' =
    let vs = replicate board (pos 0) in
    let long = length-replicate board (pos 0) in
    checked_once (first_given (board_checks (grid_of rows columns vs))) r r' (k vs long) (k' vs long)

-- the work area's check
pub work_checked_once : (cells area : ℕ) (r r' : Result Unit Refusals.Refusal)
    → ((g : Grid) (ws : List ℤ) → size g ≡ cells → length ws ≡ area → refusal_of r ≡ first_given (work_check g ws ∷ []))
    → ((g : Grid) (ws : List ℤ) → size g ≡ cells → length ws ≡ area → refusal_of r' ≡ first_given (work_check g ws ∷ [])) → r ≡ r'
work_checked_once cells area r r' k k' =
    let g = grid_of cells 1 [] in
    let ws = replicate area (pos 0) in
    let wide = length-replicate area (pos 0) in
    checked_once (first_given (work_check g ws ∷ [])) r r' (k g ws (omega arith) wide) (k' g ws (omega arith) wide)

-- both
pub lengths_once : (rows columns board area : ℕ) (r r' : Result Unit Refusals.Refusal)
    → ((vs ws : List ℤ) → length vs ≡ board → length ws ≡ area → refusal_of r ≡ first_given (grid_checks (grid_of rows columns vs) ws))
    → ((vs ws : List ℤ) → length vs ≡ board → length ws ≡ area → refusal_of r' ≡ first_given (grid_checks (grid_of rows columns vs) ws)) → r ≡ r'
lengths_once rows columns board area r r' k k' =
    let vs = replicate board (pos 0) in
    let ws = replicate area (pos 0) in
    let long = length-replicate board (pos 0) in
    let wide = length-replicate area (pos 0) in
    checked_once (first_given (grid_checks (grid_of rows columns vs) ws)) r r' (k vs ws long wide) (k' vs ws long wide)

-- the key's check, after others
pub key_checked_once : (checked : Result Unit Refusals.Refusal) (k : Key) (r r' : Result Unit Refusals.Refusal) → ((cs : List Check) → refusal_of checked ≡ first_given cs → refusal_of r ≡ first_given (cs ++ key_check k ∷ []))
    → ((cs : List Check) → refusal_of checked ≡ first_given cs → refusal_of r' ≡ first_given (cs ++ key_check k ∷ [])) → r ≡ r'
key_checked_once checked k r r' h h' =
    let cs = giving (refusal_of checked) in
    let e = given (refusal_of checked) in
    checked_once (first_given (cs ++ key_check k ∷ [])) r r' (h cs e) (h' cs e)
  where
    giving : Option Refusal → List Check
    giving none = []
    giving (some f) = record { given = true; refusal = f } ∷ []

    given : (o : Option Refusal) → o ≡ first_given (giving o)
    given none = refl
    given (some f) = refl
