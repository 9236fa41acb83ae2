-- Reveals one after the other: nothing, one cell, two lists; a chord is the reveals of its square. Assumes nothing.
use Prim.Native.Nat.{ℕ}
use native.Mathlib.Omega.{arith}
use mathlib.Core.Path.{◌∙◌, ◌≡◌, ap, sym}
use mathlib.Core.List.{List, [], ◌∷◌, ◌++◌}
use lib.IntN.{ℤ}
use Rattle.area.specs.Squares.{square_of}
use Rattle.game.specs.Grid.{Grid, square}
use Rattle.game.specs.Lists.{fold}
use Rattle.game.specs.Moves.{reveal}
use Rattle.game.specs.Position.{Position, Tidy, closed_units}
use Rattle.game.proofs.Members.{fold_append}
use Rattle.game.proofs.Narrow.{play_chord}
use Rattle.area.specs.Stages.{Stands}
use Rattle.play.specs.Promises.{Chording, MinesFlagged, Opens, Revealing, RevealingAll, together}
use Rattle.play.specs.declared.Opened.{Opened}

pub opens_none : (rows columns : ℕ) (w : List ℤ) → Opens rows columns w [] (record { units = 0 }) w
opens_none rows columns w = record { revealing = λ g s old t f. record { stands = t; tidy = f; taken_units = omega arith } }

pub opens_one : (rows columns : ℕ) (w : List ℤ) (i : ℕ) (r : Opened) (v : List ℤ)
    → ((g : Grid) (s : Position) (old : List ℤ) → Stands rows columns g s old w → Tidy g s → Revealing rows columns g s old i r v) → Opens rows columns w (i ∷ []) r v
opens_one rows columns w i r v h =
    record { revealing = λ g s old t f. let q = h g s old t f in record { stands = q.stands; tidy = q.tidy; taken_units = q.taken_units } }

pub opens_both : (rows columns : ℕ) (w : List ℤ) (xs ys : List ℕ) (r q p : Opened) (v u : List ℤ) → p ≡ together r q
    → Opens rows columns w xs r v → Opens rows columns v ys q u → Opens rows columns w (xs ++ ys) p u
opens_both rows columns w xs ys r q p v u d h k = record { revealing = all }
  where
    all : (g : Grid) (s : Position) (old : List ℤ) → Stands rows columns g s old w → Tidy g s → RevealingAll rows columns g s old (xs ++ ys) p u
    all g s old t f =
        let a = h.revealing g s old t f in
        let b = k.revealing g (fold (reveal g) s xs) old a.stands a.tidy in
        let e = fold_append (reveal g) s xs ys in
        record {
          stands = rw e b.stands;
          tidy = rw e b.tidy;
          taken_units = omega (arith, ap (λ (o : Opened). o.units) d, ap (closed_units g) e, a.taken_units, b.taken_units);
        }

-- the square of the grid's rows and columns
pub square-of : (rows columns : ℕ) (g : Grid) (i : ℕ) → g.rows ≡ rows → g.columns ≡ columns → square_of rows columns i ≡ square g i
unfolding square
square-of rows columns g i e f = rw (← e, ← f)

-- a chord
pub opens_chord : (rows columns : ℕ) (w : List ℤ) (i : ℕ) (r : Opened) (v : List ℤ) → Opens rows columns w (square_of rows columns i) r v
    → (g : Grid) (s : Position) (old : List ℤ) → Stands rows columns g s old w → Tidy g s → MinesFlagged g s i → Chording rows columns g s old i r v
opens_chord rows columns w i r v h g s old t f m =
    let a = h.revealing g s old t f in
    let e = play_chord g s i f.long m ∙ ap (fold (reveal g) s) (sym (square-of rows columns g i t.rows_are t.columns_are)) in
    record { stands = rw e a.stands; tidy = rw e a.tidy; taken_units = rw e a.taken_units }
