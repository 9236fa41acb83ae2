-- A replayed word: past the end of the game, past the grid and of another kind it is no legal move; else the move that it reads as, which is legal if its cell is as it asks. Assumes nothing.
use Prim.Native.Nat.{ℕ, ◌%◌, ◌*◌, ◌/◌, ◌<◌, ◌≤◌}
use native.Mathlib.Omega.{arith}
use mathlib.Core.Path.{◌∙◌, ◌≡◌, ap, ap₂, refl, subst, sym}
use mathlib.Core.Bool.{Bool, ◌&&◌, cond, false, true}
use mathlib.Core.List.{List}
use mathlib.Core.Option.{Option, none, some}
use lib.Dec.{T, eqb, eqb→eq, lt→ltb, ltb}
use lib.IntN.{ℤ}
use Rattle.area.specs.Stages.{Moving}
use Rattle.game.specs.Grid.{Grid, size}
use Rattle.game.specs.Moves.{Move, allowed, cell_of, chord, flag, left, legal, legal_read, read_move, unflag}
use Rattle.game.specs.Position.{Position, closed_safe, ending, lost, unfinished}
use Rattle.game.proofs.Narrow.{legal→}
use Rattle.game.proofs.Truth.{T→true, and_both, no→false}
use Rattle.replay.specs.Replays.{Making, ending_by}
use Rattle.replay.specs.declared.clicks.Remains.{Remains}
use Rattle.kinds.specs.Numbers.{Reads, ending_number, kind_number}
use Rattle.kinds.specs.declared.Kind.{Kind}
use Rattle.kinds.specs.declared.Kind.TheVariants.{Chord, Flag, Left, Unflag}
use Rattle.kinds.specs.declared.NoKind.{NoKind}
use Rattle.std.specs.Result.{result_ok}
use Rattle.kinds.specs.declared.Ending.{Ending}
use Rattle.std.specs.Prelude as Std
use Rattle.std.specs.Prelude.{Err, None, Ok, Result, Some}
use Rattle.replay.proofs.Cells.{size_is}
use Rattle.replay.proofs.Endings.{ending-by}
use borrow.Author.Tests.{eq-eqb, ne_eqb}

-- the cell of what a word reads as
read_cell : (word : ℕ) (m : Move) → read_move word ≡ some m → cell_of m ≡ word % 65536
unfolding read_move
read_cell word m = go (eqb (word / 65536) 1) (eqb (word / 65536) 2) (eqb (word / 65536) 3) (eqb (word / 65536) 4)
  where
    i : ℕ
    i = word % 65536

    cell : Option Move → ℕ
    cell none = i
    cell (some x) = cell_of x

    go : (a b c d : Bool) → cond a (some (left i)) (cond b (some (flag i)) (cond c (some (chord i)) (cond d (some (unflag i)) none))) ≡ some m → cell_of m ≡ i
    go true b c d e = sym (ap cell e)
    go false true c d e = sym (ap cell e)
    go false false true d e = sym (ap cell e)
    go false false false true e = sym (ap cell e)
    go false false false false e = sym (ap cell e)

-- how the game ends, by what is left
ending_told : (g : Grid) (s : Position) (q : Remains) (n : Ending) → q.closed ≡ closed_safe g s → q.lost ≡ lost g s → n ≡ ending_by q.closed q.lost → ending_number n ≡ ending g s
ending_told g s q n a b e = ap ending_number (e ∙ ap₂ ending_by a b) ∙ ending-by g s

module _ (rows columns : ℕ) (g : Grid) (s : Position) (old w : List ℤ) (word : ℕ) (st : Moving rows columns g s old w) where
  -- what the word reads as is not legal
  refused : ((m : Move) → read_move word ≡ some m → T (legal g s m) → ⊥) → Making rows columns g s old (legal_read g s (read_move word)) (read_move word) None w w
  refused n = rw (go (read_move word) refl) (record { answer = refl; unchanged = refl })
    where
      go : (o : Option Move) → read_move word ≡ o → legal_read g s o ≡ false
      go none e = refl
      go (some m) e = no→false (legal g s m) (n m e)

  -- the game is won or lost
  pub over : (q : Remains) (n : Ending) → q.closed ≡ closed_safe g s → q.lost ≡ lost g s → n ≡ ending_by q.closed q.lost → (ending_number n ≡ 0 → ⊥)
      → Making rows columns g s old (legal_read g s (read_move word)) (read_move word) None w w
  over q n a b e z = refused (λ m r t. z (ending_told g s q n a b e ∙ eqb→eq (ending g s) 0 (legal→ g s m t).0))

  -- an index past the grid
  pub past : rows * columns ≤ word % 65536 → Making rows columns g s old (legal_read g s (read_move word)) (read_move word) None w w
  past b = refused (λ m r t. absurd (omega (arith, (legal→ g s m t).1, read_cell word m r, size_is rows columns g s old w st)))

  -- another kind
  pub other_kind : read_move word ≡ none → Making rows columns g s old (legal_read g s (read_move word)) (read_move word) None w w
  other_kind e = rw e (record { answer = refl; unchanged = refl })

  -- in a game that goes on, a move on the grid is legal if its cell is as it asks
  legal_is : (m : Move) → T (unfinished g s) → cell_of m < size g → legal g s m ≡ allowed g s m
  unfolding legal
  legal_is m t h =
      ap (λ (b : Bool). b && allowed g s m)
      (T→true (unfinished g s && ltb (cell_of m) (size g)) (and_both (unfinished g s) (ltb (cell_of m) (size g)) t (lt→ltb (cell_of m) (size g) h)))

  -- the move that was read
  pub as_read : (m : Move) (q : Remains) (n : Ending) (r : Std.Option Remains) (v : List ℤ) → read_move word ≡ some m → q.closed ≡ closed_safe g s → q.lost ≡ lost g s → n ≡ ending_by q.closed q.lost → ending_number n ≡ 0
      → word % 65536 < rows * columns → Making rows columns g s old (allowed g s m) (some m) r w v → Making rows columns g s old (legal_read g s (read_move word)) (read_move word) r w v
  as_read m q n r v e a b d z h p =
      rw (e, legal_is m (subst T (sym (eq-eqb (ending g s) 0 (sym (ending_told g s q n a b d) ∙ z))) tt) (omega (arith, read_cell word m e, size_is rows columns g s old w st))) p

-- the move of a kind at a cell
abbrev move_at : Kind → ℕ → Move
move_at Left i = left i
move_at Flag i = flag i
move_at Chord i = chord i
move_at Unflag i = unflag i

-- a number that was read as a kind is its number
read_number : (n : ℕ) (r : Result Kind NoKind) (kind : Kind) → Reads n r → result_ok r ≡ Some kind → kind_number kind ≡ n
read_number n (Ok k) kind h e = cc (h, e)
read_number n (Err _) kind h e = cc e

-- a word of a kind reads as its move
pub read_kind : (word : ℕ) (r : Result Kind NoKind) (kind : Kind) → Reads (word / 65536) r → result_ok r ≡ Some kind → read_move word ≡ some (move_at kind (word % 65536))
unfolding read_move
read_kind word r Left h e = rw (sym (read_number (word / 65536) r Left h e))
read_kind word r Flag h e = rw (sym (read_number (word / 65536) r Flag h e))
read_kind word r Chord h e = rw (sym (read_number (word / 65536) r Chord h e))
read_kind word r Unflag h e = rw (sym (read_number (word / 65536) r Unflag h e))

-- and of no kind as none
pub read_none : (word : ℕ) (r : Result Kind NoKind) → Reads (word / 65536) r → result_ok r ≡ None → read_move word ≡ none
unfolding read_move
read_none word (Ok k) h e = cc e
read_none word (Err _) h e =
    rw (ne_eqb (word / 65536) 1 (λ p. h Left (sym p)), ne_eqb (word / 65536) 2 (λ p. h Flag (sym p)), ne_eqb (word / 65536) 3 (λ p. h Chord (sym p)), ne_eqb (word / 65536) 4 (λ p. h Unflag (sym p))) refl
