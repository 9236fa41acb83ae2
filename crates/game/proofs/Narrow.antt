-- The moves of the rounds: L on safe cells, F on mines, C where all mines are flagged. In a tidy position they are legal while a safe cell is closed,
-- sweep whole openings, and come to tidy positions. Assumes nothing.
use Prim.Native.Nat.{ℕ, ◌<◌}
use native.Mathlib.Omega.{arith}
use native.Mathlib.Decide.{dec_lt}
use mathlib.Core.Path.{◌∙◌, ◌≡◌, ap, refl, subst, sym}
use mathlib.Core.Bool.{Bool, ◌&&◌, ◌||◌, false, not, true}
use mathlib.Core.List.{List, [], ◌++◌, ◌∷◌}
use lib.Dec.{T, T_not, eqb, eqb→eq, ltb, ltb→lt, lt→ltb}
use lib.ListN.{get_or, length, set}
use Rattle.game.specs.Grid.{Grid, mine, number, safe, size, square, zero_cell}
use Rattle.game.specs.Lists.{all_of, count, fold, has}
use Rattle.game.specs.Moves.{AllLegal, Move, after, allowed, blow, cell_of, chord, chordable, flag, left, legal, play, reveal, unflag}
use Rattle.game.specs.Position.{Position, Tidy, closed, flagged, opened, unfinished}
use Rattle.game.proofs.Counts.{count_ext}
use Rattle.game.proofs.Members.{all_has, first_of, only_one, rest_of}
use Rattle.game.proofs.Opens.{flagged_off}
use Rattle.game.proofs.Reveal.{fold_fewer, past}
use Rattle.game.proofs.Squares.{square→}
use Rattle.game.proofs.Tidy.{flag_tidy, fold_tidy, reveal_tidy}
use Rattle.game.proofs.Truth.{and_both, and_left, and_right, iff, no→false}
use borrow.Author.Tests.{eq-eqb}

-- the mines of a cell's square are all flagged
abbrev pub mines_flagged : Grid → Position → ℕ → Bool
mines_flagged g s i = all_of (λ j. not (mine g j) || flagged s j) (square g i)

-- a move as the rounds make them: L on a closed safe cell, F on a closed mine, C on an opened cell of number 1 or more whose square's mines are all flagged
unfoldable pub narrow : Grid → Position → Move → Bool
narrow g s (left i) = ltb i (size g) && safe g i && closed s i
narrow g s (flag i) = ltb i (size g) && mine g i && closed s i
narrow g s (chord i) = ltb i (size g) && (opened s i && not (zero_cell g i)) && mines_flagged g s i
narrow g s (unflag i) = false

-- the same, mine by mine
abbrev pub AllFlagged : Grid → Position → ℕ → Type 0
AllFlagged g s i = (j : ℕ) → T (has j (square g i)) → T (mine g j) → T (flagged s j)

mines_flagged→ : (g : Grid) (s : Position) (i : ℕ) → T (mines_flagged g s i) → AllFlagged g s i
mines_flagged→ g s i t j u m = or (mine g j) (flagged s j) (all_has (λ j. not (mine g j) || flagged s j) j (square g i) u t) m
  where
    or : (a b : Bool) → T (not a || b) → T a → T b
    or true b h k = h
    or false b h k = elim k [ ]

-- what such a move is on
pub data Narrow (g : Grid) (s : Position) : Move → Type 0 where
  by_left : {i : ℕ} → i < size g → T (safe g i) → T (closed s i) → Narrow g s (left i)
  by_flag : {i : ℕ} → i < size g → T (mine g i) → T (closed s i) → Narrow g s (flag i)
  by_chord : {i : ℕ} → i < size g → T (opened s i && not (zero_cell g i)) → AllFlagged g s i → Narrow g s (chord i)

pub narrow→ : (g : Grid) (s : Position) (m : Move) → T (narrow g s m) → Narrow g s m
unfolding narrow
narrow→ g s (left i) t =
    let a = and_left (ltb i (size g) && safe g i) (closed s i) t in
    by_left (ltb→lt i (size g) (and_left (ltb i (size g)) (safe g i) a)) (and_right (ltb i (size g)) (safe g i) a) (and_right (ltb i (size g) && safe g i) (closed s i) t)
narrow→ g s (flag i) t =
    let a = and_left (ltb i (size g) && mine g i) (closed s i) t in
    by_flag (ltb→lt i (size g) (and_left (ltb i (size g)) (mine g i) a)) (and_right (ltb i (size g)) (mine g i) a) (and_right (ltb i (size g) && mine g i) (closed s i) t)
narrow→ g s (chord i) t =
    let o = opened s i && not (zero_cell g i) in
    let a = and_left (ltb i (size g) && o) (mines_flagged g s i) t in
    by_chord (ltb→lt i (size g) (and_left (ltb i (size g)) o a)) (and_right (ltb i (size g)) o a)
    (mines_flagged→ g s i (and_right (ltb i (size g) && o) (mines_flagged g s i) t))
narrow→ g s (unflag i) t = absurd t

narrow_inside : {g : Grid} {s : Position} {m : Move} → Narrow g s m → cell_of m < size g
narrow_inside (by_left h a c) = h
narrow_inside (by_flag h a c) = h
narrow_inside (by_chord h o a) = h

-- each move is such a one where it stands, and the game is not over
abbrev pub AllNarrow : Grid → Position → List Move → Type 0
AllNarrow g s [] = Unit {0}
AllNarrow g s (m ∷ ms) = T (unfinished g s) × T (narrow g s m) × AllNarrow g (play g s m) ms

pub narrow_append : (g : Grid) (ms ns : List Move) (s : Position) → AllNarrow g s ms → AllNarrow g (after g s ms) ns → AllNarrow g s (ms ++ ns)
narrow_append g [] ns s h k = k
narrow_append g (m ∷ ms) ns s h k = (h.0, h.1, narrow_append g ms ns (play g s m) h.2 k)

pub after_append : (g : Grid) (ms ns : List Move) (s : Position) → after g s (ms ++ ns) ≡ after g (after g s ms) ns
after_append g [] ns s = refl
after_append g (m ∷ ms) ns s = after_append g ms ns (play g s m)

-- ---- they are legal

-- in a tidy position only mines are flagged
pub flagged_mine : (g : Grid) (s : Position) (j : ℕ) → Tidy g s → T (flagged s j) → T (mine g j)
flagged_mine g s j f t =
    elim (dec_lt j (size g)) [
      | yes h ↦ only h (mine g j) refl
      | no h ↦ absurd (omega (arith, two, eqb→eq (get_or s j 0) 0 (past g s j f.long (omega arith))))
    ]
  where
    two : get_or s j 0 ≡ 2
    two = eqb→eq (get_or s j 0) 2 t

    only : j < size g → (b : Bool) → mine g j ≡ b → T b
    only h true e = tt
    only h false e = subst T (sym (subst (λ (x : ℕ). eqb x 1 ≡ not (eqb x 0)) two (f.safes j h (rw e tt)))) tt

-- so the flags of such a square are as many as its mines
flags_mines : (g : Grid) (s : Position) (i : ℕ) → Tidy g s → AllFlagged g s i → count (flagged s) (square g i) ≡ number g i
unfolding number
flags_mines g s i f t =
    count_ext (flagged s) (mine g) (square g i) (λ j u. iff (flagged s j) (mine g j) (flagged_mine g s j f) (t j u))

pub narrow_legal : (g : Grid) (s : Position) (m : Move) → Tidy g s → T (unfinished g s) → T (narrow g s m) → T (legal g s m)
unfolding legal chordable
narrow_legal g s m f u t =
    let w = narrow→ g s m t in
    and_both (unfinished g s && ltb (cell_of m) (size g)) (allowed g s m)
    (and_both (unfinished g s) (ltb (cell_of m) (size g)) u (lt→ltb (cell_of m) (size g) (narrow_inside w))) (asked m w)
  where
    asked : (m : Move) → Narrow g s m → T (allowed g s m)
    asked (left i) (by_left h a c) = c
    asked (flag i) (by_flag h a c) = c
    asked (chord i) (by_chord h o a) =
        and_both (opened s i && not (zero_cell g i)) (eqb (count (flagged s) (square g i)) (number g i)) o
        (rw (eq-eqb (count (flagged s) (square g i)) (number g i) (flags_mines g s i f a)) tt)
    asked (unflag _) w = elim w [ ]

-- a legal move is on the grid, as the move asks, in a game that is neither won nor lost
pub legal→ : (g : Grid) (s : Position) (m : Move) → T (legal g s m) → T (unfinished g s) × (cell_of m < size g) × T (allowed g s m)
unfolding legal
legal→ g s m t =
    let b = and_left (unfinished g s && ltb (cell_of m) (size g)) (allowed g s m) t in (
      and_left (unfinished g s) (ltb (cell_of m) (size g)) b,
      ltb→lt (cell_of m) (size g) (and_right (unfinished g s) (ltb (cell_of m) (size g)) b),
      and_right (unfinished g s && ltb (cell_of m) (size g)) (allowed g s m) t,
    )

pub legal_inside : (g : Grid) (s : Position) (m : Move) → T (legal g s m) → cell_of m < size g
legal_inside g s m t = (legal→ g s m t).1

-- ---- what they do

-- where no mine is closed none is opened
blow_none : (g : Grid) (xs : List ℕ) (s : Position) → ((x : ℕ) → T (has x xs) → T (mine g x) → T (closed s x) → ⊥) → fold (blow g) s xs ≡ s
unfolding blow
blow_none g [] s n = refl
blow_none g (x ∷ xs) s n =
    ap (λ (b : Bool). fold (blow g) (elim b [ true ↦ set s x 3 | false ↦ s ]) xs)
    (no→false (mine g x && closed s x) (λ t. first_of x xs n (and_left (mine g x) (closed s x) t) (and_right (mine g x) (closed s x) t)))
    ∙ blow_none g xs s (rest_of x xs n)

-- L on a safe cell reveals it
pub play_left : (g : Grid) (s : Position) (i : ℕ) → T (safe g i) → play g s (left i) ≡ reveal g s i
unfolding play
play_left g s i t = blow_none g (i ∷ []) (reveal g s i) (λ x u m c. T_not (mine g i) t (subst (λ (k : ℕ). T (mine g k)) (only_one x i u) m))

-- C where the mines are flagged reveals the cells of its square
pub play_chord : (g : Grid) (s : Position) (i : ℕ) → length s ≡ size g → AllFlagged g s i → play g s (chord i) ≡ fold (reveal g) s (square g i)
unfolding play
play_chord g s i l t =
    blow_none g (square g i) (fold (reveal g) s (square g i)) (λ x u m c. flagged_off s x (t x u m) (fold_fewer g (square g i) s l x c))

pub play_flag : (g : Grid) (s : Position) (i : ℕ) → play g s (flag i) ≡ set s i 2
unfolding play
play_flag g s i = refl

-- ---- they keep a position tidy

pub play_tidy : (g : Grid) (s : Position) (m : Move) → T (narrow g s m) → Tidy g s → Tidy g (play g s m)
play_tidy g s m t f = go m (narrow→ g s m t)
  where
    go : (m : Move) → Narrow g s m → Tidy g (play g s m)
    go (left i) (by_left h a c) = subst (Tidy g) (sym (play_left g s i a)) (reveal_tidy g s i h f)
    go (flag i) (by_flag h a c) = subst (Tidy g) (sym (play_flag g s i)) (flag_tidy g s i h a f)
    go (chord i) (by_chord h o a) =
        subst (Tidy g) (sym (play_chord g s i f.long a)) (fold_tidy g (square g i) s (λ x u. (square→ g i x h u).0) f)
    go (unflag _) w = elim w [ ]

pub after_tidy : (g : Grid) (ms : List Move) (s : Position) → AllNarrow g s ms → Tidy g s → Tidy g (after g s ms)
after_tidy g [] s h f = f
after_tidy g (m ∷ ms) s h f = after_tidy g ms (play g s m) h.2 (play_tidy g s m h.1 f)

-- so each of them is legal where it stands
pub all_legal : (g : Grid) (ms : List Move) (s : Position) → AllNarrow g s ms → Tidy g s → AllLegal g s ms
all_legal g [] s h f = tt
all_legal g (m ∷ ms) s h f = (narrow_legal g s m f h.0 h.1, all_legal g ms (play g s m) h.2 (play_tidy g s m h.1 f))
