-- The rules are the narrow rule (RULES 3.9) in a tidy position: every move that it allowed is legal and comes to the same position, what is legal besides is
-- one of three new moves, and the counts are those it had, for there a safe cell that is not opened is closed and an opening is so as a whole. Assumes nothing.
use Prim.Native.Nat.{ℕ, ◌+◌, ◌<◌}
use native.Mathlib.Omega.{arith}
use mathlib.Core.Path.{◌∙◌, ◌≡◌, ap, refl, subst, sym}
use mathlib.Core.Logic.{◌⊎◌, inl, inr, ⊎_elim}
use mathlib.Core.Bool.{Bool, ◌&&◌, cond, false, not, true}
use mathlib.Core.List.{List, [], ◌∷◌, map}
use lib.IntN.{◌-ℤ◌, pos}
use lib.Dec.{T, T_not, eqb, eqb→eq}
use lib.ListN.{get_or, length-map, set}
use lib.Seq.{ext_get_or}
use Rattle.game.specs.Grid.{Grid, cells, mine, number, safe, size, square, zero_cell}
use Rattle.game.specs.Lists.{all_of, bit, count, fold, has}
use Rattle.game.specs.Moves.{Move, allowed, cell_of, chord, chordable, flag, left, legal, play, reveal, sweep, unflag}
use Rattle.game.specs.Openings.{holds, joined_to, openings, unlabelled}
use Rattle.game.specs.Position.{Position, Tidy, cell_unit, closed, closed_safe, closed_units, cost, flagged, gain, opened, opening_closed, premium, unfinished, unflagged, unopened}
use Rattle.game.proofs.Counts.{count_each, count_ext, count_same, each_map}
use Rattle.game.proofs.Legal.{narrow_chord, narrow_flag, narrow_left}
use Rattle.game.proofs.Members.{all_give, all_has, first_of, rest_of}
use Rattle.game.proofs.Narrow.{Narrow, by_chord, by_flag, by_left, flagged_mine, legal→, narrow, narrow_legal, narrow→, play_chord, play_left}
use Rattle.game.proofs.Openings.{Full, good}
use Rattle.game.proofs.Reveal.{get_d_sweep, length_sweep, unlabelled_safe}
use Rattle.game.proofs.Squares.{cells→, get_d_cells, length_cells, square→}
use Rattle.game.proofs.Tidy.{reveal_tidy, tidy_opening, tidy_unopened}
use Rattle.game.proofs.Truth.{and_left, and_right, and_under, iff}

-- ---- what the narrow rule's moves did

-- the position with the whole opening of a 0-cell opened
unfoldable pub old_sweep : Grid → Position → ℕ → Position
old_sweep g s z = map (λ j. cond (holds g j (joined_to g z)) 1 (get_or s j 0)) (cells g)

-- a closed safe cell is opened, and if its number is 0, its whole opening; any other cell stays as it is
unfoldable pub old_reveal : Grid → Position → ℕ → Position
old_reveal g s i =
    elim (safe g i && closed s i) [
      | true ↦ elim (zero_cell g i) [ true ↦ old_sweep g s i | false ↦ set s i 1 ]
      | false ↦ s
    ]

-- L opens the cell, and for a 0-cell its whole opening; F flags; C does so with every closed safe cell of its square; no flag was taken away
unfoldable pub old_play : Grid → Position → Move → Position
old_play g s (left i) = old_reveal g s i
old_play g s (flag i) = set s i 2
old_play g s (chord i) = fold (old_reveal g) s (square g i)
old_play g s (unflag i) = s

-- ---- each of them comes to the same position

same-sweep : (g : Grid) (s : Position) (c : ℕ) → c < size g → Tidy g s → T (zero_cell g c) → T (closed s c) → sweep g s c ≡ old_sweep g s c
unfolding old_sweep
same-sweep g s c h f z t =
    ext_get_or 0 (sweep g s c) (old_sweep g s c) (length_sweep g s c ∙ sym (length-map (cells g) after ∙ length_cells g))
    (λ j k.
    let l = length_sweep g s c in
    get_d_sweep g s c f (record { inside = h; none = z }) t j (omega arith) ∙ sym (get_d_cells g after j (omega arith)))
  where
    after : ℕ → ℕ
    after j = cond (holds g j (joined_to g c)) 1 (get_or s j 0)

same-reveal : (g : Grid) (s : Position) (c : ℕ) → c < size g → Tidy g s → reveal g s c ≡ old_reveal g s c
unfolding reveal old_reveal
same-reveal g s c h f = go (safe g c && closed s c) refl (zero_cell g c) refl
  where
    go : (b : Bool) → (safe g c && closed s c) ≡ b → (d : Bool) → zero_cell g c ≡ d
        → ◌≡◌ {A = Position} (elim b [ true ↦ elim d [ true ↦ sweep g s c | false ↦ set s c 1 ] | false ↦ s ])
        (elim b [ true ↦ elim d [ true ↦ old_sweep g s c | false ↦ set s c 1 ] | false ↦ s ])
    go false e d k = refl
    go true e false k = refl
    go true e true k = same-sweep g s c h f (rw k tt) (and_right (safe g c) (closed s c) (rw e tt))

same-reveals : (g : Grid) (xs : List ℕ) (s : Position) → ((x : ℕ) → T (has x xs) → x < size g) → Tidy g s → fold (reveal g) s xs ≡ fold (old_reveal g) s xs
same-reveals g [] s h f = refl
same-reveals g (x ∷ xs) s h f =
    same-reveals g xs (reveal g s x) (rest_of x xs h) (reveal_tidy g s x (first_of x xs h) f)
    ∙ ap (λ (t : Position). fold (old_reveal g) t xs) (same-reveal g s x (first_of x xs h) f)

-- every move that the narrow rule allowed comes to the same position
pub same-play : (g : Grid) (s : Position) (m : Move) → Tidy g s → T (narrow g s m) → play g s m ≡ old_play g s m
unfolding play old_play
same-play g s m f t = go m (narrow→ g s m t)
  where
    go : (m : Move) → Narrow g s m → play g s m ≡ old_play g s m
    go (left i) (by_left h a c) = play_left g s i a ∙ same-reveal g s i h f
    go (flag i) (by_flag h a c) = refl
    go (chord i) (by_chord h o a) = play_chord g s i f.long a ∙ same-reveals g (square g i) s (λ x u. (square→ g i x h u).0) f
    go (unflag _) w = elim w [ ]

-- ---- what is legal

-- every move that the narrow rule allowed is legal while the game is unfinished
pub still_legal : (g : Grid) (s : Position) (m : Move) → Tidy g s → T (unfinished g s) → T (narrow g s m) → T (legal g s m)
still_legal = narrow_legal

-- the moves that are new: F on a closed safe cell, a flag taken away, and L on a closed mine
pub data New (g : Grid) (s : Position) : Move → Type 0 where
  flags_safe : {i : ℕ} → T (safe g i) → T (closed s i) → New g s (flag i)
  unflags : {i : ℕ} → T (flagged s i) → New g s (unflag i)
  clicks_mine : {i : ℕ} → T (mine g i) → T (closed s i) → New g s (left i)

-- as many flags as mines, and flags on mines only: all mines of the square are flagged
chord_narrow : (g : Grid) (s : Position) (i : ℕ) → i < size g → Tidy g s → T (chordable g s i) → T (narrow g s (chord i))
unfolding chordable number
chord_narrow g s i h f t =
    let o = and_left (opened s i && not (zero_cell g i)) (eqb (count (flagged s) (square g i)) (number g i)) t in
    let e = eqb→eq (count (flagged s) (square g i)) (number g i) (and_right (opened s i && not (zero_cell g i)) (eqb (count (flagged s) (square g i)) (number g i)) t) in
    narrow_chord g s i h (and_left (opened s i) (not (zero_cell g i)) o) (and_right (opened s i) (not (zero_cell g i)) o)
    (count_same (flagged s) (mine g) (square g i) (λ x. flagged_mine g s x f) (omega arith))

-- a cell is a mine or safe
mine_or_safe : (b : Bool) → T b ⊎ T (not b)
mine_or_safe true = inl tt
mine_or_safe false = inr tt

-- every legal move is one that the narrow rule allowed, or new
pub only_new : (g : Grid) (s : Position) (m : Move) → Tidy g s → T (legal g s m) → T (narrow g s m) ⊎ New g s m
only_new g s m f t = let r = legal→ g s m t in go m r.1 r.2
  where
    go : (m : Move) → cell_of m < size g → T (allowed g s m) → T (narrow g s m) ⊎ New g s m
    go (left i) h c = ⊎_elim (λ u. inr (clicks_mine u c)) (λ u. inl (narrow_left g s i h u c)) (mine_or_safe (mine g i))
    go (flag i) h c = ⊎_elim (λ u. inl (narrow_flag g s i h u c)) (λ u. inr (flags_safe u c)) (mine_or_safe (mine g i))
    go (chord i) h c = inl (chord_narrow g s i h f c)
    go (unflag i) h c = inr (unflags c)

-- and none is both
pub new_refused : (g : Grid) (s : Position) (m : Move) → New g s m → T (narrow g s m) → ⊥
new_refused g s m n t = go m n (narrow→ g s m t)
  where
    go : (m : Move) → New g s m → Narrow g s m → ⊥
    go (flag i) (flags_safe a c) (by_flag h b d) = T_not (mine g i) a b
    go (left i) (clicks_mine a c) (by_left h b d) = T_not (mine g i) b a
    go (chord _) n _ = elim n [ ]
    go (unflag _) _ w = elim w [ ]

-- ---- the counts

-- an opening is closed while all its 0-cells are closed
old_opening : (g : Grid) (s : Position) (o : List ℕ) → Tidy g s → Full g o → opening_closed s o ≡ all_of (closed s) o
old_opening g s o f k =
    let b = k.begun in
    iff (opening_closed s o) (all_of (closed s) o)
    (λ u. all_give (closed s) o (λ a t. subst T (tidy_opening g s o a f k t) u))
    (λ u. rw (tidy_opening g s o b.0 f k b.1) (all_has (closed s) b.0 o b.1 u))

-- a cell without label is a closed unit while it is closed and not flagged
old_cell : (g : Grid) (s : Position) (j : ℕ) → Tidy g s → j < size g → cell_unit g s j ≡ (unlabelled g j && closed s j)
old_cell g s j f h = and_under (unlabelled g j) (unopened s j) (closed s j) (λ t. tidy_unopened g s j f h (unlabelled_safe g j t))

module _ (g : Grid) (s : Position) (f : Tidy g s) where
  -- the closed units
  pub same_units : closed_units g s ≡ count (all_of (closed s)) (openings g) + count (λ i. unlabelled g i && closed s i) (cells g)
  unfolding closed_units
  same_units =
      let a = count_each (opening_closed s) (all_of (closed s)) (openings g) (each_map (openings g) (λ o k. old_opening g s o f k) (good g).full) in
      let b = count_ext (cell_unit g s) (λ i. unlabelled g i && closed s i) (cells g) (λ j t. old_cell g s j f (cells→ g j t)) in
      omega arith

  -- the safe cells left
  pub same_left : closed_safe g s ≡ count (λ i. safe g i && closed s i) (cells g)
  unfolding closed_safe
  same_left =
      count_ext (λ i. safe g i && unopened s i) (λ i. safe g i && closed s i) (cells g)
      (λ j t. and_under (safe g j) (unopened s j) (closed s j) (λ u. tidy_unopened g s j f (cells→ g j t) u))

  module _ (i : ℕ) (h : i < size g) where
    -- the gain at a cell
    pub same-gain : gain g s i ≡ count (λ o. holds g i o && all_of (closed s) o) (openings g) + count (λ j. unlabelled g j && closed s j) (square g i)
    unfolding gain
    same-gain =
        let a = count_each (λ o. holds g i o && opening_closed s o) (λ o. holds g i o && all_of (closed s) o) (openings g)
        (each_map (openings g) (λ o k. ap (λ (b : Bool). holds g i o && b) (old_opening g s o f k)) (good g).full) in
        let b = count_ext (cell_unit g s) (λ j. unlabelled g j && closed s j) (square g i) (λ j t. old_cell g s j f (square→ g i j h t).0) in
        omega arith

    -- the cost at a safe cell
    pub same-cost : T (safe g i) → cost g s i ≡ count (unflagged g s) (square g i) + 1 + bit (closed s i)
    unfolding cost
    same-cost t = ap (λ (b : Bool). count (unflagged g s) (square g i) + 1 + bit b) (tidy_unopened g s i f h t)

    -- the premium of a safe cell
    pub same-premium : T (safe g i) → premium g s i
        ≡ pos (count (λ o. holds g i o && all_of (closed s) o) (openings g) + count (λ j. unlabelled g j && closed s j) (square g i))
        -ℤ pos (count (unflagged g s) (square g i) + 1 + bit (closed s i))
    unfolding premium
    same-premium t = rw (same-gain, same-cost t)
