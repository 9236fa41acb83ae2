-- What moves take from the closed units: the moves at a chosen cell take what it gains, a click on a unit takes one. Assumes nothing.
use Prim.Native.Nat.{ℕ, ◌+◌, ◌<◌, ◌≤◌}
use native.Mathlib.Omega.{arith}
use mathlib.Core.Path.{◌∙◌, ◌≡◌, ap, refl, subst, sym}
use mathlib.Core.Logic.{◌⊎◌, ⊎_elim}
use mathlib.Core.Bool.{Bool, ◌&&◌, cond, false, not, true}
use mathlib.Core.List.{List, [], ◌++◌, ◌∷◌, map}
use lib.Dec.{T, eqb, eqb→eq}
use lib.ListN.{length, length-append, set}
use Rattle.game.specs.Grid.{Grid, cells, mine, safe, size, square, zero_cell}
use Rattle.game.specs.Lists.{bit, count, fold, has, keep, some_of}
use Rattle.game.specs.Moves.{after, chord, flag, left, play, reveal}
use Rattle.game.specs.Openings.{gather, holds, joined_to, openings, three_bv, unlabelled}
use Rattle.game.specs.Position.{Position, Tidy, cell_unit, closed, closed_units, flagged, gain, opening_closed, unflagged, unopened, untouched}
use Rattle.game.specs.Rounds.{moves_at}
use Rattle.game.proofs.Counts.{bit_no, bit_yes, count_each, count_ext, count_none, count_point, count_split, each_map}
use Rattle.game.proofs.Legal.{flagged_mines, flagged_tidy, none_of}
use Rattle.game.proofs.Members.{first_of, keep_has, only_one, rest_of, some_same, some_yes}
use Rattle.game.proofs.Narrow.{AllFlagged, after_append, play_chord, play_left}
use Rattle.game.proofs.Opened.{fold_opening, fold_unlabelled, reveal_opening, reveal_unlabelled}
use Rattle.game.proofs.Openings.{Full, good}
use Rattle.game.proofs.Owners.{closed_unopened, count_off, opening_shut, owner}
use Rattle.game.proofs.Reveal.{Unlabelled, flag_stays, unlabelled_safe, zero_labelled, zero_safe}
use Rattle.game.proofs.Squares.{cells→, count_square, in-own-square, length_cells, once_cells, square→, →cells}
use Rattle.game.proofs.Truth.{absorb, and_both, and_inside, and_left, and_right, and_true}
use Rattle.game.proofs.Untouched.{opening_untouched, unopened_untouched}
use Rattle.game.proofs.Zeros.{Zero}

-- ---- what was taken

-- t has the closed unlabelled cells and openings of s but for those that p and q name
pub record Taken (g : Grid) (p : ℕ → Bool) (q : List ℕ → Bool) (s t : Position) : Type 0 where
  pub bares : (j : ℕ) → Unlabelled g j → unopened t j ≡ (unopened s j && not (p j))
  pub sets : (o : List ℕ) → Full g o → opening_closed t o ≡ (opening_closed s o && not (q o))

-- the count of what was taken
units_taken : (g : Grid) (p : ℕ → Bool) (q : List ℕ → Bool) (s t : Position) → Taken g p q s t
    → closed_units g s ≡ closed_units g t + (count (λ o. q o && opening_closed s o) (openings g) + count (λ j. p j && cell_unit g s j) (cells g))
unfolding closed_units
units_taken g p q s t k =
    let a = count_split (opening_closed s) q (openings g) in
    let b = count_each (opening_closed t) (λ o. opening_closed s o && not (q o)) (openings g) (each_map (openings g) k.sets (good g).full) in
    let c = count_split (cell_unit g s) p (cells g) in
    let d = count_ext (λ j. cell_unit g s j && not (p j)) (cell_unit g t) (cells g)
    (λ j u. and_inside (unlabelled g j) (unopened s j) (unopened t j) (p j) (λ v. k.bares j (record { inside = cells→ g j u; bare = v }))) in
    omega arith

-- one after the other, where the second takes what the first does
two_turns : (g : Grid) (p p' : ℕ → Bool) (q q' : List ℕ → Bool) (s t u : Position) → ((j : ℕ) → T (p j) → T (p' j)) → ((o : List ℕ) → T (q o) → T (q' o))
    → Taken g p q s t → Taken g p' q' t u → Taken g p' q' s u
two_turns g p p' q q' s t u hp hq a b =
    record {
      bares = λ j k. b.bares j k ∙ ap (λ (x : Bool). x && not (p' j)) (a.bares j k) ∙ absorb (unopened s j) (p j) (p' j) (hp j);
      sets = λ o f. b.sets o f ∙ ap (λ (x : Bool). x && not (q' o)) (a.sets o f) ∙ absorb (opening_closed s o) (q o) (q' o) (hq o);
    }

nothing_taken : (g : Grid) (s : Position) → Taken g (λ j. false) (λ o. false) s s
nothing_taken g s = record { bares = λ j k. and_true (unopened s j); sets = λ o f. and_true (opening_closed s o) }

-- a reveal takes its cell, or the opening that has it
reveal_taken : (g : Grid) (s : Position) (i : ℕ) → i < size g → Tidy g s → Taken g (λ j. eqb j i) (has i) s (reveal g s i)
reveal_taken g s i h f = record { bares = λ j k. reveal_unlabelled g s i j h f k; sets = λ o k. reveal_opening g s i o h f k }

-- ---- the moves at a cell

-- flags on mines take nothing
flags_taken : (g : Grid) (js : List ℕ) (s : Position) → ((j : ℕ) → T (has j js) → T (mine g j)) → Taken g (λ j. false) (λ o. false) s (after g s (map flag js))
unfolding play
flags_taken g [] s h = nothing_taken g s
flags_taken g (x ∷ js) s h =
    two_turns g (λ j. false) (λ j. false) (λ o. false) (λ o. false) s (set s x 2) (after g (set s x 2) (map flag js)) (λ j t. t) (λ o t. t)
    (record {
      bares = λ j k. other j (unlabelled_safe g j k.bare) ∙ and_true (unopened s j);
      sets = λ o f. some_same (unopened (set s x 2)) (unopened s) o (λ z t. other z (zero_safe g z (f.zero-cell z t))) ∙ and_true (opening_closed s o);
    })
    (flags_taken g js (set s x 2) (rest_of x js h))
  where
    other : (j : ℕ) → T (safe g j) → unopened (set s x 2) j ≡ unopened s j
    other j t = ap (λ (k : ℕ). not (eqb k 1)) (flag_stays g s x j (first_of x js h) t)

-- one flag on a mine leaves as many units closed
pub units_flag : (g : Grid) (s : Position) (i : ℕ) → T (mine g i) → closed_units g (play g s (flag i)) ≡ closed_units g s
units_flag g s i t =
    let a = units_taken g (λ j. false) (λ o. false) s (play g s (flag i)) (flags_taken g (i ∷ []) s (λ j u. rw (only_one j i u) t)) in
    let b = none_of (openings g) in
    let c = count_none (λ j. false) (cells g) (λ j u v. v) in
    omega arith

click_taken : (g : Grid) (s : Position) (i : ℕ) → i < size g → T (safe g i) → Tidy g s → (b : Bool)
    → Taken g (λ j. b && eqb j i) (λ o. b && has i o) s (after g s (cond b (left i ∷ []) []))
click_taken g s i h t f true = subst (Taken g (λ j. eqb j i) (has i) s) (sym (play_left g s i t)) (reveal_taken g s i h f)
click_taken g s i h t f false = nothing_taken g s

chord_taken : (g : Grid) (s : Position) (i : ℕ) → i < size g → Tidy g s → AllFlagged g s i → Taken g (λ j. has j (square g i)) (holds g i) s (play g s (chord i))
chord_taken g s i h f t =
    let inside : (x : ℕ) → T (has x (square g i)) → x < size g = λ x t. (square→ g i x h t).0 in
    subst (Taken g (λ j. has j (square g i)) (holds g i) s) (sym (play_chord g s i f.long t))
    (record { bares = λ j k. fold_unlabelled g (square g i) s j inside f k; sets = λ o k. fold_opening g (square g i) s o inside f k })

-- L, flags and C one after the other
pub after_moves : (g : Grid) (s : Position) (i : ℕ)
    → after g s (moves_at g s i) ≡ play g (after g (after g s (cond (closed s i) (left i ∷ []) [])) (map flag (keep (unflagged g s) (square g i)))) (chord i)
unfolding moves_at
after_moves g s i =
    after_append g (cond (closed s i) (left i ∷ []) [] ++ map flag (keep (unflagged g s) (square g i))) (chord i ∷ []) s
    ∙ ap (λ (t : Position). play g t (chord i)) (after_append g (cond (closed s i) (left i ∷ []) []) (map flag (keep (unflagged g s) (square g i))) s)

module _ (g : Grid) (s : Position) (i : ℕ) (f : Tidy g s) (h : i < size g) (t : T (safe g i)) (n : T (zero_cell g i) → ⊥) where
  -- the moves at i take the unlabelled cells of i's square and the openings that hold i
  moves_taken : Taken g (λ j. has j (square g i)) (holds g i) s (after g s (moves_at g s i))
  moves_taken =
      subst (Taken g (λ j. has j (square g i)) (holds g i) s) (sym (after_moves g s i))
      (two_turns g (λ j. closed s i && eqb j i) (λ j. has j (square g i)) (λ o. closed s i && has i o) (holds g i) s s₁ (play g s₂ (chord i))
      (λ j u. subst (λ (k : ℕ). T (has k (square g i))) (sym (eqb→eq j i (and_right (closed s i) (eqb j i) u))) (in-own-square g i h))
      (λ o u. some_yes (λ j. has j o) i (square g i) (in-own-square g i h) (and_right (closed s i) (has i o) u))
      (click_taken g s i h t f (closed s i))
      (two_turns g (λ j. false) (λ j. has j (square g i)) (λ o. false) (holds g i) s₁ s₂ (play g s₂ (chord i)) (λ j u. absurd u) (λ o u. absurd u)
      (flags_taken g ms s₁ (λ j u. and_left (mine g j) (not (flagged s j)) (keep_has (unflagged g s) j (square g i) u).1))
      (chord_taken g s₂ i h (flagged_tidy g s i f h t n) (flagged_mines g s i f h t n))))
    where
      ms : List ℕ
      ms = keep (unflagged g s) (square g i)

      s₁ : Position
      s₁ = after g s (cond (closed s i) (left i ∷ []) [])

      s₂ : Position
      s₂ = after g s₁ (map flag ms)

  -- the moves at a cell take from the closed units what the cell gains
  pub units_moves : closed_units g s ≡ closed_units g (after g s (moves_at g s i)) + gain g s i
  unfolding gain
  units_moves =
      let a = units_taken g (λ j. has j (square g i)) (holds g i) s (after g s (moves_at g s i)) moves_taken in
      let b = count_square g (cell_unit g s) i h in
      omega arith

-- ---- one L on a closed unit

pub units_click : (g : Grid) (s : Position) (c : ℕ) → c < size g → Tidy g s → T (closed s c) → T (zero_cell g c) ⊎ T (unlabelled g c)
    → closed_units g s ≡ closed_units g (reveal g s c) + 1
units_click g s c h f t which =
    let a = units_taken g (λ j. eqb j c) (has c) s (reveal g s c) (reveal_taken g s c h f) in
    let b = count_point (cell_unit g s) c (cells g) (once_cells g) (→cells g c h) in
    ⊎_elim
    (λ n.
    let z : Zero g c = record { inside = h; none = n } in
    let w = owner g c z in
    let d = w.only (opening_closed s) in
    let e = ap bit (opening_shut s w.opening c w.has_it t) in
    let m = bit_no (cell_unit g s c) (λ u. zero_labelled g c z (and_left (unlabelled g c) (unopened s c) u)) in
    omega arith)
    (λ n.
    let d = count_off c (opening_closed s) (openings g) (λ u. zero_labelled g c ((good g).zeros c u) n) in
    let m = bit_yes (cell_unit g s c) (and_both (unlabelled g c) (unopened s c) n (closed_unopened s c t)) in
    omega arith)
    which

-- a closed numbered cell that has a label takes none: no opening has it, and it is no unit of its own
pub units_border : (g : Grid) (s : Position) (c : ℕ) → c < size g → Tidy g s → (T (zero_cell g c) → ⊥) → (T (unlabelled g c) → ⊥)
    → closed_units g s ≡ closed_units g (reveal g s c)
units_border g s c h f z u =
    let a = units_taken g (λ j. eqb j c) (has c) s (reveal g s c) (reveal_taken g s c h f) in
    let b = count_point (cell_unit g s) c (cells g) (once_cells g) (→cells g c h) in
    let d = count_off c (opening_closed s) (openings g) (λ t. z ((good g).zeros c t).none) in
    let m = bit_no (cell_unit g s c) (λ t. u (and_left (unlabelled g c) (unopened s c) t)) in
    omega arith

-- the same of the move
pub units_left : (g : Grid) (s : Position) (c : ℕ) → T (safe g c) → c < size g → Tidy g s → T (closed s c) → T (zero_cell g c) ⊎ T (unlabelled g c)
    → closed_units g s ≡ closed_units g (play g s (left c)) + 1
units_left g s c k h f t which = rw (play_left g s c k) (units_click g s c h f t which)

-- ---- before any move all units are closed

count_all : (os : List (List ℕ)) → count (λ o. true) os ≡ length os
count_all [] = refl
count_all (o ∷ os) = let r = count_all os in omega arith

pub units_untouched : (g : Grid) → closed_units g (untouched g) ≡ three_bv g
unfolding closed_units three_bv
units_untouched g =
    let a = count_each (opening_closed (untouched g)) (λ o. true) (openings g) (each_map (openings g) (opening_untouched g) (good g).full) in
    let b = count_all (openings g) in
    let c = count_ext (cell_unit g (untouched g)) (unlabelled g) (cells g)
    (λ i t. ap (λ (b : Bool). unlabelled g i && b) (unopened_untouched g i (cells→ g i t)) ∙ sym (and_true (unlabelled g i))) in
    omega arith

-- ---- 3BV is at most the cells: each opening begins at a 0-cell of its own, and no 0-cell is unlabelled

gather_length : (g : Grid) (xs : List ℕ) (os : List (List ℕ)) → length (fold (gather g) os xs) ≤ length os + count (zero_cell g) xs
gather_length g [] os = omega arith
gather_length g (x ∷ xs) os = omega (arith, gather_length g xs (gather g os x), one (zero_cell g x) (some_of (has x) os))
  where
    one : (a b : Bool) → length {A = List ℕ} (elim (a && not b) [ true ↦ os ++ (joined_to g x ∷ []) | false ↦ os ]) ≤ length os + bit a
    one true true = omega arith
    one true false = omega (arith, length-append os (joined_to g x ∷ []))
    one false b = omega arith

pub units_at_most_cells : (g : Grid) → three_bv g ≤ size g
unfolding three_bv openings
units_at_most_cells g =
    let a = gather_length g (cells g) [] in
    let b = disjoint (cells g) (λ i t. cells→ g i t) in
    omega (arith, length_cells g)
  where
    disjoint : (xs : List ℕ) → ((i : ℕ) → T (has i xs) → i < size g) → count (zero_cell g) xs + count (unlabelled g) xs ≤ length xs
    disjoint [] h = omega arith
    disjoint (x ∷ xs) h = omega (arith, disjoint xs (rest_of x xs h), one (zero_cell g x) refl (unlabelled g x) refl)
      where
        one : (a : Bool) → zero_cell g x ≡ a → (b : Bool) → unlabelled g x ≡ b → bit a + bit b ≤ 1
        one true e true k = absurd (zero_labelled g x (record { inside = first_of x xs h; none = rw e tt }) (rw k tt))
        one true e false k = omega arith
        one false e true k = omega arith
        one false e false k = omega arith
