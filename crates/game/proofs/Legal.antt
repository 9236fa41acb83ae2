-- The moves at a chosen cell are those of the rounds where they stand: L opens it, F stands on each mine left, so C may follow; a unit is closed until then. Assumes nothing.
use Prim.Native.Nat.{ℕ, ◌+◌, ◌<◌, ◌≤◌}
use native.Mathlib.Omega.{arith}
use native.Mathlib.Decide.{dec_le, ℕ_discrete}
use mathlib.Core.Path.{◌∙◌, ◌≡◌, ap, refl, subst, sym}
use mathlib.Core.Logic.{◌⊎◌, inl, inr}
use mathlib.Core.Bool.{Bool, ◌&&◌, ◌||◌, cond, false, not, true}
use mathlib.Core.List.{List, [], ◌++◌, ◌∷◌, map}
use lib.Dec.{T, T_not, eqb, ltb, lt→ltb, not_T}
use lib.ListN.{get_or, length, length-set, set}
use lib.Seq.{get_or-set_other, get_or-set_same}
use Rattle.game.specs.Grid.{Grid, cells, mine, safe, size, square, zero_cell}
use Rattle.game.specs.Lists.{bit, count, has, keep}
use Rattle.game.specs.Moves.{after, chord, flag, left, play}
use Rattle.game.specs.Openings.{holds, openings, unlabelled}
use Rattle.game.specs.Position.{Position, Tidy, cell_unit, closed, closed_safe, cost, flagged, gain, opened, opening_closed, unflagged, unopened}
use Rattle.game.specs.Rounds.{moves_at, unit_cells}
use Rattle.game.proofs.Choices.{unit→}
use Rattle.game.proofs.Counts.{Once, bit_small, bit_yes, count_each, count_ext, count_none, each_map, none_counted}
use Rattle.game.proofs.Labels.{holds_zero}
use Rattle.game.proofs.Members.{all_give, first_of, has_keep, keep_has, rest_of, yes_some}
use Rattle.game.proofs.Narrow.{AllFlagged, AllNarrow, after_append, mines_flagged, narrow, narrow_append, play_left}
use Rattle.game.proofs.Openings.{Full, good}
use Rattle.game.proofs.Orders.{once_keep}
use Rattle.game.proofs.Owners.{closed_unopened, owner}
use Rattle.game.proofs.Premiums.{open_gain}
use Rattle.game.proofs.Reveal.{flag_stays, no_zero_near, reveal_one, unlabelled_safe, zero_safe}
use Rattle.game.proofs.Squares.{close_sym, once_square, square→, →cells, →square}
use Rattle.game.proofs.Tidy.{flag_tidy, reveal_tidy, tidy_opening, tidy_unfinished, tidy_unopened}
use Rattle.game.proofs.Truth.{T_other, and_both, and_false, and_left, and_right, and_under, cond_same, no→false}
use Rattle.game.proofs.Zeros.{Zero}
use borrow.Author.Tests.{eq-eqb, ne_eqb}

-- ---- one move

pub narrow_left : (g : Grid) (s : Position) (i : ℕ) → i < size g → T (safe g i) → T (closed s i) → T (narrow g s (left i))
unfolding narrow
narrow_left g s i h t u =
    and_both (ltb i (size g) && safe g i) (closed s i) (and_both (ltb i (size g)) (safe g i) (lt→ltb i (size g) h) t) u

pub narrow_flag : (g : Grid) (s : Position) (i : ℕ) → i < size g → T (mine g i) → T (closed s i) → T (narrow g s (flag i))
unfolding narrow
narrow_flag g s i h t u =
    and_both (ltb i (size g) && mine g i) (closed s i) (and_both (ltb i (size g)) (mine g i) (lt→ltb i (size g) h) t) u

-- C on an opened cell whose mines are all flagged, also where it opens nothing
pub narrow_chord : (g : Grid) (s : Position) (i : ℕ) → i < size g → T (opened s i) → T (not (zero_cell g i)) → AllFlagged g s i → T (narrow g s (chord i))
unfolding narrow
narrow_chord g s i h t n f =
    and_both (ltb i (size g) && (opened s i && not (zero_cell g i))) (mines_flagged g s i)
    (and_both (ltb i (size g)) (opened s i && not (zero_cell g i)) (lt→ltb i (size g) h) (and_both (opened s i) (not (zero_cell g i)) t n))
    (all_give (λ j. not (mine g j) || flagged s j) (square g i) (λ j u. either (mine g j) (flagged s j) (f j u)))
  where
    either : (a b : Bool) → (T a → T b) → T (not a || b)
    either true b h = h tt
    either false b h = tt

-- a click on a closed unit is one
pub click_narrow : (g : Grid) (s : Position) (i : ℕ) → T (has i (unit_cells g s)) → T (narrow g s (left i))
click_narrow g s i t = let u = unit→ g s i t in narrow_left g s i u.inside u.is_safe u.is_closed

-- ---- while something is gained, a safe cell is closed

pub none_of : (os : List (List ℕ)) → count (λ o. false) os ≡ 0
none_of [] = refl
none_of (o ∷ os) = omega (arith, none_of os)

module _ (g : Grid) (s : Position) (done : closed_safe g s ≡ 0) where
  pub none_left : (i : ℕ) → i < size g → T (safe g i) → T (unopened s i) → ⊥
  unfolding closed_safe
  none_left i h t u = none_counted (λ i. safe g i && unopened s i) (cells g) done i (→cells g i h) (and_both (safe g i) (unopened s i) t u)

  pub opening_left : (o : List ℕ) → Full g o → opening_closed s o ≡ false
  opening_left o k =
      no→false (opening_closed s o) (λ t.
      let a = yes_some (unopened s) o t in
      let z = k.zero-cell a.0 a.1 in
      none_left a.0 z.inside (zero_safe g a.0 z) a.2)

  pub cell_left : (i : ℕ) → i < size g → T (cell_unit g s i) → ⊥
  cell_left i h u = none_left i h (unlabelled_safe g i (and_left (unlabelled g i) (unopened s i) u)) (and_right (unlabelled g i) (unopened s i) u)

  no_gain : (i : ℕ) → i < size g → gain g s i ≡ 0
  unfolding gain
  no_gain i h =
      let a = count_each (λ o. holds g i o && opening_closed s o) (λ o. false) (openings g)
      (each_map (openings g) (λ o k. ap (λ (b : Bool). holds g i o && b) (opening_left o k) ∙ sym (and_false (holds g i o))) (good g).full) in
      let b = count_none (cell_unit g s) (square g i) (λ j t u. cell_left j (square→ g i j h t).0 u) in
      omega (arith, none_of (openings g))

gain_left : (g : Grid) (s : Position) (i : ℕ) → i < size g → 1 ≤ gain g s i → 1 ≤ closed_safe g s
gain_left g s i h k =
    elim (dec_le 1 (closed_safe g s)) [
      | yes e ↦ e
      | no n ↦ absurd (omega (arith, no_gain g s (omega arith) i h))
    ]

-- ---- in a tidy position a 0-cell costs more than it gains, so none is chosen

pub zero_poor : (g : Grid) (s : Position) (i : ℕ) → Tidy g s → Zero g i → gain g s i < cost g s i
unfolding gain cost
zero_poor g s i tidy z =
    let w = owner g i z in
    let a = count_each (λ o. holds g i o && opening_closed s o) (λ o. has i o && opening_closed s o) (openings g)
    (each_map (openings g) (λ o f. ap (λ (b : Bool). b && opening_closed s o) (holds_zero g i o z f)) (good g).full) in
    let b = w.only (opening_closed s) in
    let c = ap bit (tidy_opening g s w.opening i tidy w.full w.has_it ∙ sym (tidy_unopened g s i tidy z.inside (zero_safe g i z))) in
    let d = count_none (cell_unit g s) (square g i) (λ j t u.
    let q = square→ g i j z.inside t in
    no_zero_near g j i (and_left (unlabelled g j) (unopened s j) u) (→square g j i q.0 z.inside (close_sym g i j q.1)) z) in
    omega arith

-- ---- flags

-- a flag on a mine leaves the safe cells left
flag_safe : (g : Grid) (s : Position) (m : ℕ) → T (mine g m) → closed_safe g (set s m 2) ≡ closed_safe g s
unfolding closed_safe
flag_safe g s m t =
    count_ext (λ i. safe g i && unopened (set s m 2) i) (λ i. safe g i && unopened s i) (cells g)
    (λ j u. and_under (safe g j) (unopened (set s m 2) j) (unopened s j) (λ k. ap (λ (x : ℕ). not (eqb x 1)) (flag_stays g s m j t k)))

flags_safe : (g : Grid) (js : List ℕ) (s : Position) → ((j : ℕ) → T (has j js) → T (mine g j)) → closed_safe g (after g s (map flag js)) ≡ closed_safe g s
unfolding play
flags_safe g [] s h = refl
flags_safe g (x ∷ js) s h = flags_safe g js (set s x 2) (rest_of x js h) ∙ flag_safe g s x (first_of x js h)

flags_narrow : (g : Grid) (js : List ℕ) (t : Position) → Once js → ((j : ℕ) → T (has j js) → (j < size g) × T (mine g j) × T (closed t j)) → Tidy g t → 1 ≤ closed_safe g t
    → AllNarrow g t (map flag js)
unfolding play
flags_narrow g [] t o h f c = tt
flags_narrow g (x ∷ js) t o h f c =
    let k = first_of x js h in (
      tidy_unfinished g t f c,
      narrow_flag g t x k.0 k.1 k.2,
      flags_narrow g js (set t x 2) o.1 (λ j u.
          let q = rest_of x js h j u in
          (q.0, q.1, subst T (sym (ap (λ (v : ℕ). eqb v 0) (get_or-set_other t x j 2 0 (λ e. o.0 (rw (← e) u))))) q.2))
          (flag_tidy g t x k.0 k.1 f) (omega (arith, flag_safe g t x k.1)),
    )

flags_at : (g : Grid) (js : List ℕ) (t : Position) (j : ℕ) → j < length t → get_or (after g t (map flag js)) j 0 ≡ cond (has j js) 2 (get_or t j 0)
unfolding play
flags_at g [] t j h = refl
flags_at g (x ∷ js) t j h =
    flags_at g js (set t x 2) j (rw (length-set t x 2) h)
    ∙ elim (ℕ_discrete j x) [
      | yes e ↦ ap (λ (v : ℕ). cond (has j js) 2 v) (ap (λ (k : ℕ). get_or (set t x 2) k 0) e ∙ get_or-set_same t x 2 0 (rw (← e) h)) ∙ cond_same (has j js) 2
          ∙ sym (ap (λ (b : Bool). cond (b || has j js) 2 (get_or t j 0)) (eq-eqb j x e))
      | no n ↦ ap (λ (v : ℕ). cond (has j js) 2 v) (get_or-set_other t x j 2 0 n)
          ∙ sym (ap (λ (b : Bool). cond (b || has j js) 2 (get_or t j 0)) (ne_eqb j x n))
    ]

-- ---- the moves at a chosen cell

-- flags on mines keep a position tidy
flags_tidy : (g : Grid) (js : List ℕ) (t : Position) → ((j : ℕ) → T (has j js) → (j < size g) × T (mine g j)) → Tidy g t → Tidy g (after g t (map flag js))
unfolding play
flags_tidy g [] t h f = f
flags_tidy g (x ∷ js) t h f = let k = first_of x js h in flags_tidy g js (set t x 2) (rest_of x js h) (flag_tidy g t x k.0 k.1 f)

-- t is s with the cell i opened
record OpenedAt (g : Grid) (s t : Position) (i : ℕ) : Type 0 where
  tidy : Tidy g t
  is_open : T (opened t i)
  others : (j : ℕ) → (j ≡ i → ⊥) → get_or t j 0 ≡ get_or s j 0

module _ (g : Grid) (s : Position) (i : ℕ) (f : Tidy g s) (h : i < size g) (t : T (safe g i)) (n : T (zero_cell g i) → ⊥) where
  -- L on it opens it alone
  click_alone : T (closed s i) → play g s (left i) ≡ set s i 1
  click_alone u = play_left g s i t ∙ reveal_one g s i t u n

  clicked : (b : Bool) → closed s i ≡ b → OpenedAt g s (after g s (cond b (left i ∷ []) [])) i
  clicked true e =
      let u : T (closed s i) = rw e tt in
      subst (λ (p : Position). OpenedAt g s p i) (sym (click_alone u))
      (record {
        tidy = subst (Tidy g) (reveal_one g s i t u n) (reveal_tidy g s i h f);
        is_open = rw (get_or-set_same s i 1 0 (omega (arith, f.long))) tt;
        others = λ j k. get_or-set_other s i j 1 0 k;
      })
  clicked false e = record { tidy = f; is_open = rw (f.safes i h t ∙ ap not e) tt; others = λ j k. refl }

  abbrev ms : List ℕ
  ms = keep (unflagged g s) (square g i)

  abbrev s₁ : Position
  s₁ = after g s (cond (closed s i) (left i ∷ []) [])

  abbrev s₂ : Position
  s₂ = after g s₁ (map flag ms)

  first : OpenedAt g s s₁ i
  first = clicked (closed s i) refl

  in-grid : (j : ℕ) → T (has j ms) → j < size g
  in-grid j u = (square→ g i j h (keep_has (unflagged g s) j (square g i) u).0).0

  is-mine : (j : ℕ) → T (has j ms) → T (mine g j)
  is-mine j u = and_left (mine g j) (not (flagged s j)) (keep_has (unflagged g s) j (square g i) u).1

  no_mine : (j : ℕ) → T (mine g j) → j ≡ i → ⊥
  no_mine j u e = T_not (mine g i) t (rw e at u)

  shut : (j : ℕ) → T (has j ms) → T (closed s₁ j)
  shut j u =
      subst T (sym (ap (λ (v : ℕ). eqb v 0) (first.others j (no_mine j (is-mine j u)))))
      (T_other (flagged s j) (closed s j) (f.mines j (in-grid j u) (is-mine j u))
      (and_right (mine g j) (not (flagged s j)) (keep_has (unflagged g s) j (square g i) u).1))

  at₂ : (j : ℕ) → j < size g → get_or s₂ j 0 ≡ cond (has j ms) 2 (get_or s₁ j 0)
  at₂ j hj = flags_at g ms s₁ j (omega (arith, first.tidy.long))

  open₂ : T (opened s₂ i)
  open₂ =
      subst (λ (v : ℕ). T (eqb v 1)) (sym (at₂ i h ∙ ap (λ (b : Bool). cond b 2 (get_or s₁ i 0)) (no→false (has i ms) (λ u. no_mine i (is-mine i u) refl))))
      first.is_open

  which : (j : ℕ) → T (has j (square g i)) → T (mine g j) → (b : Bool) → flagged s j ≡ b → T (eqb (get_or s₁ j 0) 2) ⊎ T (has j ms)
  which j u m true q = inl (subst (λ (v : ℕ). T (eqb v 2)) (sym (first.others j (no_mine j m))) (rw q tt))
  which j u m false q = inr (has_keep (unflagged g s) j (square g i) u (and_both (mine g j) (not (flagged s j)) m (rw q tt)))

  -- after L and the flags the position is tidy, and the mines of the square are flagged
  pub flagged_tidy : Tidy g s₂
  flagged_tidy = flags_tidy g ms s₁ (λ j u. (in-grid j u, is-mine j u)) first.tidy

  pub flagged_mines : AllFlagged g s₂ i
  flagged_mines j u m =
      subst (λ (v : ℕ). T (eqb v 2)) (sym (at₂ j (square→ g i j h u).0)) (kept (has j ms) (get_or s₁ j 0) (which j u m (flagged s j) refl))
    where
      kept : (b : Bool) (v : ℕ) → T (eqb v 2) ⊎ T b → T (eqb (cond b 2 v) 2)
      kept true v u = tt
      kept false v (inl u) = u
      kept false v (inr u) = absurd u

  module _ (c : cost g s i ≤ gain g s i) where
    -- something is gained
    gains : 1 + bit (unopened s i) ≤ gain g s i
    unfolding cost
    gains = omega arith

    -- so a unit stays closed when the cell itself is open
    clicked_left : (b : Bool) → closed s i ≡ b → 1 ≤ closed_safe g (after g s (cond b (left i ∷ []) []))
    clicked_left true e =
        let u : T (closed s i) = rw e tt in
        let k = bit_yes (unopened s i) (closed_unopened s i u) in
        let a = open_gain g s i h f.long u n i in
        let q = bit_small (has i (square g i) && unlabelled g i) in
        omega (arith, ap (closed_safe g) (click_alone u), gain_left g (set s i 1) i h (omega (arith, gains)))
    clicked_left false e = gain_left g s i h (omega (arith, gains))

    first_left : 1 ≤ closed_safe g s₁
    first_left = clicked_left (closed s i) refl

    clicks_narrow : (b : Bool) → closed s i ≡ b → AllNarrow g s (cond b (left i ∷ []) [])
    clicks_narrow true e = (tidy_unfinished g s f (gain_left g s i h (omega (arith, gains))), narrow_left g s i h t (rw e tt), tt)
    clicks_narrow false e = tt

    pub moves_narrow : AllNarrow g s (moves_at g s i)
    unfolding moves_at
    moves_narrow =
        narrow_append g (cond (closed s i) (left i ∷ []) [] ++ map flag ms) (chord i ∷ []) s
        (narrow_append g (cond (closed s i) (left i ∷ []) []) (map flag ms) s (clicks_narrow (closed s i) refl)
        (flags_narrow g ms s₁ (once_keep (unflagged g s) (square g i) (once_square g i)) (λ j u. (in-grid j u, is-mine j u, shut j u)) first.tidy first_left))
        (subst (λ (p : Position). AllNarrow g p (chord i ∷ [])) (sym (after_append g (cond (closed s i) (left i ∷ []) []) (map flag ms) s)) (
          tidy_unfinished g s₂ flagged_tidy (omega (arith, flags_safe g ms s₁ is-mine, first_left)),
          narrow_chord g s₂ i h open₂ (not_T (zero_cell g i) n) flagged_mines,
          tt,
        ))
