-- Legal play comes to every tidy position of an unfinished game: cell by cell, L on what it has opened and F on what it has flagged; on the way
-- its closed safe cell is still closed, so the game goes on. Assumes nothing.
use Prim.Native.Nat.{ℕ, ◌<◌, ◌≤◌, suc, zero}
use native.Mathlib.Omega.{arith}
use native.Mathlib.Decide.{ℕ_discrete}
use mathlib.Core.Path.{◌∙◌, ◌≡◌, refl, subst, sym}
use mathlib.Core.Logic.{◌⊎◌, inl, inr, ⊎_elim}
use mathlib.Core.Bool.{Bool, ◌&&◌, cond, false, not, true}
use mathlib.Core.List.{List, [], ◌++◌, ◌∷◌}
use lib.Dec.{T, eqb, eqb→eq, not_T}
use lib.ListN.{get_or, length, set}
use lib.Seq.{ext_get_or, get_or-set_other, get_or-set_same}
use Rattle.game.specs.Grid.{Grid, cells, mine, safe, size, square}
use Rattle.game.specs.Lists.{bit, has}
use Rattle.game.specs.Moves.{Move, Reached, after, flag, left, play, reveal, sweep}
use Rattle.game.specs.Openings.{holds, joined_to}
use Rattle.game.specs.Position.{Position, Tidy, closed, closed_safe, ending, lost, unfinished, unopened, untouched}
use Rattle.game.proofs.Chains.{joined_last}
use Rattle.game.proofs.Counts.{count_find, count_one}
use Rattle.game.proofs.Legal.{narrow_flag, narrow_left}
use Rattle.game.proofs.Members.{yes_some}
use Rattle.game.proofs.Narrow.{AllNarrow, after_append, after_tidy, all_legal, narrow, narrow_append, play_left}
use Rattle.game.proofs.Openings.{joined_to→}
use Rattle.game.proofs.Owners.{closed_unopened}
use Rattle.game.proofs.Reveal.{Revealed, get_d_sweep, holds_itself, mine_off, opens, revealed, stays, sweeps}
use Rattle.game.proofs.Squares.{cells→}
use Rattle.game.proofs.Tidy.{tidy_unfinished, tidy_unopened, untouched_tidy}
use Rattle.game.proofs.Truth.{T→true, and_both, and_left, and_right}
use Rattle.game.proofs.Untouched.{untouched_at}
use Rattle.game.proofs.Zeros.{Zero}

-- a position that moves of the rounds come to
record Made (g : Grid) (s : Position) : Type 0 where
  moves : List Move
  all_narrow : AllNarrow g (untouched g) moves
  comes_to : after g (untouched g) moves ≡ s

-- it is tidy
made_tidy : (g : Grid) (s : Position) → Made g s → Tidy g s
made_tidy g s r = subst (Tidy g) r.comes_to (after_tidy g r.moves (untouched g) r.all_narrow (untouched_tidy g))

-- one such move more
made_on : (g : Grid) (s : Position) (m : Move) → T (unfinished g s) → T (narrow g s m) → Made g s → Made g (play g s m)
made_on g s m u l r =
    record {
      moves = r.moves ++ m ∷ [];
      all_narrow = narrow_append g r.moves (m ∷ []) (untouched g) r.all_narrow (rw r.comes_to (u, l, tt));
      comes_to = after_append g r.moves (m ∷ []) (untouched g) ∙ rw r.comes_to;
    }

-- in an unfinished game a safe cell is not opened
left_closed : (g : Grid) (s : Position) → T (unfinished g s) → (i : ℕ) × T (has i (cells g)) × T (safe g i && unopened s i)
unfolding closed_safe ending
left_closed g s t = count_find (λ i. safe g i && unopened s i) (cells g) (some (closed_safe g s) (lost g s) t)
  where
    some : (n : ℕ) (b : Bool) → T (eqb (cond b 2 (bit (eqb n 0 && not b))) 0) → 1 ≤ n
    some zero true u = absurd u
    some zero false u = absurd u
    some (suc n) b u = omega arith

-- the cell has one state in both positions
abbrev Same : Position → Position → ℕ → Type 0
Same t s j = get_or t j 0 ≡ get_or s j 0

-- a position on the way to s: each cell as in s or still closed, and the cells below k as in s
record Toward (g : Grid) (s : Position) (k : ℕ) : Type 0 where
  here : Position
  made : Made g here
  within : (j : ℕ) → j < size g → Same here s j ⊎ T (closed here j)
  passed : (j : ℕ) → j < k → Same here s j

-- u is a step from t to s: each cell stays or becomes as in s, and the cell k becomes so
record Nearer (g : Grid) (s t u : Position) (k : ℕ) : Type 0 where
  each : (j : ℕ) → j < size g → Same u t j ⊎ Same u s j
  now : Same u s k

module _ (g : Grid) (s : Position) (f : Tidy g s) (going : T (unfinished g s)) where
  -- on the way the game is unfinished
  still_going : (k : ℕ) (t : Toward g s k) → T (unfinished g t.here)
  unfolding closed_safe
  still_going k t =
      let w = left_closed g s going in
      let i = w.0 in
      let h = cells→ g i w.1 in
      let a = and_left (safe g i) (unopened s i) w.2 in
      let c = subst T (tidy_unopened g s i f h a) (and_right (safe g i) (unopened s i) w.2) in
      let u = ⊎_elim (λ e. subst (λ (v : ℕ). T (eqb v 0)) (sym e) c) (λ v. v) (t.within i h) in
      tidy_unfinished g t.here (made_tidy g t.here t.made)
      (count_one (λ i. safe g i && unopened t.here i) i (cells g) w.1 (and_both (safe g i) (unopened t.here i) a (closed_unopened t.here i u)))

  -- a safe cell that is not closed is opened, a mine flagged
  is_open : (j : ℕ) → j < size g → T (safe g j) → (T (closed s j) → ⊥) → get_or s j 0 ≡ 1
  is_open j h t n = eqb→eq (get_or s j 0) 1 (rw (f.safes j h t) (not_T (closed s j) n))

  is_flagged : (j : ℕ) → j < size g → T (mine g j) → (T (closed s j) → ⊥) → get_or s j 0 ≡ 2
  is_flagged j h t n = eqb→eq (get_or s j 0) 2 (rw (f.mines j h t) (not_T (closed s j) n))

  -- the opening of an opened 0-cell is open
  opening_open : (c j : ℕ) → Zero g c → (T (closed s c) → ⊥) → j < size g → T (holds g j (joined_to g c)) → get_or s j 0 ≡ 1
  opening_open c j z n h t =
      let w = yes_some (λ i. has i (joined_to g c)) (square g j) t in
      let y = joined_to→ g c w.0 z w.2 in
      is_open j h (not_T (mine g j) (λ m. mine_off g c j z h m t))
      (λ u. n (rw (f.even c w.0 y) (f.around w.0 j h (joined_last g c w.0 y).none w.1 u)))

  -- one cell set to its state in s
  set_nearer : (t : Position) (k v : ℕ) → k < length t → v ≡ get_or s k 0 → Nearer g s t (set t k v) k
  set_nearer t k v h e =
      record { each = λ j hj. elim (ℕ_discrete j k) [ yes q ↦ inr (rw q done) | no n ↦ inl (get_or-set_other t k j v 0 n) ]; now = done }
    where
      done : get_or (set t k v) k 0 ≡ get_or s k 0
      done = get_or-set_same t k v 0 h ∙ e

  -- the opening of a 0-cell that s has opened, swept
  sweep_nearer : (t : Position) (k : ℕ) → Tidy g t → Zero g k → T (closed t k) → (T (closed s k) → ⊥) → Nearer g s t (sweep g t k) k
  sweep_nearer t k ft z c n =
      record { each = λ j hj. go j hj (holds g j (joined_to g k)) refl; now = held k z.inside (holds_itself g k z) }
    where
      held : (j : ℕ) → j < size g → T (holds g j (joined_to g k)) → Same (sweep g t k) s j
      held j hj u = get_d_sweep g t k ft z c j hj ∙ rw (T→true (holds g j (joined_to g k)) u) (sym (opening_open k j z n hj u))

      go : (j : ℕ) → j < size g → (b : Bool) → holds g j (joined_to g k) ≡ b → Same (sweep g t k) t j ⊎ Same (sweep g t k) s j
      go j hj true e = inr (held j hj (rw e tt))
      go j hj false e = inl (get_d_sweep g t k ft z c j hj ∙ rw e)

  -- a closed cell that s has opened, revealed
  reveal_nearer : (t : Position) (k : ℕ) → Tidy g t → k < size g → T (safe g k) → T (closed t k) → (T (closed s k) → ⊥) → Nearer g s t (reveal g t k) k
  reveal_nearer t k ft h a b n = go (reveal g t k) (revealed g t k)
    where
      go : (u : Position) → Revealed g t k u → Nearer g s t u k
      go u (stays m) = absurd (m a b)
      go u (opens x y m) = set_nearer t k 1 (omega (arith, ft.long)) (sym (is_open k h a n))
      go u (sweeps x y z) = sweep_nearer t k ft (record { inside = h; none = z }) y n

  -- one cell more
  next_cell : (k : ℕ) → k < size g → Toward g s k → Toward g s (suc k)
  unfolding play
  next_cell k h t = ⊎_elim (λ e. by_none e) (λ c. go c (closed s k) refl (mine g k) refl) (t.within k h)
    where
      step : (u : Position) → Made g u → Nearer g s t.here u k → Toward g s (suc k)
      step u r w =
          record {
            here = u;
            made = r;
            within = λ j hj. ⊎_elim (λ e. ⊎_elim (λ q. inl (e ∙ q)) (λ q. inr (rw e q)) (t.within j hj)) inl (w.each j hj);
            passed = λ j hj. elim (ℕ_discrete j k) [ yes e ↦ rw e w.now | no n ↦ ⊎_elim (λ e. e ∙ t.passed j (omega arith)) (λ e. e) (w.each j (omega arith)) ];
          }

      by_none : Same t.here s k → Toward g s (suc k)
      by_none e = step t.here t.made (record { each = λ j hj. inl refl; now = e })

      go : T (closed t.here k) → (b : Bool) → closed s k ≡ b → (m : Bool) → mine g k ≡ m → Toward g s (suc k)
      go c true e m q = by_none (eqb→eq (get_or t.here k 0) 0 c ∙ sym (eqb→eq (get_or s k 0) 0 (rw e tt)))
      go c false e true q =
          step (set t.here k 2) (made_on g t.here (flag k) (still_going k t) (narrow_flag g t.here k h (rw q tt) c) t.made)
          (set_nearer t.here k 2 (omega (arith, (made_tidy g t.here t.made).long)) (sym (is_flagged k h (rw q tt) (λ u. subst T e u))))
      go c false e false q =
          step (reveal g t.here k)
          (subst (Made g) (play_left g t.here k (rw q tt)) (made_on g t.here (left k) (still_going k t) (narrow_left g t.here k h (rw q tt) c) t.made))
          (reveal_nearer t.here k (made_tidy g t.here t.made) h (rw q tt) c (λ u. subst T e u))

  toward : (k : ℕ) → k ≤ size g → Toward g s k
  toward zero h =
      record { here = untouched g; made = record { moves = []; all_narrow = tt; comes_to = refl }; within = λ j hj. inr (rw (untouched_at g j hj) tt); passed = λ j hj. absurd (omega arith) }
  toward (suc k) h = next_cell k (omega arith) (toward k (omega arith))

-- so legal play comes to it
pub tidy_reached : (g : Grid) (s : Position) → Tidy g s → T (unfinished g s) → Reached g s
tidy_reached g s f u =
    let t = toward g s f u (size g) (omega arith) in
    let r = t.made in
    record {
      moves = r.moves;
      all_legal = all_legal g r.moves (untouched g) r.all_narrow (untouched_tidy g);
      comes_to = r.comes_to ∙ ext_get_or 0 t.here s ((made_tidy g t.here r).long ∙ sym f.long) (λ j h. t.passed j (omega (arith, (made_tidy g t.here r).long)));
    }
