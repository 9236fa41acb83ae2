-- Tidy positions: what the rounds do keeps them tidy, and what is closed, lost and won in them. Assumes nothing.
use Prim.Native.Nat.{ℕ, ◌<◌, ◌≤◌}
use native.Mathlib.Omega.{arith}
use native.Mathlib.Decide.{ℕ_discrete}
use mathlib.Core.Path.{◌∙◌, ◌≡◌, ap, refl, subst, sym}
use mathlib.Core.Bool.{Bool, ◌&&◌, cond, false, not, true}
use mathlib.Core.List.{List, [], ◌∷◌}
use lib.Dec.{T, T_not, eqb, eqb→eq, not_T}
use lib.ListN.{get_or, length-replicate, length-set, set}
use lib.Seq.{get_or-set_other, get_or-set_same}
use Rattle.game.specs.Grid.{Grid, cells, mine, safe, size}
use Rattle.game.specs.Lists.{fold, has, some_of}
use Rattle.game.specs.Moves.{reveal, sweep}
use Rattle.game.specs.Openings.{holds, joined_to}
use Rattle.game.specs.Position.{Position, Tidy, blown, closed, closed_safe, ending, lost, opening_closed, unfinished, unopened, untouched, won}
use Rattle.game.proofs.Chains.{joined_first, joined_last, joined_sym, joined_trans}
use Rattle.game.proofs.Members.{first_of, rest_of, yes_some}
use Rattle.game.proofs.Openings.{Full}
use Rattle.game.proofs.Owners.{opening_shut}
use Rattle.game.proofs.Reveal.{Revealed, get_d_sweep, held_joined, joined_held, length_sweep, mine_off, opens, revealed, stays, sweeps, zero_safe}
use Rattle.game.proofs.Squares.{cells→, close_sym, self_close, square→}
use Rattle.game.proofs.Truth.{and_both, and_left, and_right, iff, no→false}
use Rattle.game.proofs.Untouched.{closed_untouched, untouched_at}
use Rattle.game.proofs.Zeros.{Zero}
use borrow.Author.Tests.{ne_eqb}

pub untouched_tidy : (g : Grid) → Tidy g (untouched g)
untouched_tidy g =
    record {
      long = length-replicate (size g) 0;
      even = λ a b j. closed_untouched g a (joined_first g a b j).inside ∙ sym (closed_untouched g b (joined_last g a b j).inside);
      around = λ z j h n c t. rw (closed_untouched g z (square→ g j z h c).0) tt;
      safes = λ j h t. ap (λ (k : ℕ). eqb k 1) (untouched_at g j h) ∙ sym (ap not (closed_untouched g j h));
      mines = λ j h t. ap (λ (k : ℕ). eqb k 2) (untouched_at g j h) ∙ sym (ap not (closed_untouched g j h));
    }

-- ---- one cell that is no 0-cell gets a state that is not closed

set_tidy : (g : Grid) (s : Position) (c v : ℕ) → c < size g → Tidy g s → (Zero g c → ⊥) → eqb v 0 ≡ false
    → (T (safe g c) → eqb v 1 ≡ true) → (T (mine g c) → eqb v 2 ≡ true) → Tidy g (set s c v)
set_tidy g s c v h f n e p q =
    record {
      long = length-set s c v ∙ f.long;
      even = λ a b j. other a (apart a (joined_first g a b j)) ∙ f.even a b j ∙ sym (other b (apart b (joined_last g a b j)));
      around = λ z j hj nz m t.
          elim (ℕ_discrete j c) [
            | yes k ↦ absurd (subst T (ap (closed (set s c v)) k ∙ here) t)
            | no k ↦ subst T (sym (other z (apart z (record { inside = (square→ g j z hj m).0; none = nz })))) (f.around z j hj nz m (subst T (other j k) t))
          ];
      safes = λ j hj t. state j 1 (λ k. p (subst (λ (x : ℕ). T (safe g x)) k t)) (f.safes j hj t);
      mines = λ j hj t. state j 2 (λ k. q (subst (λ (x : ℕ). T (mine g x)) k t)) (f.mines j hj t);
    }
  where
    apart : (z : ℕ) → Zero g z → z ≡ c → ⊥
    apart z zz k = n (subst (Zero g) k zz)

    other : (j : ℕ) → (j ≡ c → ⊥) → closed (set s c v) j ≡ closed s j
    other j k = ap (λ (x : ℕ). eqb x 0) (get_or-set_other s c j v 0 k)

    put : (j : ℕ) → j ≡ c → get_or (set s c v) j 0 ≡ v
    put j k = ap (λ (x : ℕ). get_or (set s c v) x 0) k ∙ get_or-set_same s c v 0 (omega (arith, f.long))

    here : closed (set s c v) c ≡ false
    here = ap (λ (x : ℕ). eqb x 0) (put c refl) ∙ e

    state : (j w : ℕ) → (j ≡ c → eqb v w ≡ true) → eqb (get_or s j 0) w ≡ not (closed s j) → eqb (get_or (set s c v) j 0) w ≡ not (closed (set s c v) j)
    state j w r o =
        elim (ℕ_discrete j c) [
          | yes k ↦ ap (λ (x : ℕ). eqb x w) (put j k) ∙ r k ∙ sym (ap (λ (x : ℕ). not (eqb x 0)) (put j k) ∙ ap not e)
          | no k ↦ ap (λ (x : ℕ). eqb x w) (get_or-set_other s c j v 0 k) ∙ o ∙ sym (ap not (other j k))
        ]

-- ---- an opening is swept

sweep_tidy : (g : Grid) (s : Position) (c : ℕ) → Zero g c → T (closed s c) → Tidy g s → Tidy g (sweep g s c)
sweep_tidy g s c z b f =
    record {
      long = length_sweep g s c;
      even = λ a b j. shut a (joined_first g a b j).inside ∙ both (held a) (held b) (closed s a) (closed s b)
          (λ u. joined_held g c b b (joined_last g a b j).inside (joined_trans g c a b (held_joined g c a z (joined_first g a b j) u) j) (self_close g b))
          (λ u. joined_held g c a a (joined_first g a b j).inside (joined_trans g c b a (held_joined g c b z (joined_last g a b j) u) (joined_sym g a b j)) (self_close g a))
          (f.even a b j) ∙ sym (shut b (joined_last g a b j).inside);
      around = λ y j hj ny m u.
          let v = subst T (shut j hj) u in
          let zy : Zero g y = record { inside = (square→ g j y hj m).0; none = ny } in
          let cl = close_sym g j y (square→ g j y hj m).1 in
          let w = f.around y j hj ny m (and_right (not (held j)) (closed s j) v) in
          subst T (sym (shut y zy.inside)) (and_both (not (held y)) (closed s y)
          (not_T (held y) (λ k. T_not (held j) (and_left (not (held j)) (closed s j) v) (joined_held g c y j hj (held_joined g c y z zy k) cl))) w);
      safes = λ j hj u. ap (λ (x : ℕ). eqb x 1) (get_d_sweep g s c f z b j hj) ∙ one (held j) (get_or s j 0) (f.safes j hj u)
          ∙ sym (ap (λ (x : ℕ). not (eqb x 0)) (get_d_sweep g s c f z b j hj));
      mines = λ j hj u.
          let q = get_d_sweep g s c f z b j hj ∙ ap (λ (b : Bool). cond b 1 (get_or s j 0)) (no→false (held j) (mine_off g c j z hj u)) in
          ap (λ (x : ℕ). eqb x 2) q ∙ f.mines j hj u ∙ sym (ap (λ (x : ℕ). not (eqb x 0)) q);
    }
  where
    held : ℕ → Bool
    held j = holds g j (joined_to g c)

    shut_one : (b : Bool) (x : ℕ) → eqb (cond b 1 x) 0 ≡ (not b && eqb x 0)
    shut_one true x = refl
    shut_one false x = refl

    shut : (j : ℕ) → j < size g → closed (sweep g s c) j ≡ (not (held j) && closed s j)
    shut j h = ap (λ (x : ℕ). eqb x 0) (get_d_sweep g s c f z b j h) ∙ shut_one (held j) (get_or s j 0)

    both : (p q x y : Bool) → (T p → T q) → (T q → T p) → x ≡ y → (not p && x) ≡ (not q && y)
    both true true x y h k r = refl
    both true false x y h k r = absurd (h tt)
    both false true x y h k r = absurd (k tt)
    both false false x y h k r = r

    one : (b : Bool) (x : ℕ) → eqb x 1 ≡ not (eqb x 0) → eqb (cond b 1 x) 1 ≡ not (eqb (cond b 1 x) 0)
    one true x h = refl
    one false x h = h

-- ---- the moves

pub reveal_tidy : (g : Grid) (s : Position) (c : ℕ) → c < size g → Tidy g s → Tidy g (reveal g s c)
reveal_tidy g s c h f = go (reveal g s c) (revealed g s c)
  where
    go : (t : Position) → Revealed g s c t → Tidy g t
    go t (stays n) = f
    go t (opens a b n) = set_tidy g s c 1 h f (λ z. n z.none) refl (λ u. refl) (λ u. absurd (T_not (mine g c) a u))
    go t (sweeps a b z) = sweep_tidy g s c (record { inside = h; none = z }) b f

pub fold_tidy : (g : Grid) (xs : List ℕ) (s : Position) → ((x : ℕ) → T (has x xs) → x < size g) → Tidy g s → Tidy g (fold (reveal g) s xs)
fold_tidy g [] s h f = f
fold_tidy g (x ∷ xs) s h f = fold_tidy g xs (reveal g s x) (rest_of x xs h) (reveal_tidy g s x (first_of x xs h) f)

pub flag_tidy : (g : Grid) (s : Position) (m : ℕ) → m < size g → T (mine g m) → Tidy g s → Tidy g (set s m 2)
flag_tidy g s m h t f =
    set_tidy g s m 2 h f (λ z. T_not (mine g m) (zero_safe g m z) t) refl (λ u. absurd (T_not (mine g m) u t)) (λ u. refl)

-- ---- what is closed in a tidy position

-- a safe cell is closed while it is not opened: none is flagged
pub tidy_unopened : (g : Grid) (s : Position) (j : ℕ) → Tidy g s → j < size g → T (safe g j) → unopened s j ≡ closed s j
tidy_unopened g s j f h t = ap not (f.safes j h t) ∙ twice (closed s j)
  where
    twice : (b : Bool) → not (not b) ≡ b
    twice true = refl
    twice false = refl

-- an opening is closed while any one of its 0-cells is: they are closed together
pub tidy_opening : (g : Grid) (s : Position) (o : List ℕ) (c : ℕ) → Tidy g s → Full g o → T (has c o) → opening_closed s o ≡ closed s c
tidy_opening g s o c f k t =
    iff (opening_closed s o) (closed s c)
    (λ u.
    let a = yes_some (unopened s) o u in
    let z = k.zero-cell a.0 a.1 in
    subst T (tidy_unopened g s a.0 f z.inside (zero_safe g a.0 z) ∙ f.even a.0 c (k.linked a.0 c a.1 t)) a.2)
    (λ u. rw (opening_shut s o c t u) tt)

-- no mine is open
pub tidy_lost : (g : Grid) (s : Position) → Tidy g s → lost g s ≡ false
unfolding lost
tidy_lost g s f =
    no→false (some_of (blown s) (cells g)) (λ t.
    let a = yes_some (blown s) (cells g) t in
    whole a.0 (cells→ g a.0 a.1) (eqb→eq (get_or s a.0 0) 3 a.2) (mine g a.0) refl)
  where
    whole : (j : ℕ) → j < size g → get_or s j 0 ≡ 3 → (b : Bool) → mine g j ≡ b → ⊥
    whole j h e true k = subst T (sym (subst (λ (x : ℕ). eqb x 2 ≡ not (eqb x 0)) e (f.mines j h (rw k tt)))) tt
    whole j h e false k = subst T (sym (subst (λ (x : ℕ). eqb x 1 ≡ not (eqb x 0)) e (f.safes j h (rw k tt)))) tt

-- so the game goes on while a safe cell is closed, and is won when none is
pub tidy_unfinished : (g : Grid) (s : Position) → Tidy g s → 1 ≤ closed_safe g s → T (unfinished g s)
unfolding ending
tidy_unfinished g s f h = rw (tidy_lost g s f, ne_eqb (closed_safe g s) 0 (λ e. omega arith)) tt

pub tidy_won : (g : Grid) (s : Position) → Tidy g s → closed_safe g s ≡ 0 → T (won g s)
tidy_won g s f e = rw (tidy_lost g s f, e) tt
