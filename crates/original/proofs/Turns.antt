-- click, flagaround and chord at a cell do what the moves at it do, click for click. Assumes nothing.
use Prim.Native.Nat.{ℕ, ◌+◌, ◌<◌, suc}
use native.Mathlib.Omega.{arith}
use native.Mathlib.Decide.{ℕ_discrete}
use native.Mathlib.Nat.{add-zero}
use mathlib.Core.Path.{◌∙◌, ◌≡◌, ap, refl, subst, subst₂, sym}
use mathlib.Core.Bool.{Bool, ◌&&◌, cond, false, not, true}
use mathlib.Core.List.{List, [], ◌∷◌, map}
use lib.Dec.{T, T_not, eqb}
use lib.IntN.{pos}
use lib.ListN.{get_or, length, set}
use lib.Seq.{get_or-set_other, get_or-set_same}
use Rattle.game.specs.Grid.{Grid, mine, safe, size, square}
use Rattle.game.specs.Lists.{bit, fold, has, keep}
use Rattle.game.specs.Moves.{after, flag, left, play, reveal}
use Rattle.game.specs.Openings.{holds, joined_to}
use Rattle.game.specs.Position.{Position, Tidy, closed, cost, flagged, opened, unflagged}
use Rattle.game.specs.Rounds.{moves_at}
use Rattle.original.specs.Cells.{Zcell, around, at, change, with_flagged}
use Rattle.original.specs.Play.{State, add-around, click, flag_cell, flagaround, one_click, reveal_cell, with_cells}
use Rattle.original.specs.Rounds.{play_at}
use Rattle.game.proofs.Counts.{Once, length_keep}
use Rattle.game.proofs.Members.{first_of, has_cases, keep_ext, rest_of}
use Rattle.game.proofs.Narrow.{play_chord, play_left}
use Rattle.game.proofs.Tidy.{flag_tidy, reveal_tidy, tidy_unopened}
use Rattle.game.proofs.Reveal.{Revealed, get_d_sweep, mine_off, opens, revealed, stays, sweeps}
use Rattle.game.proofs.Runs.{moves_cost}
use Rattle.game.proofs.Squares.{once_square, square→}
use Rattle.game.proofs.Truth.{T_other, T→true, and_left, and_not, and_right, and_under, no→false}
use Rattle.game.proofs.Units.{after_moves}
use Rattle.game.proofs.Zeros.{Zero}
use Rattle.original.proofs.Positions.{Models, board_around, flag_stands}
use Rattle.original.proofs.Sweeps.{reveal_stands}

-- ---- click

-- one click more
clicked : (g : Grid) (s : Position) (n : ℕ) (st : State) → Models g s n st → Models g s (n + 1) (one_click st)
clicked g s n st k =
    record { kept = k.kept; board = k.board; exact = k.exact; clicks = ap (λ (x : ℕ). x + 1) k.clicks; left = k.left }

-- click at a safe cell does what L does
pub click_stands : (g : Grid) (s : Position) (n : ℕ) (st : State) (c : ℕ) → c < size g → T (safe g c) → Tidy g s → Models g s n st
    → Models g (play g s (left c)) (n + 1) (click g.rows st c)
click_stands g s n st c h t f k =
    subst (λ (p : Position). Models g p (n + 1) (click g.rows st c)) (sym (play_left g s c t))
    (clicked g (reveal g s c) n (reveal_cell g.rows st c) (reveal_stands g s n st c h f (λ m. absurd (T_not (mine g c) t m)) k))

-- and the position after it is tidy
pub left_tidy : (g : Grid) (s : Position) (c : ℕ) → c < size g → T (safe g c) → Tidy g s → Tidy g (play g s (left c))
left_tidy g s c h t f = subst (Tidy g) (sym (play_left g s c t)) (reveal_tidy g s c h f)

-- ---- mines stay as they are while cells are revealed

mine_stays : (g : Grid) (s : Position) (c j : ℕ) → Tidy g s → c < size g → j < size g → T (mine g j) → flagged (reveal g s c) j ≡ flagged s j
mine_stays g s c j f h hj m = ap (λ (x : ℕ). eqb x 2) (go (reveal g s c) (revealed g s c))
  where
    go : (t : Position) → Revealed g s c t → get_or t j 0 ≡ get_or s j 0
    go t (stays d) = refl
    go t (opens a b d) = get_or-set_other s c j 1 0 (λ e. T_not (mine g c) a (subst (λ (x : ℕ). T (mine g x)) e m))
    go t (sweeps a b z) =
        let y : Zero g c = record { inside = h; none = z } in
        get_d_sweep g s c f y b j hj ∙ ap (λ (b : Bool). cond b 1 (get_or s j 0)) (no→false (holds g j (joined_to g c)) (mine_off g c j y hj m))

-- ---- flagaround

-- the loop of flagaround
abbrev flag_turn : Grid → State → ℕ → State
flag_turn g t i = elim (at t.cells i).mine [ true ↦ flag_cell g.rows t i | false ↦ t ]

-- flags on ys stand for what the loop over xs has come to
record Flags (g : Grid) (s : Position) (n : ℕ) (xs ys : List ℕ) (done : State) : Type 0 where
  stands : Models g (after g s (map flag ys)) (n + length ys) done
  played : Tidy g (after g s (map flag ys))
  stay : (j : ℕ) → j < size g → T (flagged s j) → T (flagged (after g s (map flag ys)) j)
  all : (j : ℕ) → T (has j xs) → T (mine g j) → T (flagged (after g s (map flag ys)) j)

-- a cell that is no mine, or flagged, is passed over
turn_stays : (g : Grid) (s : Position) (n : ℕ) (st : State) (x : ℕ) → x < size g → Models g s n st → unflagged g s x ≡ false → flag_turn g st x ≡ st
unfolding flag_cell
turn_stays g s n st x h k e = ap by (k.board.reads x h) ∙ go (mine g x) (flagged s x) e
  where
    whole : Bool → Bool → State
    whole m l =
        elim m [
          | true ↦ elim l [ true ↦ st | false ↦ one_click (with_cells (λ cs. add-around (pos 1) g.rows x (change with_flagged cs x)) st) ]
          | false ↦ st
        ]

    by : Zcell → State
    by z = whole z.mine z.flagged

    go : (m l : Bool) → (m && not l) ≡ false → whole m l ≡ st
    go true true d = refl
    go true false d = absurd (subst T d tt)
    go false l d = refl

-- an unflagged mine is flagged
turn_flags : (g : Grid) (s : Position) (n : ℕ) (st : State) (x : ℕ) → x < size g → Tidy g s → Models g s n st → T (unflagged g s x) → Models g (set s x 2) (n + 1) (flag_turn g st x)
turn_flags g s n st x h f k t =
    subst (λ (b : Bool). Models g (set s x 2) (n + 1) (by b)) (sym (ap (λ (z : Zcell). z.mine) (k.board.reads x h) ∙ T→true (mine g x) m))
    (flag_stands g s n st x h f m (T_other (flagged s x) (closed s x) (f.mines x h m) (and_right (mine g x) (not (flagged s x)) t)) k)
  where
    m : T (mine g x)
    m = and_left (mine g x) (not (flagged s x)) t

    by : Bool → State
    by b = elim b [ true ↦ flag_cell g.rows st x | false ↦ st ]

flags_all : (g : Grid) (xs : List ℕ) (s : Position) (n : ℕ) (st : State) → Once xs → ((x : ℕ) → T (has x xs) → x < size g) → Tidy g s → Models g s n st
    → Flags g s n xs (keep (unflagged g s) xs) (fold (flag_turn g) st xs)
unfolding play
flags_all g [] s n st o h f k =
    record { stands = subst (λ (x : ℕ). Models g s x st) (sym (add-zero n)) k; played = f; stay = λ j hj t. t; all = λ j t. absurd t }
flags_all g (x ∷ xs) s n st o h f k =
    go (unflagged g s x) refl (λ e. flags_all g xs s n (flag_turn g st x) o.1 (rest_of x xs h) f (subst (Models g s n) (sym (turn_stays g s n st x hx k e)) k))
    (λ t. flags_all g xs (set s x 2) (n + 1) (flag_turn g st x) o.1 (rest_of x xs h) (flag_tidy g s x hx (and_left (mine g x) (not (flagged s x)) t) f) (turn_flags g s n st x hx f k t))
  where
    hx : x < size g
    hx = first_of x xs h

    done : State
    done = fold (flag_turn g) (flag_turn g st x) xs

    here : get_or (set s x 2) x 0 ≡ 2
    here = get_or-set_same s x 2 0 (omega (arith, f.long, hx))

    others : keep (unflagged g (set s x 2)) xs ≡ keep (unflagged g s) xs
    others =
        keep_ext (unflagged g (set s x 2)) (unflagged g s) xs
        (λ j u. ap (λ (v : ℕ). mine g j && not (eqb v 2)) (get_or-set_other s x j 2 0 (λ e. o.0 (rw (← e) u))))

    flag_stays : (j : ℕ) → Dec (j ≡ x) → T (flagged s j) → T (flagged (set s x 2) j)
    flag_stays j (yes e) t = rw (e, here) tt
    flag_stays j (no e) t = rw (get_or-set_other s x j 2 0 e) t

    more : (m : ℕ) → n + 1 + m ≡ n + suc m
    more m = omega arith

    go : (b : Bool) → unflagged g s x ≡ b → (unflagged g s x ≡ false → Flags g s n xs (keep (unflagged g s) xs) done)
        → (T (unflagged g s x) → Flags g (set s x 2) (n + 1) xs (keep (unflagged g (set s x 2)) xs) done)
        → Flags g s n (x ∷ xs) (elim b [ true ↦ x ∷ keep (unflagged g s) xs | false ↦ keep (unflagged g s) xs ]) done
    go false e pass hit =
        let r = pass e in
        record {
          stands = r.stands;
          played = r.played;
          stay = r.stay;
          all = λ j u m. has_cases j x xs (λ d. rw d (r.stay x hx (and_not (mine g x) (flagged s x) (rw d at m) e))) (λ v. r.all j v m) u;
        }
    go true e pass hit =
        let r = subst (λ (ys : List ℕ). Flags g (set s x 2) (n + 1) xs ys done) others (hit (rw e tt)) in
        record {
          stands = subst (λ (i : ℕ). Models g (after g (set s x 2) (map flag (keep (unflagged g s) xs))) i done) (more (length (keep (unflagged g s) xs))) r.stands;
          played = r.played;
          stay = λ j hj t. r.stay j hj (flag_stays j (ℕ_discrete j x) t);
          all = λ j u m. has_cases j x xs (λ d. rw d (r.stay x hx (rw here tt))) (λ v. r.all j v m) u;
        }

-- ---- chord

reveal_all : (g : Grid) (xs : List ℕ) (s : Position) (n : ℕ) (st : State) → ((x : ℕ) → T (has x xs) → x < size g) → ((x : ℕ) → T (has x xs) → T (mine g x) → T (flagged s x)) → Tidy g s
    → Models g s n st → Models g (fold (reveal g) s xs) n (fold (reveal_cell g.rows) st xs)
reveal_all g [] s n st h m f k = k
reveal_all g (x ∷ xs) s n st h m f k =
    reveal_all g xs (reveal g s x) n (reveal_cell g.rows st x) (rest_of x xs h)
    (λ y u v. subst T (sym (mine_stays g s x y f (first_of x xs h) (rest_of x xs h y u) v)) (rest_of x xs m y u v))
    (reveal_tidy g s x (first_of x xs h) f) (reveal_stands g s n st x (first_of x xs h) f (first_of x xs m) k)

-- ---- the moves at a cell

pub turn_stands : (g : Grid) (s : Position) (n : ℕ) (st : State) (i : ℕ) → i < size g → T (safe g i) → Tidy g s → Models g s n st
    → Models g (after g s (moves_at g s i)) (n + length (moves_at g s i)) (play_at g.rows st i)
unfolding cost
turn_stands g s n st i h t f k =
    subst₂ (λ p m. Models g p m (play_at g.rows st i)) (sym (after_moves g s i ∙ play_chord g s₂ i r.played.long r.all)) all_clicks
    (subst (λ (xs : List ℕ). Models g (fold (reveal g) s₂ (square g i)) (n + bit (closed s i) + length ms + 1) (fold (reveal_cell g.rows) (one_click st₂) xs)) (sym (same-square s₂ (n + bit (closed s i) + length ms) st₂ r.stands))
    (reveal_all g (square g i) s₂ (n + bit (closed s i) + length ms + 1) (one_click st₂) inside (λ x u m. r.all x u m) r.played
    (clicked g s₂ (n + bit (closed s i) + length ms) st₂ r.stands)))
  where
    ms : List ℕ
    ms = keep (unflagged g s) (square g i)

    s₁ : Position
    s₁ = after g s (cond (closed s i) (left i ∷ []) [])

    s₂ : Position
    s₂ = after g s₁ (map flag ms)

    by : Bool → State
    by b = elim b [ true ↦ click g.rows st i | false ↦ st ]

    st₁ : State
    st₁ = by (not (at st.cells i).opened)

    st₂ : State
    st₂ = flagaround g.rows st₁ i

    inside : (x : ℕ) → T (has x (square g i)) → x < size g
    inside x u = (square→ g i x h u).0

    same-square : (p : Position) (m : ℕ) (d : State) → Models g p m d → around d.cells g.rows i ≡ square g i
    same-square p m d q = board_around g (opened p) (flagged p) q.kept d.cells i h q.board

    closed_yet : not (at st.cells i).opened ≡ closed s i
    closed_yet = ap (λ (z : Zcell). not z.opened) (k.board.reads i h) ∙ tidy_unopened g s i f h t

    first : (b : Bool) → Models g (after g s (cond b (left i ∷ []) [])) (n + bit b) (by b) × Tidy g (after g s (cond b (left i ∷ []) []))
    first true = (click_stands g s n st i h t f k, left_tidy g s i h t f)
    first false = (subst (λ (x : ℕ). Models g s x st) (sym (add-zero n)) k, f)

    same_flags : (b : Bool) (j : ℕ) → j < size g → T (mine g j) → flagged (after g s (cond b (left i ∷ []) [])) j ≡ flagged s j
    same_flags true j hj m = ap (λ (p : Position). flagged p j) (play_left g s i t) ∙ mine_stays g s i j f h hj m
    same_flags false j hj m = refl

    same-mines : keep (unflagged g s₁) (square g i) ≡ ms
    same-mines =
        keep_ext (unflagged g s₁) (unflagged g s) (square g i)
        (λ j u. and_under (mine g j) (not (flagged s₁ j)) (not (flagged s j)) (λ m. ap not (same_flags (closed s i) j (inside j u) m)))

    one : Models g s₁ (n + bit (closed s i)) st₁
    one = subst (λ (b : Bool). Models g s₁ (n + bit (closed s i)) (by b)) (sym closed_yet) (first (closed s i)).0

    r : Flags g s₁ (n + bit (closed s i)) (square g i) ms st₂
    r =
        subst₂ (λ xs ys. Flags g s₁ (n + bit (closed s i)) (square g i) ys (fold (flag_turn g) st₁ xs)) (sym (same-square s₁ (n + bit (closed s i)) st₁ one)) same-mines
        (flags_all g (square g i) s₁ (n + bit (closed s i)) st₁ (once_square g i) inside (first (closed s i)).1 one)

    all_clicks : n + bit (closed s i) + length ms + 1 ≡ n + length (moves_at g s i)
    all_clicks = omega (arith, moves_cost g s i f h t, ap bit (tidy_unopened g s i f h t), length_keep (unflagged g s) (square g i))
