-- hitopenings clicks the openings in their order. Assumes nothing.
use Prim.Native.Nat.{ℕ, ◌+◌, ◌<◌, suc}
use native.Mathlib.Omega.{arith}
use native.Mathlib.Nat.{add-zero}
use mathlib.Core.Path.{◌∙◌, ◌≡◌, ap, ap₂, refl, subst, sym}
use mathlib.Core.Bool.{Bool, ◌&&◌, false, not, true}
use mathlib.Core.List.{List, [], ◌∷◌}
use lib.Dec.{T, eqb}
use lib.ListN.{length}
use Rattle.game.specs.Grid.{Grid, safe, size, zero_cell}
use Rattle.game.specs.Lists.{fold, has}
use Rattle.game.specs.Moves.{after, left, play}
use Rattle.game.specs.Position.{Position, Tidy, closed, opened}
use Rattle.game.specs.Rounds.{click_step, moves_of, opening_clicks}
use Rattle.original.specs.Cells.{Zcell, at}
use Rattle.original.specs.Play.{State, click}
use Rattle.game.proofs.Members.{first_of, rest_of}
use Rattle.game.proofs.Tidy.{tidy_unopened}
use Rattle.game.proofs.Reveal.{zero_safe}
use Rattle.game.proofs.Truth.{T→true, and_false, and_left}
use Rattle.original.proofs.Positions.{Models}
use Rattle.original.proofs.Turns.{click_stands, left_tidy}

-- the loop of hitopenings
abbrev pub hit_turn : Grid → State → ℕ → State
hit_turn g t j =
    elim (not (at t.cells j).mine && eqb (at t.cells j).number 0 && not (at t.cells j).opened) [ true ↦ click g.rows t j | false ↦ t ]

pub hit_stands : (g : Grid) (xs : List ℕ) (s : Position) (n : ℕ) (st : State) → ((x : ℕ) → T (has x xs) → x < size g) → Tidy g s → Models g s n st
    → Models g (after g s (moves_of (opening_clicks g s xs))) (n + length (moves_of (opening_clicks g s xs))) (fold (hit_turn g) st xs)
hit_stands g [] s n st h f w = subst (λ (m : ℕ). Models g s m st) (sym (add-zero n)) w
hit_stands g (x ∷ xs) s n st h f w =
    subst (λ (b : Bool). Models g (after g s (moves_of (opening_clicks g s (x ∷ xs)))) (n + length (moves_of (opening_clicks g s (x ∷ xs)))) (fold (hit_turn g) (by b) xs)) (sym test)
    (go (zero_cell g x && closed s x) refl (λ a b. hit_stands g xs (play g s (left x)) (n + 1) (click g.rows st x) (rest_of x xs h) a b) (hit_stands g xs s n st (rest_of x xs h) f w))
  where
    hx : x < size g
    hx = first_of x xs h

    by : Bool → State
    by b = elim b [ true ↦ click g.rows st x | false ↦ st ]

    test : (not (at st.cells x).mine && eqb (at st.cells x).number 0 && not (at st.cells x).opened) ≡ (zero_cell g x && closed s x)
    test = ap (λ (z : Zcell). not z.mine && eqb z.number 0 && not z.opened) (w.board.reads x hx) ∙ one (zero_cell g x) refl
      where
        one : (b : Bool) → zero_cell g x ≡ b → (safe g x && b && not (opened s x)) ≡ (b && closed s x)
        one true e =
            let t = zero_safe g x (record { inside = hx; none = rw e tt }) in
            ap₂ (λ a c. a && true && c) (T→true (safe g x) t) (tidy_unopened g s x f hx t)
        one false e = ap (λ (a : Bool). a && not (opened s x)) (sym (and_false (safe g x)))

    more : (m : ℕ) → n + 1 + m ≡ n + suc m
    more m = omega arith

    go : (b : Bool) → (zero_cell g x && closed s x) ≡ b
        → (Tidy g (play g s (left x)) → Models g (play g s (left x)) (n + 1) (click g.rows st x)
        → Models g (after g (play g s (left x)) (moves_of (opening_clicks g (play g s (left x)) xs))) (n + 1 + length (moves_of (opening_clicks g (play g s (left x)) xs))) (fold (hit_turn g) (click g.rows st x) xs))
        → Models g (after g s (moves_of (opening_clicks g s xs))) (n + length (moves_of (opening_clicks g s xs))) (fold (hit_turn g) st xs)
        → Models g (after g s (moves_of (elim b [ true ↦ click_step x ∷ opening_clicks g (play g s (left x)) xs | false ↦ opening_clicks g s xs ])))
        (n + length (moves_of (elim b [ true ↦ click_step x ∷ opening_clicks g (play g s (left x)) xs | false ↦ opening_clicks g s xs ]))) (fold (hit_turn g) (by b) xs)
    go true e hit miss =
        let t = zero_safe g x (record { inside = hx; none = and_left (zero_cell g x) (closed s x) (rw e tt) }) in
        subst (λ (m : ℕ). Models g (after g (play g s (left x)) (moves_of (opening_clicks g (play g s (left x)) xs))) m (fold (hit_turn g) (click g.rows st x) xs)) (more (length (moves_of (opening_clicks g (play g s (left x)) xs))))
        (hit (left_tidy g s x hx t f) (click_stands g s n st x hx t f w))
    go false e hit miss = miss
