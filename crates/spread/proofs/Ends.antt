-- Once no cell waits, the position is that after L: what chains of closed 0-cells reach is open, with their squares. Assumes nothing.
use Prim.Native.Nat.{ℕ, ◌<◌}
use native.Mathlib.Omega.{arith}
use native.Mathlib.Decide.{ℕ_discrete}
use mathlib.Core.Path.{◌∙◌, ◌≡◌, ap, refl, subst, sym}
use mathlib.Core.Logic.{⊎_elim}
use mathlib.Core.Bool.{Bool, ◌&&◌, cond, false, true}
use mathlib.Core.List.{[]}
use lib.Dec.{T, eqb→eq}
use lib.ListN.{get_or, length, length-map, length-set, set}
use lib.Seq.{ext_get_or, get_or-set_other, get_or-set_same}
use Rattle.game.specs.Grid.{Grid, cells, safe, size, square, zero_cell}
use Rattle.game.specs.Lists.{has}
use Rattle.game.specs.Moves.{reveal, spread, sweep}
use Rattle.game.specs.Openings.{Chain, holds, itself, onward}
use Rattle.game.specs.Position.{Position, closed}
use Rattle.game.proofs.Chains.{chain_first, chain_last}
use Rattle.game.proofs.Members.{some_yes, yes_some}
use Rattle.game.proofs.Openings.{chained_to→, →chainedTo}
use Rattle.game.proofs.Squares.{get_d_cells, in-own-square, length_cells, square_sym, square→}
use Rattle.game.proofs.Truth.{T→true, and_both, and_left, and_right}
use Rattle.spread.proofs.Turns.{Midway, Near, New, free, is_closed}

module _ (g : Grid) (s : Position) (c : ℕ) (h : c < size g) (long : length s ≡ size g) (t : Position) (n : ℕ)
    (p : Midway g s c (record { position = t; waits = []; so_far = n })) where
  -- a cell that was closed and is not closed now is opened
  open_now : (x : ℕ) → x < size g → get_or s x 0 ≡ 0 → (get_or t x 0 ≡ 0 → ⊥) → get_or t x 0 ≡ 1
  open_now x k e u = ⊎_elim (λ q. absurd (u (q ∙ e))) (λ (w : New g s c t x). w.now) (p.going.states x k)

  -- nothing in the square of an open 0-cell that a chain joins to c is closed
  open_shut : (b z : ℕ) → Chain g (free g s) c b → get_or t b 0 ≡ 1 → T (has z (square g b)) → get_or t z 0 ≡ 0 → ⊥
  open_shut b z j e u =
      let l = chain_last g (free g s) c b j in
      ⊎_elim (λ w. absurd w) (λ r. ⊎_elim (λ q. absurd (omega (arith, l.inside))) (λ w. w z u) r) (p.going.done b l.inside l.test e)

  -- those 0-cells are open
  chained_open : (z : ℕ) → Chain g (free g s) c z → get_or t z 0 ≡ 1
  chained_open z (itself k b) = open_now c h (eqb→eq (get_or s c 0) 0 (and_right (zero_cell g c) (closed s c) b)) p.first.open_there
  chained_open z (onward {b = b} j u v) =
      let k = (square→ g b z (chain_last g (free g s) c b j).inside u).0 in
      open_now z k (eqb→eq (get_or s z 0) 0 (and_right (zero_cell g z) (closed s z) v)) (open_shut b z j (chained_open b j) u)

  -- ---- the three cases of L on a safe cell

  -- only c was opened, if no chain begins there
  alone : (T (free g s c) → ⊥) → (x : ℕ) → x < size g → (x ≡ c → ⊥) → get_or t x 0 ≡ get_or s x 0
  alone f x k q =
      ⊎_elim (λ e. e)
      (λ (w : New g s c t x). ⊎_elim (λ e. absurd (q e)) (λ r. absurd (f (chain_first g (free g s) c r.0 r.1).test)) w.near) (p.going.states x k)

  -- c was not closed: nothing is opened
  ends_still : (T (closed s c) → ⊥) → t ≡ s
  ends_still f =
      ext_get_or 0 t s (p.going.long ∙ sym long) (λ x k.
      elim (ℕ_discrete x c) [
        | yes q ↦ subst (λ (i : ℕ). get_or t i 0 ≡ get_or s i 0) (sym q) (⊎_elim (λ e. e) (λ (w : New g s c t c). absurd (f (is_closed s c w.was))) (p.going.states c h))
        | no q ↦ alone (λ u. f (and_right (zero_cell g c) (closed s c) u)) x (omega (arith, p.going.long)) q
      ])

  -- c is no 0-cell: it alone is opened
  ends_alone : (T (zero_cell g c) → ⊥) → T (closed s c) → t ≡ set s c 1
  ends_alone f o =
      ext_get_or 0 t (set s c 1) (p.going.long ∙ sym (length-set s c 1 ∙ long)) (λ x k.
      elim (ℕ_discrete x c) [
        | yes q ↦ subst (λ (i : ℕ). get_or t i 0 ≡ get_or (set s c 1) i 0) (sym q)
            (open_now c h (eqb→eq (get_or s c 0) 0 o) p.first.open_there ∙ sym (get_or-set_same s c 1 0 (omega arith)))
        | no q ↦ alone (λ u. f (and_left (zero_cell g c) (closed s c) u)) x (omega (arith, p.going.long)) q ∙ sym (get_or-set_other s c x 1 0 q)
      ])

  -- a cell near the 0-cells that L opens is held by them
  near_held : T (free g s c) → (x : ℕ) → x < size g → Near g s c x → T (holds g x (spread g s c))
  near_held b x k w =
      ⊎_elim (λ q. some_yes (λ j. has j (spread g s c)) x (square g x) (in-own-square g x k) (rw q (→chainedTo g (free g s) c c (itself h b))))
      (λ r. some_yes (λ j. has j (spread g s c)) r.0 (square g x)
      (subst T (sym (square_sym g r.0 x (chain_last g (free g s) c r.0 r.1).inside k)) r.2) (→chainedTo g (free g s) c r.0 r.1))
      w

  -- a closed cell that they hold is closed no more
  held_open : T (free g s c) → (x : ℕ) → x < size g → T (holds g x (spread g s c)) → get_or t x 0 ≡ 0 → ⊥
  held_open b x k u =
      let a = yes_some (λ j. has j (spread g s c)) (square g x) u in
      let j = chained_to→ g (free g s) c a.0 (record { inside = h; test = b }) a.2 in
      open_shut a.0 x j (chained_open a.0 j) (subst T (square_sym g a.0 x (chain_last g (free g s) c a.0 j).inside k) a.1)

  -- c is a 0-cell: what spreads from it is opened
  ends_sweep : T (free g s c) → t ≡ sweep g s c
  unfolding sweep
  ends_sweep b =
      ext_get_or 0 t (sweep g s c) (p.going.long ∙ sym (length-map (cells g) f ∙ length_cells g))
      (λ x k. one x (omega (arith, p.going.long)) ∙ sym (get_d_cells g f x (omega (arith, p.going.long))))
    where
      f : ℕ → ℕ
      f j = cond (closed s j && holds g j (spread g s c)) 1 (get_or s j 0)

      one : (x : ℕ) → x < size g → get_or t x 0 ≡ cond (closed s x && holds g x (spread g s c)) 1 (get_or s x 0)
      one x k =
          ⊎_elim (λ e. same (closed s x && holds g x (spread g s c)) refl e)
          (λ (w : New g s c t x). w.now ∙ ap (λ (d : Bool). cond d 1 (get_or s x 0))
          (sym (T→true (closed s x && holds g x (spread g s c)) (and_both (closed s x) (holds g x (spread g s c)) (is_closed s x w.was) (near_held b x k w.near)))))
          (p.going.states x k)
        where
          same : (d : Bool) → (closed s x && holds g x (spread g s c)) ≡ d → get_or t x 0 ≡ get_or s x 0 → get_or t x 0 ≡ cond d 1 (get_or s x 0)
          same true q e =
              absurd (held_open b x k (and_right (closed s x) (holds g x (spread g s c)) (rw q tt))
              (e ∙ eqb→eq (get_or s x 0) 0 (and_left (closed s x) (holds g x (spread g s c)) (rw q tt))))
          same false q e = e

  pub ends_reveal : T (safe g c) → t ≡ reveal g s c
  unfolding reveal
  ends_reveal f = go (safe g c) (T→true (safe g c) f) (closed s c) refl (zero_cell g c) refl
    where
      go : (a : Bool) → a ≡ true → (d : Bool) → closed s c ≡ d → (z : Bool) → zero_cell g c ≡ z
          → t ≡ elim (a && d) [ true ↦ elim z [ true ↦ sweep g s c | false ↦ set s c 1 ] | false ↦ s ]
      go true e true q true r = ends_sweep (and_both (zero_cell g c) (closed s c) (rw r tt) (rw q tt))
      go true e true q false r = ends_alone (λ u. subst T r u) (rw q tt)
      go true e false q z r = ends_still (λ u. subst T q u)
      go false e d q z r = absurd (subst T (sym e) tt)
