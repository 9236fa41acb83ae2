-- One replayed move by its branches: what is read of the cell says whether it is as the move asks; what was clicked or put is the position after it. Assumes nothing.
use Prim.Native.Nat.{ℕ, ◌*◌, ◌<◌, ◌≤◌}
use native.Mathlib.Omega.{arith}
use mathlib.Core.Path.{◌∙◌, ◌≡◌, ap, refl, subst, sym}
use mathlib.Core.Bool.{Bool, false, true}
use mathlib.Core.List.{List, [], ◌∷◌}
use mathlib.Core.Option.{some}
use lib.Dec.{T, eqb, eqb→eq}
use lib.IntN.{ℤ}
use lib.ListN.{get_or, set}
use Rattle.area.specs.Numbers.{put_state, state_at}
use Rattle.area.specs.Squares.{square_of}
use Rattle.area.specs.Stages.{Moving}
use Rattle.game.specs.Grid.{Grid}
use Rattle.game.specs.Moves.{Move, allowed, chord, chordable, click_each, flag, left, play, unflag}
use Rattle.game.specs.Position.{Position}
use Rattle.game.proofs.Truth.{T→true, no→false}
use Rattle.replay.specs.Clicks.{Clicked, Comes, Counts}
use Rattle.replay.specs.Replays.{Making}
use Rattle.std.specs.Prelude.{Some, None}
use Rattle.replay.specs.declared.clicks.Remains.{Remains}
use Rattle.replay.proofs.Cells.{inside, square_is, state_put, state_read}
use Rattle.replay.proofs.Counting.{set_closed, set_lost}
use borrow.Author.Tests.{eq-eqb}

module _ (rows columns : ℕ) (g : Grid) (s : Position) (old w : List ℤ) (i : ℕ) (h : i < rows * columns) (m : Moving rows columns g s old w) where
  -- the cell is not as the move asks
  refused : (x : Move) → (T (allowed g s x) → ⊥) → Making rows columns g s old (allowed g s x) (some x) None w w
  refused x n = rw (no→false (allowed g s x) n) (record { answer = refl; unchanged = refl })

  -- it is, and the position after the move was come to
  played : (x : Move) (q r : Remains) (v : List ℤ) → T (allowed g s x) → Counts g s q → Comes rows columns g s (play g s x) old q r v
      → Making rows columns g s old (allowed g s x) (some x) (Some r) w v
  played x q r v t c p =
      let d = p.counts c in
      rw (T→true (allowed g s x) t)
      (record { left = r; answer = refl; moving = p.moving; closed_are = d.closed_are; lost_is = d.lost_is })

  -- ---- the state read

  state_is : (n k : ℕ) → n ≡ state_at w i → n ≡ k → T (eqb (get_or s i 0) k)
  state_is n k e z = subst T (sym (eq-eqb (get_or s i 0) k (sym (e ∙ state_read rows columns g s old w m i h) ∙ z))) tt

  state_not : (n k : ℕ) → n ≡ state_at w i → (n ≡ k → ⊥) → T (eqb (get_or s i 0) k) → ⊥
  state_not n k e z t = z (e ∙ state_read rows columns g s old w m i h ∙ eqb→eq (get_or s i 0) k t)

  pub left_refused : (n : ℕ) → n ≡ state_at w i → (n ≡ 0 → ⊥) → Making rows columns g s old (allowed g s (left i)) (some (left i)) None w w
  left_refused n e z = refused (left i) (state_not n 0 e z)

  pub flag_refused : (n : ℕ) → n ≡ state_at w i → (n ≡ 0 → ⊥) → Making rows columns g s old (allowed g s (flag i)) (some (flag i)) None w w
  flag_refused n e z = refused (flag i) (state_not n 0 e z)

  pub unflag_refused : (n : ℕ) → n ≡ state_at w i → (n ≡ 2 → ⊥) → Making rows columns g s old (allowed g s (unflag i)) (some (unflag i)) None w w
  unflag_refused n e z = refused (unflag i) (state_not n 2 e z)

  -- ---- F, and the taking away of a flag

  -- another state, neither opened nor an opened mine, as the one before
  restated : (n k v : ℕ) (q : Remains) (u : List ℤ) → n ≡ state_at w i → n ≡ k → v ≤ 3 → eqb v 1 ≡ eqb k 1 → eqb v 3 ≡ eqb k 3 → u ≡ put_state w i v
      → Comes rows columns g s (set s i v) old q q u
  restated n k v q u e z few a b d =
      let j = inside rows columns g s old w m i h in
      let o : k ≡ get_or s i 0 = sym z ∙ e ∙ state_read rows columns g s old w m i h in
      record {
        moving = state_put rows columns g s old w m i h v u few d;
        counts = λ c. record {
          closed_are = c.closed_are ∙ sym (set_closed g s i j m.long v (a ∙ ap (λ (x : ℕ). eqb x 1) o));
          lost_is = c.lost_is ∙ sym (set_lost g s i j m.long v (b ∙ ap (λ (x : ℕ). eqb x 3) o));
        };
      }

  pub flag_played : (n : ℕ) (q : Remains) (u : List ℤ) → n ≡ state_at w i → n ≡ 0 → u ≡ put_state w i 2 → Counts g s q
      → Making rows columns g s old (allowed g s (flag i)) (some (flag i)) (Some q) w u
  unfolding play
  flag_played n q u e z d c = played (flag i) q q u (state_is n 0 e z) c (restated n 0 2 q u e z (omega arith) refl refl d)

  pub unflag_played : (n : ℕ) (q : Remains) (u : List ℤ) → n ≡ state_at w i → n ≡ 2 → u ≡ put_state w i 0 → Counts g s q
      → Making rows columns g s old (allowed g s (unflag i)) (some (unflag i)) (Some q) w u
  unfolding play
  unflag_played n q u e z d c = played (unflag i) q q u (state_is n 2 e z) c (restated n 2 0 q u e z (omega arith) refl refl d)

  -- ---- L and C

  -- the safe ones of some cells opened, then the mines
  module _ (xs : List ℕ) (q r p : Remains) (v u : List ℤ) (a : Clicked rows columns false w xs q r v) (b : Clicked rows columns true v xs r p u) where
    clicks_both : Comes rows columns g s (click_each g s xs) old q p u
    clicks_both =
        let y = a.comes g s old m in
        let z = b.comes g _ old y.moving in
        record { moving = z.moving; counts = λ c. z.counts (y.counts c) }

  pub left_played : (n : ℕ) (q r p : Remains) (v u : List ℤ) → n ≡ state_at w i → n ≡ 0 → Clicked rows columns false w (i ∷ []) q r v → Clicked rows columns true v (i ∷ []) r p u → Counts g s q
      → Making rows columns g s old (allowed g s (left i)) (some (left i)) (Some p) w u
  unfolding play
  left_played n q r p v u e z a b c = played (left i) q p u (state_is n 0 e z) c (clicks_both (i ∷ []) q r p v u a b)

  pub chord_played : (y : Bool) (q r p : Remains) (v u : List ℤ) → y ≡ chordable g s i → y ≡ true → Clicked rows columns false w (square_of rows columns i) q r v
      → Clicked rows columns true v (square_of rows columns i) r p u → Counts g s q → Making rows columns g s old (allowed g s (chord i)) (some (chord i)) (Some p) w u
  unfolding play
  chord_played y q r p v u e z a b c =
      played (chord i) q p u (subst T (sym z ∙ e) tt) c
      (subst (λ (xs : List ℕ). Comes rows columns g s (click_each g s xs) old q p u) (square_is rows columns g s old w m i) (clicks_both (square_of rows columns i) q r p v u a b))
