-- L on cells one after the other on the work area: nothing, one cell, two lists; one cell by its branches. Assumes nothing.
use Prim.Native.Nat.{ℕ, ◌*◌, ◌-◌, ◌<◌}
use native.Mathlib.Omega.{arith}
use mathlib.Core.Path.{◌∙◌, ◌≡◌, ap, subst, sym}
use mathlib.Core.Bool.{Bool, ◌&&◌, false, true}
use mathlib.Core.List.{List, [], ◌++◌, ◌∷◌}
use lib.Dec.{T, eqb→eq}
use lib.IntN.{ℤ}
use lib.ListN.{get_or, set}
use Rattle.area.specs.Numbers.{content_at, put_state, state_at}
use Rattle.area.specs.Stages.{Moving}
use Rattle.game.specs.Grid.{Grid, mine}
use Rattle.game.specs.Lists.{fold}
use Rattle.game.specs.Moves.{blow, reveal}
use Rattle.game.specs.Position.{Position, closed}
use Rattle.spread.specs.Spreads.{Opens}
use Rattle.area.proofs.Held.{content_mine}
use Rattle.game.proofs.Members.{fold_append}
use Rattle.game.proofs.Truth.{T→true, and_both, and_left, and_right, no→false}
use Rattle.replay.specs.Clicks.{Clicked, Comes, click_one}
use Rattle.replay.specs.declared.clicks.Remains.{Remains}
use Rattle.replay.proofs.Cells.{content_read, inside, state_put, state_read}
use Rattle.replay.proofs.Counting.{mine_closed, mine_lost, reveal_lost}
use borrow.Author.Tests.{eq-eqb}

module _ (rows columns : ℕ) (mines : Bool) where
  pub clicked_none : (w : List ℤ) (q : Remains) → Clicked rows columns mines w [] q q w
  clicked_none w q = record { comes = λ g s old m. record { moving = m; counts = λ c. c } }

  pub clicked_both : (w v u : List ℤ) (xs ys : List ℕ) (q r p : Remains) → Clicked rows columns mines w xs q r v → Clicked rows columns mines v ys r p u
      → Clicked rows columns mines w (xs ++ ys) q p u
  clicked_both w v u xs ys q r p a b = record { comes = both }
    where
      both : (g : Grid) (s : Position) (old : List ℤ) → Moving rows columns g s old w → Comes rows columns g s (fold (click_one mines g) s (xs ++ ys)) old q p u
      both g s old m =
          let c = a.comes g s old m in
          let d = b.comes g (fold (click_one mines g) s xs) old c.moving in
          subst (λ (t : Position). Comes rows columns g s t old q p u) (sym (fold_append (click_one mines g) s xs ys))
          (record { moving = d.moving; counts = λ k. d.counts (c.counts k) })

-- ---- the mines

-- a closed mine
blow_mine : (g : Grid) (s : Position) (i : ℕ) → T (mine g i) → T (closed s i) → set s i 3 ≡ blow g s i
unfolding blow
blow_mine g s i t c =
    ap (λ (b : Bool). elim b as (λ _. Position) [ true ↦ set s i 3 | false ↦ s ])
    (sym (T→true (mine g i && closed s i) (and_both (mine g i) (closed s i) t c)))

-- any other cell
blow_none : (g : Grid) (s : Position) (i : ℕ) → (T (mine g i) → T (closed s i) → ⊥) → s ≡ blow g s i
unfolding blow
blow_none g s i n =
    ap (λ (b : Bool). elim b as (λ _. Position) [ true ↦ set s i 3 | false ↦ s ])
    (sym (no→false (mine g i && closed s i) (λ t. n (and_left (mine g i) (closed s i) t) (and_right (mine g i) (closed s i) t))))

module _ (rows columns : ℕ) (mines : Bool) (w : List ℤ) (i : ℕ) (h : i < rows * columns) (q : Remains) where
  -- a safe cell and what spreads from it, if it is closed
  pub clicked_safe : (n k : ℕ) (v : List ℤ) → mines ≡ false → ((g : Grid) (s : Position) (old : List ℤ) → Moving rows columns g s old w → Opens rows columns g s (reveal g s i) old n v)
      → k ≡ q.closed - n → Clicked rows columns mines w (i ∷ []) q (record { closed = k; lost = q.lost }) v
  clicked_safe n k v e o d =
      rw e (record {
        comes = λ g s old m. let p = o g s old m in
            record {
              moving = p.moving;
              counts = λ c. record {
                closed_are = omega (arith, c.closed_are, p.fewer);
                lost_is = c.lost_is ∙ sym (reveal_lost g s i (inside rows columns g s old w m i h) m.long);
              };
            };
      })

  -- a cell that is no closed mine
  stays : mines ≡ true → ((g : Grid) (s : Position) (old : List ℤ) → Moving rows columns g s old w → T (mine g i) → T (closed s i) → ⊥) → Clicked rows columns mines w (i ∷ []) q q w
  stays e n =
      rw e (record {
        comes = λ g s old m. subst (λ (t : Position). Comes rows columns g s t old q q w) (blow_none g s i (n g s old m)) (record { moving = m; counts = λ c. c });
      })

  pub clicked_number : (k : ℕ) → mines ≡ true → k ≡ content_at w i → (k ≡ 0 → ⊥) → Clicked rows columns mines w (i ∷ []) q q w
  clicked_number k e ek n =
      stays e (λ g s old m t c. n (ek ∙ content_read rows columns g s old w m i h ∙ eqb→eq _ 0 (subst T (sym (content_mine g i)) t)))

  pub clicked_still : (k : ℕ) → mines ≡ true → k ≡ state_at w i → (k ≡ 0 → ⊥) → Clicked rows columns mines w (i ∷ []) q q w
  clicked_still k e ek n = stays e (λ g s old m t c. n (ek ∙ state_read rows columns g s old w m i h ∙ eqb→eq (get_or s i 0) 0 c))

  -- a closed mine
  pub clicked_mine : (k n : ℕ) (v : List ℤ) → mines ≡ true → k ≡ content_at w i → k ≡ 0 → n ≡ state_at w i → n ≡ 0 → v ≡ put_state w i 3
      → Clicked rows columns mines w (i ∷ []) q (record { closed = q.closed; lost = true }) v
  clicked_mine k n v e ek zk en zn d = rw e (record { comes = opens })
    where
      opens : (g : Grid) (s : Position) (old : List ℤ) → Moving rows columns g s old w → Comes rows columns g s (blow g s i) old q (record { closed = q.closed; lost = true }) v
      opens g s old m =
          let j = inside rows columns g s old w m i h in
          let t : T (mine g i) = subst T (content_mine g i) (subst T (sym (eq-eqb _ 0 (sym (ek ∙ content_read rows columns g s old w m i h) ∙ zk))) tt) in
          let c : T (closed s i) = subst T (sym (eq-eqb (get_or s i 0) 0 (sym (en ∙ state_read rows columns g s old w m i h) ∙ zn))) tt in
          subst (λ (x : Position). Comes rows columns g s x old q (record { closed = q.closed; lost = true }) v) (blow_mine g s i t c)
          (record {
            moving = state_put rows columns g s old w m i h 3 v (omega arith) d;
            counts = λ a. record {
              closed_are = a.closed_are ∙ sym (mine_closed g s i j m.long c);
              lost_is = mine_lost g s i j m.long;
            };
          })
