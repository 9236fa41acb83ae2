-- L on a safe cell on the work area: turn by turn it has the states of a position that the spread came to, at the end of that after L. Assumes nothing.
use Prim.Native.Nat.{ℕ, ◌*◌, ◌+◌, ◌<◌, ◌≤◌}
use native.Mathlib.Omega.{arith}
use mathlib.Core.Path.{◌∙◌, ◌≡◌, ap, refl, subst, sym}
use mathlib.Core.Bool.{Bool, ◌&&◌, false, not, true}
use mathlib.Core.List.{List, [], ◌∷◌}
use lib.Dec.{T, eqb, eqb→eq, not_T}
use lib.IntN.{ℤ}
use lib.ListN.{length, set}
use Rattle.area.specs.Numbers.{HasCells, content_at, put_waiting, waiting_at}
use Rattle.area.specs.Squares.{square_of}
use Rattle.area.specs.Stages.{Moving, Shape, moving_five}
use Rattle.game.specs.Area.{laid}
use Rattle.game.specs.Grid.{Grid, mine, safe, size, square, zero_cell}
use Rattle.game.specs.Lists.{fold}
use Rattle.game.specs.Moves.{reveal, sweep}
use Rattle.game.specs.Position.{Position, closed}
use Rattle.area.proofs.Cells.{cells_few}
use Rattle.area.proofs.CellByCell.{read_content}
use Rattle.area.proofs.Held.{content_mine}
use Rattle.area.proofs.Rows.{same-square}
use Rattle.game.proofs.Chains.{chain_last}
use Rattle.game.proofs.Members.{has_head}
use Rattle.game.proofs.Squares.{square→}
use Rattle.game.proofs.Truth.{T→true}
use Rattle.spread.specs.Spreads.{Fits, Opens, Spreading, now_spread, visited}
use Rattle.spread.proofs.Acts.{cells_of, spread_area, spread_of, take_acts, take_reads, visit_acts, visits_act}
use Rattle.spread.proofs.Ends.{ends_reveal}
use Rattle.spread.proofs.Turns.{Midway, Turn, free, midway_first, midway_more, turn}
use Rattle.spread.proofs.Visits.{fits_first, fits_taken}
use borrow.Author.Tests.{eq-eqb}

-- from the position s on, L on the cell c came to p on the work area
pub record Spreads (rows columns : ℕ) (g : Grid) (s : Position) (old : List ℤ) (c : ℕ) (p : Spreading) : Type 0 where
  pub rows_are : g.rows ≡ rows
  pub columns_are : g.columns ≡ columns
  pub shape : Shape rows columns
  pub room : HasCells old (size g)
  pub inside : c < size g
  pub long : length s ≡ size g
  pub safe_first : T (safe g c)
  pub so : Turn
  pub midway : Midway g s c so
  pub is : p ≡ spread_of g old so

-- the cells of a grid of so many rows and columns
same_size : (rows columns : ℕ) (g : Grid) → g.rows ≡ rows → g.columns ≡ columns → size g ≡ rows * columns
same_size rows columns g e f = ap (λ (k : ℕ). k * g.columns) e ∙ ap (λ (k : ℕ). rows * k) f

-- before the first cell
moving_area : (g : Grid) (s : Position) (old : List ℤ) → laid (moving_five g s) (size g) old ≡ spread_area g old s []
unfolding moving_five
moving_area g s old = refl

-- a mine is not opened with the safe cells
mine_stays : (g : Grid) (s : Position) (c : ℕ) → T (mine g c) → s ≡ reveal g s c
unfolding reveal
mine_stays g s c t = go (mine g c) (T→true (mine g c) t)
  where
    go : (b : Bool) → b ≡ true → s ≡ elim (not b && closed s c) [ true ↦ elim (zero_cell g c) [ true ↦ sweep g s c | false ↦ set s c 1 ] | false ↦ s ]
    go true e = refl
    go false e = absurd (subst T (sym e) tt)

module _ (rows columns : ℕ) (g : Grid) (s : Position) (old : List ℤ) (c : ℕ) where
  -- content 0 is a mine
  mine_read : (w : List ℤ) (content : ℕ) → Moving rows columns g s old w → c < rows * columns → content ≡ content_at w c → eqb content 0 ≡ mine g c
  mine_read w content m h e =
      let z = same_size rows columns g m.rows_are m.columns_are in
      ap (λ (k : ℕ). eqb k 0) (e ∙ ap (λ (v : List ℤ). content_at v c) (m.holds_it ∙ moving_area g s old)
      ∙ read_content (size g) old m.room (cells_of g s []) c (omega arith)) ∙ content_mine g c

  -- the first cell
  pub spreads_first : (w : List ℤ) (p : Spreading) (content : ℕ) → Moving rows columns g s old w → c < rows * columns → content ≡ content_at w c → (content ≡ 0 → ⊥)
      → p ≡ visited (now_spread w 0 0) c → Spreads rows columns g s old c p
  spreads_first w p content m h d o e =
      let f : T (safe g c) = not_T (mine g c) (λ t. o (eqb→eq content 0 (subst T (sym (mine_read w content m h d)) t))) in
      let z = same_size rows columns g m.rows_are m.columns_are in
      let few : size g ≤ 65025 = omega (arith, cells_few rows columns m.shape) in
      let i : c < size g = omega arith in
      let q : w ≡ spread_area g old s [] = m.holds_it ∙ moving_area g s old in
      record {
        rows_are = m.rows_are;
        columns_are = m.columns_are;
        shape = m.shape;
        room = m.room;
        inside = i;
        long = m.long;
        safe_first = f;
        so = turn g (record { position = s; waits = []; so_far = 0 }) c;
        midway = midway_first g s c m.long i f;
        is = e ∙ ap (λ (v : List ℤ). visited (now_spread v 0 0) c) q
            ∙ visit_acts g old m.room few (record { position = s; waits = []; so_far = 0 }) (fits_first (size g) (spread_area g old s [])) m.long c i;
      }

  -- one that waits is taken, and its square is visited
  pub spreads_more : (w : List ℤ) (top k from : ℕ) (w1 : List ℤ) → from ≡ waiting_at w top → w1 ≡ put_waiting w top 0 → (r : Spreading) → Fits (rows * columns) (now_spread w (top + 1) k)
      → r ≡ fold visited (now_spread w1 top k) (square_of rows columns from) → Spreads rows columns g s old c (now_spread w (top + 1) k) → Spreads rows columns g s old c r
  spreads_more w top k from w1 ef ew1 r fits e p = go p.so.position p.so.waits p.so.so_far p.midway p.is
    where
      z_size : size g ≡ rows * columns
      z_size = same_size rows columns g p.rows_are p.columns_are

      few : size g ≤ 65025
      few = omega (arith, z_size, cells_few rows columns p.shape)

      go : (t : Position) (ws : List ℕ) (n : ℕ) → Midway g s c (record { position = t; waits = ws; so_far = n }) → now_spread w (top + 1) k ≡ spread_of g old (record { position = t; waits = ws; so_far = n })
          → Spreads rows columns g s old c r
      go t [] n m q = absurd (omega (arith, ap (λ (x : Spreading). x.waiting) q))
      go t (z ∷ zs) n m q =
          let next : Turn = record { position = t; waits = zs; so_far = n } in
          let et : top ≡ length zs = omega (arith, ap (λ (x : Spreading). x.waiting) q) in
          let b : length zs < size g = omega (arith, fits.places, z_size) in
          let ew : w ≡ spread_area g old t (z ∷ zs) = ap (λ (x : Spreading). x.work) q in
          let ez : from ≡ z =
          ef ∙ ap (λ (v : List ℤ). waiting_at v top) ew ∙ ap (λ (i : ℕ). waiting_at (spread_area g old t (z ∷ zs)) i) et ∙ take_reads g old p.room few t z zs b in
          let e1 : now_spread w1 top k ≡ spread_of g old next =
          ap (λ (v : List ℤ). now_spread v top k) ew1 ∙ ap (λ (v : List ℤ). now_spread (put_waiting v top 0) top k) ew
          ∙ ap (λ (i : ℕ). now_spread (put_waiting (spread_area g old t (z ∷ zs)) i 0) i k) et
          ∙ ap (λ (v : List ℤ). now_spread v (length zs) k) (take_acts g old p.room few t z zs b)
          ∙ ap (λ (x : Spreading). now_spread (spread_area g old t zs) (length zs) x.opened) q in
          let es : square_of rows columns from ≡ square g z =
          ap (square_of rows columns) ez ∙ ap (λ (i : ℕ). square_of i columns z) (sym p.rows_are) ∙ ap (λ (i : ℕ). square_of g.rows i z) (sym p.columns_are) ∙ same-square g z in
          let h = (chain_last g (free g s) c z (m.going.stack z (has_head z z zs refl))).inside in
          record {
            rows_are = p.rows_are;
            columns_are = p.columns_are;
            shape = p.shape;
            room = p.room;
            inside = p.inside;
            long = p.long;
            safe_first = p.safe_first;
            so = fold (turn g) next (square g z);
            midway = midway_more g s c p.inside t z zs n m;
            is = e ∙ ap (λ (x : Spreading). fold visited x (square_of rows columns from)) e1 ∙ ap (fold visited (spread_of g old next)) es
                ∙ visits_act g old p.room few (square g z) (λ x u. (square→ g z x h u).0) next
                (subst (Fits (size g)) e1 (subst (λ (i : ℕ). Fits i (now_spread w1 top k)) (sym z_size) (rw ew1 (fits_taken (rows * columns) w top k fits)))) m.going.long;
          }

  -- none waits
  pub spreads_last : (w : List ℤ) (top k : ℕ) → top ≤ 0 → Spreads rows columns g s old c (now_spread w top k) → Opens rows columns g s (reveal g s c) old k w
  spreads_last w top k h p = go p.so.position p.so.waits p.so.so_far p.midway p.is
    where
      go : (t : Position) (ws : List ℕ) (n : ℕ) → Midway g s c (record { position = t; waits = ws; so_far = n }) → now_spread w top k ≡ spread_of g old (record { position = t; waits = ws; so_far = n })
          → Opens rows columns g s (reveal g s c) old k w
      go t (z ∷ zs) n m q = absurd (omega (arith, ap (λ (x : Spreading). x.waiting) q))
      go t [] n m q =
          subst (λ (v : Position). Opens rows columns g s v old k w) (ends_reveal g s c p.inside p.long t n m p.safe_first)
          (record {
            moving = record {
              rows_are = p.rows_are;
              columns_are = p.columns_are;
              shape = p.shape;
              room = p.room;
              long = m.going.long;
              holds_it = ap (λ (x : Spreading). x.work) q ∙ sym (moving_area g t old);
            };
            fewer = omega (arith, ap (λ (x : Spreading). x.opened) q, m.going.counted);
          })

  -- a mine stays as it is
  pub spreads_none : (w : List ℤ) (content : ℕ) → Moving rows columns g s old w → c < rows * columns → content ≡ content_at w c → content ≡ 0 → Opens rows columns g s (reveal g s c) old 0 w
  spreads_none w content m h e z =
      subst (λ (v : Position). Opens rows columns g s v old 0 w)
      (mine_stays g s c (subst T (mine_read w content m h e) (subst T (sym (eq-eqb content 0 z)) tt)))
      (record { moving = m; fewer = omega arith })
