-- build_cells_ref pushes column by column, so the cell of an index stands at it. Assumes nothing.
use Prim.Native.Nat.{ℕ, ◌*◌, ◌+◌, ◌-◌, ◌<◌, suc, zero}
use native.Mathlib.Omega.{arith}
use native.Mathlib.Nat.{add-zero, sub-zero, zero-add}
use mathlib.Core.Path.{◌∙◌, ◌≡◌, ap, sym}
use mathlib.Core.Bool.{false}
use mathlib.Core.List.{map}
use lib.IntN.{pos}
use lib.ListN.{get_or-append, length, length-append, length-map}
use lib.Seq.{get_or-append-add}
use Rattle.game.specs.Grid.{Grid, column_of, mine, row_of, size}
use Rattle.game.specs.Lists.{concat_map, from, range}
use Rattle.original.specs.Cells.{Cells, Zcell, at, build_cells_ref, built, nought}
use Rattle.game.proofs.Members.{length_from, suc_across}
use Rattle.game.proofs.Squares.{column_lt, index_of, row_lt}
use Rattle.original.proofs.Tables.{Table, cell}

at_from : (f : ℕ → Zcell) (n a j : ℕ) → j < n → at (map f (from a n)) j ≡ f (a + j)
at_from f zero a j h = absurd (omega arith)
at_from f (suc n) a zero h = ap f (omega arith)
at_from f (suc n) a (suc j) h = at_from f n (suc a) j (omega arith) ∙ ap f (omega arith)

-- one run of a length
run : (ℕ → ℕ → Zcell) → ℕ → ℕ → Cells
run f h c = map (λ r. f c r) (range 0 h)

length_run : (f : ℕ → ℕ → Zcell) (h c : ℕ) → length (run f h c) ≡ h
unfolding run
length_run f h c = length-map (range 0 h) (λ r. f c r) ∙ length_from (h - 0) 0 ∙ omega arith

at_run : (f : ℕ → ℕ → Zcell) (h c r : ℕ) → r < h → at (run f h c) r ≡ f c r
unfolding run
at_run f h c r l = at_from (λ r. f c r) (h - 0) 0 r (omega arith) ∙ ap (f c) (zero-add r)

-- runs of one length, one after the other, by run and place
at_runs : (f : ℕ → ℕ → Zcell) (h n a c r : ℕ) → c < n → r < h → at (concat_map (run f h) (from a n)) (c * h + r) ≡ f (a + c) r
at_runs f h zero a c r k l = absurd (omega arith)
at_runs f h (suc n) a zero r k l =
    ap (at (concat_map (run f h) (from a (suc n)))) first ∙ get_or-append (run f h a) (concat_map (run f h) (from (suc a) n)) nought r (omega (arith, length_run f h a))
    ∙ at_run f h a r l ∙ ap (λ (k : ℕ). f k r) (sym (add-zero a))
  where
    first : 0 * h + r ≡ r
    first = omega arith
at_runs f h (suc n) a (suc c) r k l =
    ap (at (concat_map (run f h) (from a (suc n)))) (later (length_run f h a)) ∙ get_or-append-add (run f h a) (concat_map (run f h) (from (suc a) n)) (c * h + r) nought
    ∙ at_runs f h n (suc a) c r (omega arith) l ∙ ap (λ (k : ℕ). f k r) (suc_across a c)
  where
    later : length (run f h a) ≡ h → suc c * h + r ≡ length (run f h a) + (c * h + r)
    later e = omega arith

length_runs : (f : ℕ → ℕ → Zcell) (h n a : ℕ) → length (concat_map (run f h) (from a n)) ≡ h * n
length_runs f h zero a = omega arith
length_runs f h (suc n) a =
    length-append (run f h a) (concat_map (run f h) (from (suc a) n)) ∙ omega (arith, length_run f h a, length_runs f h n (suc a))

-- before any loop: no number, no opening, no premium
pub built_table : (g : Grid) → Table (size g) (λ i. cell g i 0 0 0 false false (pos 0)) (build_cells_ref g g.rows g.columns)
unfolding build_cells_ref run mine
built_table g =
    record {
      long = length_runs f g.rows (g.columns - 0) 0 ∙ ap (λ (k : ℕ). g.rows * k) (sub-zero g.columns);
      reads = λ i h.
          ap (at (build_cells_ref g g.rows g.columns)) (sym (index_of g i))
          ∙ at_runs f g.rows (g.columns - 0) 0 (column_of g i) (row_of g i) (omega (arith, column_lt g i h)) (row_lt g i h)
          ∙ ap (λ (c : ℕ). f c (row_of g i)) (zero-add (column_of g i));
    }
  where
    f : ℕ → ℕ → Zcell
    f c r = built g g.rows g.columns c r
