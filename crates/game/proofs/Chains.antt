-- Chains of cells that pass a test run both ways; so do chains of 0-cells, and of three 0-cells in one square two are joined. Assumes nothing.
use Prim.Native.Nat.{ℕ, ◌+◌, ◌<◌, ◌≤◌}
use native.Mathlib.Omega.{arith}
use native.Mathlib.Decide.{ℕ_discrete, dec_le}
use mathlib.Core.Path.{◌∙◌, ◌≡◌, sym}
use mathlib.Core.Logic.{◌⊎◌, inl, inr, ⊎_elim}
use mathlib.Core.Bool.{Bool}
use lib.Dec.{T}
use Rattle.game.specs.Grid.{Grid, column_of, index, row_of, size, zero_cell}
use Rattle.game.specs.Openings.{Chain, Joined, itself, onward}
use Rattle.game.proofs.Squares.{Close, close_sym, index-column, index-row, row_lt, square→, →square}
use Rattle.game.proofs.Zeros.{Zero, between_column, between_row}

-- a cell of the grid that passes the test p
pub record Passes (g : Grid) (p : ℕ → Bool) (k : ℕ) : Type 0 where
  pub inside : k < size g
  pub test : T (p k)

pub chain_first : (g : Grid) (p : ℕ → Bool) (a b : ℕ) → Chain g p a b → Passes g p a
chain_first g p a b (itself h t) = record { inside = h; test = t }
chain_first g p a b (onward {b = m} j u t) = chain_first g p a m j

pub chain_last : (g : Grid) (p : ℕ → Bool) (a b : ℕ) → Chain g p a b → Passes g p b
chain_last g p a b (itself h t) = record { inside = h; test = t }
chain_last g p a b (onward {b = m} j u t) = record { inside = (square→ g m b (chain_last g p a m j).inside u).0; test = t }

pub chain_trans : (g : Grid) (p : ℕ → Bool) (a b c : ℕ) → Chain g p a b → Chain g p b c → Chain g p a c
chain_trans g p a b c j (itself h t) = j
chain_trans g p a b c j (onward {b = m} k u t) = onward (chain_trans g p a b m j k) u t

pub chain_close : (g : Grid) (p : ℕ → Bool) (a b : ℕ) → Passes g p a → Passes g p b → Close g a b → Chain g p a b
chain_close g p a b pa pb c = onward (itself pa.inside pa.test) (→square g a b pa.inside pb.inside c) pb.test

pub chain_sym : (g : Grid) (p : ℕ → Bool) (a b : ℕ) → Chain g p a b → Chain g p b a
chain_sym g p a b (itself h t) = itself h t
chain_sym g p a b (onward {b = m} j u t) =
    let pm = chain_last g p a m j in
    let s = square→ g m b pm.inside u in
    chain_trans g p b m a (chain_close g p b m (record { inside = s.0; test = t }) pm (close_sym g m b s.1)) (chain_sym g p a m j)

-- ---- chains of 0-cells

pub zero_passes : (g : Grid) (z : ℕ) → Zero g z → Passes g (zero_cell g) z
zero_passes g z h = record { inside = h.inside; test = h.none }

passes_zero : (g : Grid) (z : ℕ) → Passes g (zero_cell g) z → Zero g z
passes_zero g z h = record { inside = h.inside; none = h.test }

pub joined_first : (g : Grid) (a b : ℕ) → Joined g a b → Zero g a
joined_first g a b j = passes_zero g a (chain_first g (zero_cell g) a b j)

pub joined_last : (g : Grid) (a b : ℕ) → Joined g a b → Zero g b
joined_last g a b j = passes_zero g b (chain_last g (zero_cell g) a b j)

pub joined_trans : (g : Grid) (a b c : ℕ) → Joined g a b → Joined g b c → Joined g a c
joined_trans g a b c j k = chain_trans g (zero_cell g) a b c j k

pub joined_close : (g : Grid) (a b : ℕ) → Zero g a → Zero g b → Close g a b → Joined g a b
joined_close g a b za zb c = chain_close g (zero_cell g) a b (zero_passes g a za) (zero_passes g b zb) c

pub joined_sym : (g : Grid) (a b : ℕ) → Joined g a b → Joined g b a
joined_sym g a b j = chain_sym g (zero_cell g) a b j

-- ---- two 0-cells of one square

-- a - m - b
through : (g : Grid) (a m b : ℕ) → Zero g a → Zero g m → Zero g b → Close g a m → Close g m b → Joined g a b
through g a m b za zm zb c d = joined_trans g a m b (joined_close g a m za zm c) (joined_close g m b zm zb d)

row_gap : (g : Grid) (a b : ℕ) → Zero g a → Zero g b → row_of g a ≡ row_of g b → column_of g a + 2 ≡ column_of g b → Joined g a b
row_gap g a b za zb er ec =
    let hr = row_lt g a za.inside in
    let ir = index-row g (row_of g a) (column_of g a + 1) hr in
    let ic = index-column g (row_of g a) (column_of g a + 1) hr in
    through g a (index g (row_of g a) (column_of g a + 1)) b za (between_row g a b za zb er ec) zb
    (omega arith)
    (omega arith)

column_gap : (g : Grid) (a b : ℕ) → Zero g a → Zero g b → column_of g a ≡ column_of g b → row_of g a + 2 ≡ row_of g b → Joined g a b
column_gap g a b za zb ec er =
    let hm : row_of g a + 1 < g.rows = omega (arith, row_lt g b zb.inside, er) in
    let ir = index-row g (row_of g a + 1) (column_of g a) hm in
    let ic = index-column g (row_of g a + 1) (column_of g a) hm in
    through g a (index g (row_of g a + 1) (column_of g a)) b za (between_column g a b za zb ec er) zb
    (omega arith)
    (omega arith)

-- two places at most one from p: the first is two before, two after, or they are at most one apart
apart : (p x y : ℕ) → p ≤ x + 1 → x ≤ p + 1 → p ≤ y + 1 → y ≤ p + 1 → (x + 2 ≡ y) ⊎ ((y + 2 ≡ x) ⊎ ((x ≤ y + 1) × (y ≤ x + 1)))
apart p x y a b c d =
    elim (ℕ_discrete (x + 2) y) [
      | yes e ↦ inl e
      | no f ↦ elim (ℕ_discrete (y + 2) x) [ yes e ↦ inr (inl e) | no k ↦ inr (inr (omega arith)) ]
    ]

pub same_row : (g : Grid) (i a b : ℕ) → Zero g a → Zero g b → Close g i a → Close g i b → row_of g a ≡ row_of g b → Joined g a b
same_row g i a b za zb ca cb er =
    ⊎_elim (λ e. row_gap g a b za zb er e)
    (λ r. ⊎_elim (λ e. joined_sym g b a (row_gap g b a zb za (sym er) e))
    (λ c. joined_close g a b za zb (omega arith)) r)
    (apart (column_of g i) (column_of g a) (column_of g b) ca.west ca.east cb.west cb.east)

pub same-column : (g : Grid) (i a b : ℕ) → Zero g a → Zero g b → Close g i a → Close g i b → column_of g a ≡ column_of g b → Joined g a b
same-column g i a b za zb ca cb ec =
    ⊎_elim (λ e. column_gap g a b za zb ec e)
    (λ r. ⊎_elim (λ e. joined_sym g b a (column_gap g b a zb za (sym ec) e))
    (λ c. joined_close g a b za zb (omega arith)) r)
    (apart (row_of g i) (row_of g a) (row_of g b) ca.north ca.south cb.north cb.south)

-- one in i's row and one in i's column
cross : (g : Grid) (i a b : ℕ) → Zero g a → Zero g b → Close g i a → Close g i b → row_of g a ≡ row_of g i → column_of g b ≡ column_of g i → Joined g a b
cross g i a b za zb ca cb er ec =
    joined_close g a b za zb (omega arith)

-- a place at most one from p, and not p
side : (p x : ℕ) → p ≤ x + 1 → x ≤ p + 1 → (x ≡ p → ⊥) → (x + 1 ≡ p) ⊎ (x ≡ p + 1)
side p x a b u = elim (dec_le x p) [ yes h ↦ inl (omega arith) | no k ↦ inr (omega arith) ]

-- beside the two neighbours of p there is only p
only : (p x y z : ℕ) → p ≤ z + 1 → z ≤ p + 1 → x + 1 ≡ p → y ≡ p + 1 → (x ≡ z → ⊥) → (y ≡ z → ⊥) → z ≡ p
only p x y z a b e f u v = elim (dec_le z p) [ yes h ↦ omega arith | no k ↦ absurd (v (omega arith)) ]

same-side : (p x y : ℕ) → x + 1 ≡ p → y + 1 ≡ p → x ≡ y
same-side p x y e f = omega arith

-- three different places at most one from p: one of them is p
third : (p x y z : ℕ) → p ≤ x + 1 → x ≤ p + 1 → p ≤ y + 1 → y ≤ p + 1 → p ≤ z + 1 → z ≤ p + 1 → (x ≡ y → ⊥) → (x ≡ z → ⊥) → (y ≡ z → ⊥)
    → (x ≡ p) ⊎ ((y ≡ p) ⊎ (z ≡ p))
third p x y z a b c d e f u v w =
    elim (ℕ_discrete x p) [
      | yes q ↦ inl q
      | no k ↦ elim (ℕ_discrete y p) [
        | yes q ↦ inr (inl q)
        | no l ↦ inr (inr (⊎_elim
            (λ s. ⊎_elim (λ t. absurd (u (same-side p x y s t))) (λ t. only p x y z e f s t v w) (side p y c d l))
            (λ s. ⊎_elim (λ t. only p y x z e f t s w v) (λ t. absurd (u (s ∙ sym t))) (side p y c d l))
            (side p x a b k)))
      ]
    ]

-- i itself, in its own row and column
centre : (g : Grid) (i a b : ℕ) → Zero g a → Zero g b → Close g i b → row_of g a ≡ row_of g i → column_of g a ≡ column_of g i → Joined g a b
centre g i a b za zb cb er ec =
    joined_close g a b za zb (omega arith)

-- of three 0-cells in one square two are joined: two share a row or a column, or one stands in the middle row and one in the middle column
pub three : (g : Grid) (i a b c : ℕ) → Zero g a → Zero g b → Zero g c → Close g i a → Close g i b → Close g i c
    → (Joined g a b → ⊥) → (Joined g a c → ⊥) → (Joined g b c → ⊥) → ⊥
three g i a b c za zb zc ca cb cc nab nac nbc =
    ⊎_elim
    (λ ra. ⊎_elim (λ ka. nab (centre g i a b za zb cb ra ka))
    (λ r. ⊎_elim (λ kb. nab (cross g i a b za zb ca cb ra kb)) (λ kc. nac (cross g i a c za zc ca cc ra kc)) r) columns)
    (λ r. ⊎_elim
    (λ rb. ⊎_elim (λ ka. nab (joined_sym g b a (cross g i b a zb za cb ca rb ka)))
    (λ r. ⊎_elim (λ kb. nbc (centre g i b c zb zc cc rb kb)) (λ kc. nbc (cross g i b c zb zc cb cc rb kc)) r) columns)
    (λ rc. ⊎_elim (λ ka. nac (joined_sym g c a (cross g i c a zc za cc ca rc ka)))
    (λ r. ⊎_elim (λ kb. nbc (joined_sym g c b (cross g i c b zc zb cc cb rc kb))) (λ kc. nac (joined_sym g c a (centre g i c a zc za ca rc kc))) r) columns)
    r)
    rows
  where
    rows : (row_of g a ≡ row_of g i) ⊎ ((row_of g b ≡ row_of g i) ⊎ (row_of g c ≡ row_of g i))
    rows =
        third (row_of g i) (row_of g a) (row_of g b) (row_of g c) ca.north ca.south cb.north cb.south cc.north cc.south
        (λ e. nab (same_row g i a b za zb ca cb e)) (λ e. nac (same_row g i a c za zc ca cc e)) (λ e. nbc (same_row g i b c zb zc cb cc e))

    columns : (column_of g a ≡ column_of g i) ⊎ ((column_of g b ≡ column_of g i) ⊎ (column_of g c ≡ column_of g i))
    columns =
        third (column_of g i) (column_of g a) (column_of g b) (column_of g c) ca.west ca.east cb.west cb.east cc.west cc.east
        (λ e. nab (same-column g i a b za zb ca cb e)) (λ e. nac (same-column g i a c za zc ca cc e)) (λ e. nbc (same-column g i b c zb zc cb cc e))
