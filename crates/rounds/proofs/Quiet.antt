-- A step at a cell changes cells of its square, and those of the openings that the closed 0-cells of its square are of: no premium and no unit in a column more than two away that has no cell of these. Assumes nothing.
use Prim.Native.Nat.{ℕ, ◌*◌, ◌+◌, ◌-◌, ◌<◌, ◌≤◌}
use native.Mathlib.Omega.{arith}
use mathlib.Core.Path.{◌∙◌, ◌≡◌, ap, ap₂, refl, subst, sym}
use mathlib.Core.Logic.{⊎_elim}
use mathlib.Core.Bool.{Bool, ◌&&◌, ◌||◌, cond, false, not, true}
use mathlib.Core.List.{List, [], ◌++◌, ◌∷◌, map}
use lib.Dec.{T, T_not, eqb, ltb}
use lib.IntN.{ℤ}
use lib.ListN.{get_or, set}
use lib.Seq.{get_or-set_other}
use Rattle.area.proofs.Held.{held_numbers}
use Rattle.area.specs.Numbers.{premium_at, state_at}
use Rattle.area.specs.Stages.{Stands, raised}
use Rattle.choices.specs.Tests.{unit_at}
use Rattle.choices.specs.Tops.{column_top, column_units, top_with}
use Rattle.mark_columns.specs.Columns.{Far}
use Rattle.marks.specs.Marks.{Quiet}
use Rattle.game.specs.Grid.{Grid, column_of, mine, safe, size, square, zero_cell}
use Rattle.game.specs.Lists.{Each, bit, count, fold, has, keep, range}
use Rattle.game.specs.Moves.{Move, after, blow, chord, click_each, flag, left, play, reveal, sweep}
use Rattle.game.specs.Openings.{holds, joined_to, openings, unlabelled}
use Rattle.game.specs.Position.{Position, cell_unit, closed, cost, flagged, gain, opening_closed, unflagged, unopened}
use Rattle.game.specs.Rounds.{moves_at}
use Rattle.choices.proofs.Below.{in-column}
use Rattle.choices.proofs.Held.{unit_there}
use Rattle.game.proofs.Chains.{joined_trans}
use Rattle.game.proofs.Counts.{count_each, count_ext, each_map}
use Rattle.game.proofs.Members.{first_of, fold_inv, has_cases, has_range, keep_has, rest_of, some_same, some_yes, yes_some}
use Rattle.game.proofs.Openings.{Full, good, →joinedTo}
use Rattle.game.proofs.Reveal.{Revealed, held_joined, mine_off, opens, revealed, stays, sweep_closed, sweep_off, sweeps, unlabelled_off, zero_safe}
use Rattle.game.proofs.Squares.{in-own-square, square→}
use Rattle.game.proofs.Truth.{and_left, and_under}
use Rattle.game.proofs.Zeros.{Zero}

-- ---- the moves of a step at a cell

-- L or C on the cell, or F on a mine of its square
pub data MoveAt (g : Grid) (i : ℕ) : Move → Type 0 where
  opens_it : MoveAt g i (left i)
  flags_one : (m : ℕ) → T (has m (square g i)) → T (mine g m) → MoveAt g i (flag m)
  chords_it : MoveAt g i (chord i)

pub click-at : (g : Grid) (i : ℕ) → Each (MoveAt g i) (left i ∷ [])
click-at g i = (opens_it, tt)

pub moves-at : (g : Grid) (s : Position) (i : ℕ) → Each (MoveAt g i) (moves_at g s i)
unfolding moves_at
moves-at g s i =
    append (first ++ map flag mines) (chord i ∷ [])
    (append first (map flag mines) (lefts (closed s i)) (flags mines (λ m t.
    let k = keep_has (unflagged g s) m (square g i) t in
    flags_one m k.0 (and_left (mine g m) (not (eqb (get_or s m 0) 2)) k.1))))
    (chords_it, tt)
  where
    mines : List ℕ
    mines = keep (unflagged g s) (square g i)

    first : List Move
    first = cond (closed s i) (left i ∷ []) []

    append : (ms ns : List Move) → Each (MoveAt g i) ms → Each (MoveAt g i) ns → Each (MoveAt g i) (ms ++ ns)
    append [] ns a b = b
    append (m ∷ ms) ns a b = (a.0, append ms ns a.1 b)

    lefts : (b : Bool) → Each (MoveAt g i) (cond b (left i ∷ []) [])
    lefts true = click-at g i
    lefts false = tt

    flags : (xs : List ℕ) → ((x : ℕ) → T (has x xs) → MoveAt g i (flag x)) → Each (MoveAt g i) (map flag xs)
    flags [] h = tt
    flags (x ∷ xs) h = (first_of x xs h, flags xs (rest_of x xs h))

-- ---- what it leaves as it is

-- no opening holds the cell that a closed 0-cell in the square of i is of
abbrev Off : Grid → Position → ℕ → ℕ → Type 0
Off g s i j = (z : ℕ) → T (has z (square g i)) → T (zero_cell g z) → T (closed s z) → T (holds g j (joined_to g z)) → ⊥

-- such a cell has its state, unless it stands in the square and is no 0-cell; and no 0-cell is closed again
record Spared (g : Grid) (i : ℕ) (s s' : Position) : Type 0 where
  pub same : (j : ℕ) → j < size g → (T (has j (square g i)) → T (zero_cell g j)) → Off g s i j → get_or s' j 0 ≡ get_or s j 0
  pub shut : (j : ℕ) → j < size g → T (zero_cell g j) → T (closed s' j) → T (closed s j)

module _ (g : Grid) (s : Position) (i : ℕ) (inside : i < size g) where
  spared_set : (s' : Position) (c v : ℕ) → T (has c (square g i)) → (T (zero_cell g c) → ⊥) → Spared g i s s' → Spared g i s (set s' c v)
  spared_set s' c v t n k =
      record {
        same = λ j h f off. get_or-set_other s' c j v 0 (λ e. n (subst (λ (x : ℕ). T (zero_cell g x)) e (f (rw e t)))) ∙ k.same j h f off;
        shut = λ j h z u. k.shut j h z (subst (λ (x : ℕ). T (eqb x 0)) (get_or-set_other s' c j v 0 (λ e. n (subst (λ (x : ℕ). T (zero_cell g x)) e z))) u);
      }

  -- an opening swept is one that a closed 0-cell of the square is of
  kept_sweep : (s' : Position) (c : ℕ) → T (has c (square g i)) → T (closed s' c) → T (zero_cell g c) → Spared g i s s' → Spared g i s (sweep g s' c)
  kept_sweep s' c t b z k =
      record {
        same = λ j h f off.
            let hc = (square→ g i c inside t).0 in
            sweep_off g s' c j (record { inside = hc; none = z }) b h (off c t z (k.shut c hc z b)) ∙ k.same j h f off;
        shut = λ j h y u. k.shut j h y (sweep_closed g s' c j h u);
      }

  spared_reveal : (s' : Position) (c : ℕ) → T (has c (square g i)) → Spared g i s s' → Spared g i s (reveal g s' c)
  spared_reveal s' c t k = go (reveal g s' c) (revealed g s' c)
    where
      go : (p : Position) → Revealed g s' c p → Spared g i s p
      go p (stays m) = k
      go p (opens a b m) = spared_set s' c 1 t m k
      go p (sweeps a b z) = kept_sweep s' c t b z k

  spared_blow : (s' : Position) (c : ℕ) → T (has c (square g i)) → Spared g i s s' → Spared g i s (blow g s' c)
  unfolding blow
  spared_blow s' c t k = go (mine g c && closed s' c) refl
    where
      go : (b : Bool) → (mine g c && closed s' c) ≡ b → Spared g i s (elim b [ true ↦ set s' c 3 | false ↦ s' ])
      go true e =
          spared_set s' c 3 t (λ z.
          T_not (mine g c) (zero_safe g c (record { inside = (square→ g i c inside t).0; none = z })) (and_left (mine g c) (closed s' c) (rw e tt))) k
      go false e = k

  spared_clicks : (s' : Position) (xs : List ℕ) → ((x : ℕ) → T (has x xs) → T (has x (square g i))) → Spared g i s s' → Spared g i s (click_each g s' xs)
  spared_clicks s' xs h k =
      fold_inv (Spared g i s) (blow g) xs (λ p c t. spared_blow p c (h c t)) (fold (reveal g) s' xs)
      (fold_inv (Spared g i s) (reveal g) xs (λ p c t. spared_reveal p c (h c t)) s' k)

  kept_play : (s' : Position) (m : Move) → MoveAt g i m → Spared g i s s' → Spared g i s (play g s' m)
  unfolding play
  kept_play s' m opens_it k = spared_clicks s' (i ∷ []) (λ x t. has_cases x i [] (λ e. rw e (in-own-square g i inside)) (λ r. absurd r) t) k
  kept_play s' m (flags_one c t u) k =
      spared_set s' c 2 t (λ z. T_not (mine g c) (zero_safe g c (record { inside = (square→ g i c inside t).0; none = z })) u) k
  kept_play s' m chords_it k = spared_clicks s' (square g i) (λ x t. t) k

  kept-after : (ms : List Move) (s' : Position) → Each (MoveAt g i) ms → Spared g i s s' → Spared g i s (after g s' ms)
  kept-after [] s' e k = k
  kept-after (m ∷ ms) s' e k = kept-after ms (play g s' m) e.1 (kept_play s' m e.0 k)

  kept : (ms : List Move) → Each (MoveAt g i) ms → Spared g i s (after g s ms)
  kept ms e = kept-after ms s e (record { same = λ j h f off. refl; shut = λ j h z u. u })

-- ---- a premium is told by the unlabelled cells and the mines of its square, the cell itself and the 0-cells of its openings

module _ (g : Grid) (s s' : Position) (j : ℕ) where
  -- openings whose 0-cells keep their states
  pub same-openings : ((o : List ℕ) → Full g o → T (holds g j o) → (k : ℕ) → T (has k o) → get_or s' k 0 ≡ get_or s k 0)
      → count (λ o. holds g j o && opening_closed s' o) (openings g) ≡ count (λ o. holds g j o && opening_closed s o) (openings g)
  same-openings zeros =
      count_each (λ o. holds g j o && opening_closed s' o) (λ o. holds g j o && opening_closed s o) (openings g)
      (each_map (openings g) (λ o f. and_under (holds g j o) (opening_closed s' o) (opening_closed s o)
      (λ t. some_same (unopened s') (unopened s) o (λ k u. ap (λ (x : ℕ). not (eqb x 1)) (zeros o f t k u)))) (good g).full)

  same-gain : ((o : List ℕ) → Full g o → T (holds g j o) → (k : ℕ) → T (has k o) → get_or s' k 0 ≡ get_or s k 0)
      → ((k : ℕ) → T (has k (square g j)) → T (unlabelled g k) → get_or s' k 0 ≡ get_or s k 0) → gain g s' j ≡ gain g s j
  unfolding gain
  same-gain zeros bare =
      ap₂ ◌+◌ (same-openings zeros)
      (count_ext (cell_unit g s') (cell_unit g s) (square g j) (λ k t. and_under (unlabelled g k) (unopened s' k) (unopened s k)
      (λ u. ap (λ (x : ℕ). not (eqb x 1)) (bare k t u))))

  pub same-cost : get_or s' j 0 ≡ get_or s j 0 → ((k : ℕ) → T (has k (square g j)) → T (mine g k) → get_or s' k 0 ≡ get_or s k 0) → cost g s' j ≡ cost g s j
  unfolding cost
  same-cost own mines =
      ap₂ (λ (m n : ℕ). m + 1 + n)
      (count_ext (unflagged g s') (unflagged g s) (square g j) (λ k t. and_under (mine g k) (not (flagged s' k)) (not (flagged s k))
      (λ u. ap (λ (x : ℕ). not (eqb x 2)) (mines k t u))))
      (ap (λ (x : ℕ). bit (not (eqb x 1))) own)

-- ---- a column whose cells keep their states keeps its closed units

pub same_units : (rows columns : ℕ) (g : Grid) (s s' : Position) (old w w' : List ℤ) → Stands rows columns g s old w → Stands rows columns g s' old w' → (c : ℕ) → c < columns
    → ((j : ℕ) → j < size g → column_of g j ≡ c → get_or s' j 0 ≡ get_or s j 0) → column_units w' rows c ≡ column_units w rows c
same_units rows columns g s s' old w w' st st' c h f =
    count_ext (unit_at w') (unit_at w) (range (c * rows) (c * rows + rows)) (λ j t.
    let b = has_range (c * rows) (c * rows + rows) j t in
    let e = there j b.0 in
    let k = in-column rows columns g st.rows_are st.columns_are (j - c * rows) c (omega (arith, b.0, b.1)) h in
    one j (subst (λ (n : ℕ). n < size g) (sym e) k.0) (ap (column_of g) e ∙ k.1))
  where
    there : (j : ℕ) → c * rows ≤ j → j ≡ c * rows + (j - c * rows)
    there j l = omega arith

    one : (j : ℕ) → j < size g → column_of g j ≡ c → unit_at w' j ≡ unit_at w j
    one j l e =
        sym (unit_there g s' w' (held_numbers rows columns g s' old w' st') j l)
        ∙ ap (λ (n : ℕ). safe g j && eqb n 0 && (zero_cell g j || unlabelled g j)) (f j l e)
        ∙ unit_there g s w (held_numbers rows columns g s old w st) j l

-- ---- more than two columns away, and in none of those openings

-- the squares of cells in such columns do not meet
apart : (g : Grid) (i j k : ℕ) → i < size g → j < size g → Far (column_of g j) (column_of g i) → T (has k (square g j)) → T (has k (square g i)) → ⊥
apart g i j k hi hj far t u =
    let a = (square→ g i k hi u).1 in
    let b = (square→ g j k hj t).1 in
    ⊎_elim (λ h. omega arith) (λ h. omega arith) far

-- a 0-cell of the square
zero_there : (g : Grid) (i z : ℕ) → i < size g → T (has z (square g i)) → T (zero_cell g z) → Zero g z
zero_there g i z h t n = record { inside = (square→ g i z h t).0; none = n }

-- a 0-cell of an opening that holds the cell is in none of those openings either
opening_off : (g : Grid) (s : Position) (i j : ℕ) (o : List ℕ) → i < size g → Full g o → T (holds g j o) → Off g s i j → (k : ℕ) → T (has k o) → Off g s i k
opening_off g s i j o hi f t off k u z a n b v =
    let x = yes_some (λ y. has y o) (square g j) t in
    off z a n b (some_yes (λ y. has y (joined_to g z)) x.0 (square g j) x.1
    (→joinedTo g z x.0 (joined_trans g z k x.0 (held_joined g z k (zero_there g i z hi a n) (f.zero-cell k u) v) (f.linked k x.0 u x.2))))

module _ (g : Grid) (s : Position) (i : ℕ) (inside : i < size g) (ms : List Move) (at : Each (MoveAt g i) ms) where
  -- a cell there keeps its gain, its cost and its state
  pub quiet : (j : ℕ) → j < size g → Quiet g s i (column_of g j)
      → (gain g (after g s ms) j ≡ gain g s j) × (cost g (after g s ms) j ≡ cost g s j) × (get_or (after g s ms) j 0 ≡ get_or s j 0)
  quiet j h still = (same-gain g s (after g s ms) j zeros bare, same-cost g s (after g s ms) j own mines, own)
    where
      k : Spared g i s (after g s ms)
      k = kept g s i inside ms at

      off : Off g s i j
      off z t n u v = still.apart j z h refl t n u v

      outside : (x : ℕ) → T (has x (square g j)) → T (has x (square g i)) → ⊥
      outside x t u = apart g i j x inside h still.far t u

      own : get_or (after g s ms) j 0 ≡ get_or s j 0
      own = k.same j h (λ t. absurd (outside j (in-own-square g j h) t)) off

      bare : (x : ℕ) → T (has x (square g j)) → T (unlabelled g x) → get_or (after g s ms) x 0 ≡ get_or s x 0
      bare x t u = k.same x (square→ g j x h t).0 (λ v. absurd (outside x t v)) (λ z a n b v. unlabelled_off g x z u (zero_there g i z inside a n) v)

      mines : (x : ℕ) → T (has x (square g j)) → T (mine g x) → get_or (after g s ms) x 0 ≡ get_or s x 0
      mines x t u =
          let l = (square→ g j x h t).0 in
          k.same x l (λ v. absurd (outside x t v)) (λ z a n b v. mine_off g z x (zero_there g i z inside a n) l u v)

      zeros : (o : List ℕ) → Full g o → T (holds g j o) → (x : ℕ) → T (has x o) → get_or (after g s ms) x 0 ≡ get_or s x 0
      zeros o f t x u = let z = f.zero-cell x u in k.same x z.inside (λ v. z.none) (opening_off g s i j o inside f t off x u)

  -- ---- in the work area

  module _ (rows columns : ℕ) (old w w' : List ℤ) (st : Stands rows columns g s old w) (st' : Stands rows columns g (after g s ms) old w') where
    -- a cell there keeps its raised premium and its state
    pub quiet_numbers : (j : ℕ) → j < size g → Quiet g s i (column_of g j)
        → (premium_at w' j ≡ premium_at w j) × (state_at w' j ≡ state_at w j)
    unfolding raised
    quiet_numbers j h still =
        let q = quiet j h still in
        let v = held_numbers rows columns g s old w st in
        let v' = held_numbers rows columns g (after g s ms) old w' st' in (
          v'.premiums j h ∙ ap₂ (λ (m n : ℕ). cond (mine g j) 0 (10 + m - n)) q.0 q.1 ∙ sym (v.premiums j h),
          v'.states j h ∙ q.2 ∙ sym (v.states j h),
        )

    -- a column there has the highest premium that it had
    pub quiet_column : (openedOnly : Bool) (c : ℕ) → c < columns → Quiet g s i c → column_top openedOnly w' rows c ≡ column_top openedOnly w rows c
    quiet_column openedOnly c h still = go (range 0 rows) 9 (λ row t. (has_range 0 rows row t).1)
      where
        one : (top row : ℕ) → row < rows → top_with openedOnly w' top (c * rows + row) ≡ top_with openedOnly w top (c * rows + row)
        one top row k =
            let e = in-column rows columns g st.rows_are st.columns_are row c k h in
            let q = quiet_numbers (c * rows + row) e.0 (subst (Quiet g s i) (sym e.1) still) in
            ap₂ (λ (m n : ℕ). cond (ltb top m && (not openedOnly || eqb n 1)) m top) q.0 q.1

        go : (xs : List ℕ) (top : ℕ) → ((x : ℕ) → T (has x xs) → x < rows)
            → fold (λ t row. top_with openedOnly w' t (c * rows + row)) top xs ≡ fold (λ t row. top_with openedOnly w t (c * rows + row)) top xs
        go [] top f = refl
        go (x ∷ xs) top f =
            ap (λ (t : ℕ). fold (λ t row. top_with openedOnly w' t (c * rows + row)) t xs) (one top x (first_of x xs f))
            ∙ go xs (top_with openedOnly w top (c * rows + x)) (rest_of x xs f)

    -- and has the closed units that it had
    pub quiet_units : (c : ℕ) → c < columns → Quiet g s i c → column_units w' rows c ≡ column_units w rows c
    quiet_units c h still = same_units rows columns g s (after g s ms) old w w' st st' c h (λ j l e. (quiet j l (subst (Quiet g s i) (sym e) still)).2)
