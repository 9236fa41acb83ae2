-- The loop for the highest premium finds the cells of highest premium, the loop to fall back on the closed units; apply_zini takes the first. Assumes nothing.
use Prim.Native.Nat.{ℕ, ◌<◌}
use native.Mathlib.Omega.{arith}
use mathlib.Core.Path.{◌∙◌, ◌≡◌, ap, refl, subst, sym}
use mathlib.Core.Bool.{Bool, ◌&&◌, ◌||◌, cond, false, not, true}
use mathlib.Core.List.{List, [], ◌++◌, ◌∷◌, map}
use mathlib.Core.Option.{Option, none, some}
use lib.Dec.{T, eqb}
use lib.IntN.{negsuc, pos, ℤ}
use lib.Signed.{le_z, lt_z}
use Rattle.game.specs.Grid.{Grid, cells, safe, same, size, zero_cell}
use Rattle.game.specs.Lists.{fold, has, keep}
use Rattle.game.specs.Openings.{first_label}
use Rattle.game.specs.Position.{Position, Tidy, closed, opened, premium}
use Rattle.game.specs.Rounds.{closed_unit_cell, highest, least_chosen, looked, top_cells}
use Rattle.original.specs.Cells.{Zcell, at}
use Rattle.original.specs.Play.{State}
use Rattle.original.specs.Rounds.{Best, better, falls_back, first_fall}
use Rattle.game.proofs.Choices.{Top, le_z_trans, top→, →top}
use Rattle.game.proofs.Labels.{first-label}
use Rattle.game.proofs.Members.{first_of, has_keep, keep_has, rest_of}
use Rattle.game.proofs.Orders.{ordered_keep, ordered_range, ordered_same}
use Rattle.game.proofs.Squares.{cells→, length_cells}
use Rattle.game.proofs.Tidy.{tidy_unopened}
use Rattle.game.proofs.Truth.{T→true, and_both, and_false, and_left, and_right, and_true}
use Rattle.original.proofs.Positions.{Models}
use Rattle.original.proofs.Scans.{Scanned, fold_prefix, head_of, head_stays, le_z_same, not_lt, reaches, scanned_higher, scanned_none, scanned_same}

-- ---- the cells of highest premium

-- the cells that a step looks at
abbrev pub looks : Bool → Grid → Position → ℕ → Bool
looks human g s i = safe g i && (opened s i || not human)

-- what a loop over all cells comes to
pub scanned_tops : (human : Bool) (g : Grid) (s : Position) (m : ℤ) (ls : List ℕ) → Scanned (looks human g s) (premium g s) (cells g) m ls → ls ≡ top_cells human g s
unfolding top_cells
scanned_tops human g s m ls w =
    w.tops ∙ ordered_same (keep r (cells g)) (top_cells human g s) (ordered_keep ◌<◌ r (cells g) (ordered_range 0 (size g)))
    (ordered_keep ◌<◌ (λ i. le_z least_chosen (highest (map f (looked human g s))) && same (f i) (highest (map f (looked human g s)))) (looked human g s)
    (ordered_keep ◌<◌ (looks human g s) (cells g) (ordered_range 0 (size g)))) to_top (λ x t. from_top x (top→ human g s x t))
  where
    f : ℕ → ℤ
    f = premium g s

    r : ℕ → Bool
    r = reaches (looks human g s) f m

    to_top : (x : ℕ) → T (has x (keep r (cells g))) → T (has x (top_cells human g s))
    to_top x t =
        let a = keep_has r x (cells g) t in
        let b = and_right (looks human g s x) (le_z (pos 0) m && same (f x) m) a.1 in
        let c = and_right (le_z (f x) m) (le_z m (f x)) (and_right (le_z (pos 0) m) (same (f x) m) b) in
        →top human g s x (record {
          is_looked = has_keep (looks human g s) x (cells g) a.0 (and_left (looks human g s x) (le_z (pos 0) m && same (f x) m) a.1);
          reaches = le_z_trans (pos 0) m (f x) (and_left (le_z (pos 0) m) (same (f x) m) b) c;
          none_higher = λ y u. let v = keep_has (looks human g s) y (cells g) u in le_z_trans (f y) m (f x) (w.bound y v.0 v.1) c;
        })

    from_top : (x : ℕ) → Top human g s x → T (has x (keep r (cells g)))
    from_top x p =
        let v = keep_has (looks human g s) x (cells g) p.is_looked in
        let up = w.bound x v.0 v.1 in
        let z = le_z_trans (pos 0) (f x) m p.reaches up in
        let y = w.attained z in
        let down = le_z_trans m (f y.0) (f x) (le_z_same m (f y.0) (sym y.3)) (p.none_higher y.0 (has_keep (looks human g s) y.0 (cells g) y.1 y.2)) in
        has_keep r x (cells g) v.0 (and_both (looks human g s x) (le_z (pos 0) m && same (f x) m) v.1
        (and_both (le_z (pos 0) m) (same (f x) m) z (and_both (le_z (f x) m) (le_z m (f x)) up down)))

module _ (human : Bool) (g : Grid) (s : Position) (n : ℕ) (st : State) (w : Models g s n st) where
  -- the loop's test
  better_test : (m : ℤ) (x : ℕ) → x < size g
      → (lt_z m (at st.cells x).premium && not (at st.cells x).mine && ((at st.cells x).opened || not human)) ≡ (looks human g s x && lt_z m (premium g s x))
  better_test m x h =
      ap (λ (z : Zcell). lt_z m z.premium && not z.mine && (z.opened || not human)) (w.board.reads x h) ∙ go (safe g x) refl
    where
      turned : (a b : Bool) → (a && true && b) ≡ ((true && b) && a)
      turned true b = and_true b
      turned false b = and_false b

      go : (b : Bool) → safe g x ≡ b → (lt_z m (w.kept x) && b && (opened s x || not human)) ≡ ((b && (opened s x || not human)) && lt_z m (premium g s x))
      go true e = ap (λ (p : ℤ). lt_z m p && true && (opened s x || not human)) (w.exact x h (rw e tt)) ∙ turned (lt_z m (premium g s x)) (opened s x || not human)
      go false e = ap (λ (b : Bool). b && (opened s x || not human)) (sym (and_false (lt_z m (w.kept x))))

  -- the premium of a cell that is looked at
  premium-at : (x : ℕ) → x < size g → T (looks human g s x) → (at st.cells x).premium ≡ premium g s x
  premium-at x h t = ap (λ (z : Zcell). z.premium) (w.board.reads x h) ∙ w.exact x h (and_left (safe g x) (opened s x || not human) t)

  record Bettered (ps : List ℕ) (b : Best) : Type 0 where
    list : List ℕ
    scan : Scanned (looks human g s) (premium g s) ps b.maxp list
    first : b.curi ≡ head_of list

  bettered_one : (ps : List ℕ) (x : ℕ) (b : Best) → x < size g → Bettered ps b → Bettered (ps ++ (x ∷ [])) (better human st.cells b x)
  bettered_one ps x b h p =
      subst (λ (c : Bool). Bettered (ps ++ (x ∷ [])) (by c)) (sym (better_test b.maxp x h)) (go (looks human g s x && lt_z b.maxp (premium g s x)) refl)
    where
      by : Bool → Best
      by c = cond c (record { maxp = (at st.cells x).premium; curi = some x }) b

      go : (c : Bool) → (looks human g s x && lt_z b.maxp (premium g s x)) ≡ c → Bettered (ps ++ (x ∷ [])) (by c)
      go true e =
          let t : T (looks human g s x && lt_z b.maxp (premium g s x)) = rw e tt in
          let l = and_left (looks human g s x) (lt_z b.maxp (premium g s x)) t in
          record {
            list = x ∷ [];
            scan = rw (premium-at x h l) (scanned_higher (looks human g s) (premium g s) ps b.maxp p.list x l (and_right (looks human g s x) (lt_z b.maxp (premium g s x)) t) p.scan);
            first = refl;
          }
      go false e =
          record {
            list = p.list ++ cond (reaches (looks human g s) (premium g s) b.maxp x) (x ∷ []) [];
            scan = scanned_same (looks human g s) (premium g s) ps b.maxp p.list x
                (λ t. not_lt b.maxp (premium g s x) (ap (λ (c : Bool). c && lt_z b.maxp (premium g s x)) (sym (T→true (looks human g s x) t)) ∙ e)) p.scan;
            first = p.first ∙ sym (head_stays (looks human g s) (premium g s) ps b.maxp p.list x p.scan);
          }

  -- the loop comes to the first cell of highest premium
  pub best_first : (fold (better human st.cells) (record { maxp = negsuc 0; curi = none }) (cells g)).curi ≡ head_of (top_cells human g s)
  best_first =
      let r = fold_prefix Bettered (better human st.cells) (size g) (cells g) (λ ps x b t l p. bettered_one ps x b (cells→ g x t) p) [] (record { maxp = negsuc 0; curi = none })
      (omega (arith, length_cells g)) (record { list = []; scan = scanned_none (looks human g s) (premium g s); first = refl }) in
      r.first ∙ ap head_of (scanned_tops human g s (fold (better human st.cells) (record { maxp = negsuc 0; curi = none }) (cells g)).maxp r.list r.scan)

  -- ---- the cells to fall back on

  pub falls_unit : Tidy g s → (x : ℕ) → x < size g → falls_back st.cells x ≡ closed_unit_cell g s x
  falls_unit f x h =
      ap (λ (z : Zcell). not z.opened && not z.mine && (eqb z.number 0 || eqb z.opening 0)) (w.board.reads x h) ∙ go (safe g x) refl
      ∙ ap (λ (b : Bool). safe g x && closed s x && (zero_cell g x || b)) (sym (first-label g x))
    where
      go : (b : Bool) → safe g x ≡ b → (not (opened s x) && b && (zero_cell g x || eqb (first_label g x) 0)) ≡ (b && closed s x && (zero_cell g x || (b && eqb (first_label g x) 0)))
      go true e =
          ap (λ (c : Bool). c && true && (zero_cell g x || eqb (first_label g x) 0)) (tidy_unopened g s x f h (rw e tt))
          ∙ ap (λ (c : Bool). c && (zero_cell g x || eqb (first_label g x) 0)) (sym (and_true (closed s x)))
      go false e = ap (λ (c : Bool). c && (zero_cell g x || eqb (first_label g x) 0)) (sym (and_false (not (opened s x))))

  pub first_unit : Tidy g s → (xs : List ℕ) → ((x : ℕ) → T (has x xs) → x < size g) → first_fall st.cells xs ≡ head_of (keep (closed_unit_cell g s) xs)
  first_unit f [] h = refl
  first_unit f (x ∷ xs) h =
      ap (λ (b : Bool). elim b as (λ z. Option ℕ) [ true ↦ some x | false ↦ first_fall st.cells xs ]) (falls_unit f x (first_of x xs h))
      ∙ go (closed_unit_cell g s x) (first_unit f xs (rest_of x xs h))
    where
      go : (b : Bool) → first_fall st.cells xs ≡ head_of (keep (closed_unit_cell g s) xs)
          → ◌≡◌ {A = Option ℕ} (elim b [ true ↦ some x | false ↦ first_fall st.cells xs ]) (head_of (elim b [ true ↦ x ∷ keep (closed_unit_cell g s) xs | false ↦ keep (closed_unit_cell g s) xs ]))
      go true e = refl
      go false e = e
