-- apply_zini_rng keeps the cells to draw among, in index order, at the front of maxpr, and takes the one that the draw takes. Assumes nothing.
use Prim.Native.Nat.{ℕ, ◌+◌, ◌<◌, ◌≤◌}
use native.Mathlib.Omega.{arith}
use mathlib.Core.Path.{◌∙◌, ◌≡◌, ap, refl, subst, sym}
use mathlib.Core.Bool.{Bool, ◌&&◌, false, true}
use mathlib.Core.List.{List, [], ◌∷◌, map}
use mathlib.Core.Option.{Option, none, some}
use lib.Dec.{T, ltb, lt→ltb}
use lib.IntN.{pos}
use lib.Signed.{le_z}
use lib.ListN.{get_or, length}
use Rattle.game.specs.Draws.{Drawn, draw, old}
use Rattle.game.specs.Grid.{Grid, cells, same, size}
use Rattle.game.specs.Lists.{Each, fold, has, range}
use Rattle.game.specs.Position.{Position, Tidy, closed_safe, premium}
use Rattle.game.specs.Rounds.{Choice, after_step, choice, chords, clicks, closed_unit_cell, highest, least_chosen, looked, step_of, top_cells, unit_cells, width}
use Rattle.original.specs.Play.{State, click}
use Rattle.original.specs.Rounds.{Applied, Falls, Stepped, Ties, apply_zini_rng, dry, fallen, nothing, play_at, rand_range, stepped, tied}
use Rattle.game.proofs.Choices.{looked→, never_stuck, top→, unit→}
use Rattle.game.proofs.Counts.{count_le, length_keep}
use Rattle.game.proofs.Members.{get_d_has, has_head, has_keep, has_length, keep_has}
use Rattle.game.proofs.Draws.{lent_places}
use Rattle.game.proofs.Squares.{length_cells}
use Rattle.game.proofs.Truth.{T→true, and_both, and_left, and_right}
use Rattle.original.proofs.Choosing.{looks, scanned_tops}
use Rattle.original.proofs.Positions.{Models}
use Rattle.original.proofs.Rolls.{rand_draw}
use Rattle.original.proofs.Scans.{le_z_same, reaches}
use Rattle.original.proofs.Turns.{click_stands, turn_stands}
use Rattle.original.proofs.Gathered.{all_fallen, all_ties, no_ties}
use Rattle.original.proofs.Gathering.{Fallen, Front, Tied, front_at}

module _ (human : Bool) (g : Grid) (s : Position) (n : ℕ) (st : State) (w : Models g s n st) where
  -- ---- apply_zini_rng

  -- what a step by a draw comes to: dry without bytes, or the step at the drawn place
  pub record RngRound_to (c : Choice) (d : Drawn) (a : Applied) : Type 0 where
    pub done : Stepped
    pub is_stepped : a ≡ stepped done
    pub stands : Models g (after_step g s (step_of g s c d.place)) (n + length (step_of g s c d.place).moves) done.state
    pub reads_on : done.next ≡ d.next
    pub room : length done.maxpr ≡ size g

  abbrev pub Rolls : Choice → Option Drawn → Applied → Type 0
  Rolls c none a = a ≡ dry
  Rolls c (some d) a = RngRound_to c d a

  -- a draw among the front of a run
  taken : (ℕ → State) → List ℕ → Option Drawn → Applied
  taken act run o =
      elim o [
        | none ↦ dry
        | some d ↦ stepped (record { state = act (get_or run d.place 0); next = d.next; maxpr = run })
      ]

  taken_rolls : (c : Choice) (act : ℕ → State) (ls : List ℕ) (len : ℕ) (run bytes : List ℕ) (next : ℕ) → Each (λ b. b < 256) bytes → length ls ≡ width c → width c ≤ 65025 → 1 ≤ width c
      → Front (size g) ls len run → ((k : ℕ) → k < length ls → Models g (after_step g s (step_of g s c k)) (n + length (step_of g s c k).moves) (act (get_or ls k 0)))
      → Rolls c (draw old bytes next (width c)) (taken act run (rand_range bytes next len))
  unfolding taken
  taken_rolls c act ls len run bytes next q e few l f h =
      subst (λ (o : Option Drawn). Rolls c (draw old bytes next (width c)) (taken act run o)) (sym (ap (rand_range bytes next) (f.counted ∙ e) ∙ rand_draw bytes next (width c) q few))
      (go (draw old bytes next (width c)) (λ d. (lent_places old bytes).inside next (width c) d l))
    where
      go : (o : Option Drawn) → ((d : Drawn) → o ≡ some d → d.place < width c) → Rolls c o (taken act run o)
      go none r = refl
      go (some d) r =
          record {
            done = record { state = act (get_or run d.place 0); next = d.next; maxpr = run };
            is_stepped = refl;
            stands = subst (λ (i : ℕ). Models g (after_step g s (step_of g s c d.place)) (n + length (step_of g s c d.place).moves) (act i))
                (sym (front_at (size g) ls len run d.place (omega (arith, r d refl)) f)) (h d.place (omega (arith, r d refl)));
            reads_on = refl;
            room = f.room;
          }

  -- what is chosen among
  abbrev picked : List ℕ → Choice
  picked ts = elim ts [ [] ↦ clicks (unit_cells g s) | x ∷ xs ↦ chords (x ∷ xs) ]

  few_tops : length (top_cells human g s) ≤ size g
  unfolding top_cells
  few_tops =
      let m = highest (map (premium g s) (looked human g s)) in
      omega (
        arith,
        length_keep (λ i. le_z least_chosen m && same (premium g s i) m) (looked human g s),
        count_le (λ i. le_z least_chosen m && same (premium g s i) m) (looked human g s),
        length_keep (looks human g s) (cells g),
        count_le (looks human g s) (cells g),
        length_cells g,
      )

  few_units : length (unit_cells g s) ≤ size g
  unfolding unit_cells
  few_units = omega (arith, length_keep (closed_unit_cell g s) (cells g), count_le (closed_unit_cell g s) (cells g), length_cells g)

  -- while a safe cell is closed it draws as the definition does
  pub rolls : (bytes : List ℕ) (next : ℕ) (maxpr : List ℕ) → Each (λ b. b < 256) bytes → size g ≤ 65025 → length maxpr ≡ size g → Tidy g s → 1 ≤ closed_safe g s
      → Rolls (choice human g s) (draw old bytes next (width (choice human g s))) (apply_zini_rng g.rows human bytes st next maxpr)
  unfolding apply_zini_rng choice unit_cells taken Fallen
  rolls bytes next maxpr q few e f c =
      subst (λ (l : ℕ). Rolls (choice human g s) (draw old bytes next (width (choice human g s))) (whole (fold (tied human st.cells) (no_ties human g s n st w maxpr) (range 0 l)) l)) (sym w.board.long)
      (go (top_cells human g s) refl (le_z (pos 0) b.maxp) refl (never_stuck human g s f c))
    where
      whole : Ties → ℕ → Applied
      whole b l =
          elim (le_z (pos 0) b.maxp) [
            | true ↦ taken (play_at g.rows st) b.maxpr (rand_range bytes next b.curi_len)
            | false ↦ let u = fold (fallen st.cells) (record { fb_count = 0; maxpr = b.maxpr }) (range 0 l) in
                elim (ltb 0 u.fb_count) [
                  | true ↦ taken (click g.rows st) u.maxpr (rand_range bytes next u.fb_count)
                  | false ↦ nothing
                ]
          ]

      b : Ties
      b = fold (tied human st.cells) (no_ties human g s n st w maxpr) (cells g)

      ties : Tied human g s n st w (cells g) b
      ties = all_ties human g s n st w maxpr e

      are_tops : ties.list ≡ top_cells human g s
      are_tops = scanned_tops human g s b.maxp ties.list ties.scan

      u : Falls
      u = fold (fallen st.cells) (record { fb_count = 0; maxpr = b.maxpr }) (cells g)

      by : Bool → Bool → Applied
      by p r =
          elim p [
            | true ↦ taken (play_at g.rows st) b.maxpr (rand_range bytes next b.curi_len)
            | false ↦ elim r [ true ↦ taken (click g.rows st) u.maxpr (rand_range bytes next u.fb_count) | false ↦ nothing ]
          ]

      falls : Front (size g) (unit_cells g s) u.fb_count u.maxpr
      falls = all_fallen human g s n st w f b.maxpr ties.kept_in.room

      -- a place of the highest premium, if that is 0 or more
      some_top : le_z (pos 0) b.maxp ≡ true → 1 ≤ length (top_cells human g s)
      some_top ep =
          let z : T (le_z (pos 0) b.maxp) = rw ep tt in
          let y = ties.scan.attained z in
          has_length y.0 (top_cells human g s) (subst (λ (l : List ℕ). T (has y.0 l)) (sym ties.scan.tops ∙ are_tops)
          (has_keep (reaches (looks human g s) (premium g s) b.maxp) y.0 (cells g) y.1
          (and_both (looks human g s y.0) (le_z (pos 0) b.maxp && same (premium g s y.0) b.maxp) y.2
          (and_both (le_z (pos 0) b.maxp) (same (premium g s y.0) b.maxp) z
          (and_both (le_z (premium g s y.0) b.maxp) (le_z b.maxp (premium g s y.0)) (le_z_same (premium g s y.0) b.maxp y.3) (le_z_same b.maxp (premium g s y.0) (sym y.3)))))))

      -- and none without
      no_top : (x : ℕ) → T (has x (top_cells human g s)) → le_z (pos 0) b.maxp ≡ true
      no_top x t =
          let a = keep_has (reaches (looks human g s) (premium g s) b.maxp) x (cells g) (subst (λ (l : List ℕ). T (has x l)) (sym (sym ties.scan.tops ∙ are_tops)) t) in
          T→true (le_z (pos 0) b.maxp) (and_left (le_z (pos 0) b.maxp) (same (premium g s x) b.maxp)
          (and_right (looks human g s x) (le_z (pos 0) b.maxp && same (premium g s x) b.maxp) a.1))

      go : (ts : List ℕ) → top_cells human g s ≡ ts → (p : Bool) → le_z (pos 0) b.maxp ≡ p → 1 ≤ width (picked ts)
          → Rolls (picked ts) (draw old bytes next (width (picked ts))) (by p (ltb 0 u.fb_count))
      go [] et true ep l = absurd (omega (arith, some_top ep, ap length et))
      go [] et false ep l =
          subst (λ (r : Bool). Rolls (picked []) (draw old bytes next (length (unit_cells g s))) (by false r)) (sym (T→true (ltb 0 u.fb_count) (lt→ltb 0 u.fb_count (omega (arith, falls.counted)))))
          (taken_rolls (picked []) (click g.rows st) (unit_cells g s) u.fb_count u.maxpr bytes next q refl (omega (arith, few_units)) l falls
          (λ k h. let v = unit→ g s (get_or (unit_cells g s) k 0) (get_d_has (unit_cells g s) k h) in
          click_stands g s n st (get_or (unit_cells g s) k 0) v.inside v.is_safe f w))
      go (x ∷ xs) et true ep l =
          taken_rolls (picked (x ∷ xs)) (play_at g.rows st) (x ∷ xs) b.curi_len b.maxpr bytes next q refl (omega (arith, few_tops, ap length et)) l
          (subst (λ (ls : List ℕ). Front (size g) ls b.curi_len b.maxpr) (are_tops ∙ et) ties.kept_in)
          (λ k h. let v = looked→ human g s (get_or (x ∷ xs) k 0) (top→ human g s (get_or (x ∷ xs) k 0) (subst (λ (ls : List ℕ). T (has (get_or (x ∷ xs) k 0) ls)) (sym et) (get_d_has (x ∷ xs) k h))).is_looked in
          turn_stands g s n st (get_or (x ∷ xs) k 0) v.0 v.1 f w)
      go (x ∷ xs) et false ep l = absurd (subst T (sym (no_top x (subst (λ (ls : List ℕ). T (has x ls)) (sym et) (has_head x x xs refl))) ∙ ep) tt)
