-- cal_rzini: zinialg_rng's loop takes the drawn steps of a random round, and the rounds one after another give the least clicks. Assumes nothing.
use Prim.Native.Nat.{ℕ, ◌*◌, ◌+◌, ◌-◌, ◌<◌, ◌≤◌, min, suc, zero}
use native.Mathlib.Omega.{arith}
use native.Mathlib.Nat.{add-zero, mul_comm, zero-add}
use mathlib.Core.Path.{◌∙◌, ◌≡◌, ap, refl, sym}
use mathlib.Core.Bool.{Bool, cond, false, true}
use mathlib.Core.List.{List, [], ◌++◌}
use mathlib.Core.Option.{Option, none, some}
use lib.Dec.{ltb}
use lib.ListN.{length, length-append, length-replicate, replicate}
use Rattle.game.specs.Draws.{Drawn, draw, lent, old}
use Rattle.game.specs.Grid.{Grid, cells, mine, size}
use Rattle.game.specs.Lists.{Each, count}
use Rattle.game.specs.Openings.{three_bv}
use Rattle.game.specs.Position.{Position, Tidy, closed_safe, closed_units, untouched}
use Rattle.game.specs.Rounds.{Choice, Round, Searched, Step, after_step, before, choice, moves_of, random_from, random_round, random_search, search_from, step_of, width}
use Rattle.original.specs.Entries.{cal_rzini, prepared, rzini_loop}
use Rattle.original.specs.Equal.{answered}
use Rattle.original.specs.Play.{State}
use Rattle.original.specs.Rounds.{Applied, RngRound, Stepped, apply_zini_rng, begin, dry, nothing, rng_loop, stepped, usize_max, zinialg_rng}
use Rattle.game.proofs.Tidy.{untouched_tidy}
use Rattle.game.proofs.Draws.{lent_places}
use Rattle.game.proofs.Randoms.{by_draw, drawn_fits, draws_none, random_sound}
use Rattle.game.proofs.Rounds.{all_done}
use Rattle.game.proofs.Runs.{fit_takes, step_tidy}
use Rattle.game.proofs.Units.{units_at_most_cells, units_untouched}
use Rattle.original.proofs.Drawing.{Rolls, rolls}
use Rattle.original.proofs.CellsLeft.{cells_left}
use Rattle.original.proofs.Lowest.{begin_stands, enough_turns, mines_counted}
use Rattle.original.proofs.Positions.{Models}
use Rattle.original.proofs.Least.{least}

-- what zinialg_rng answers for a round that goes on after n clicks
abbrev told : ℕ → Option Round → Option RngRound
told n none = none
told n (some r) = some (record { clicks = n + length (moves_of r.steps); next = r.next })

told_before : (n : ℕ) (t : Step) (o : Option Round) → told (n + length t.moves) o ≡ told n (before t o)
told_before n t none = refl
told_before n t (some r) =
    ap (λ (k : ℕ). some (record { clicks = k; next = r.next })) (sum (length-append t.moves (moves_of r.steps)))
  where
    sum : length (t.moves ++ moves_of r.steps) ≡ length t.moves + length (moves_of r.steps) → n + length t.moves + length (moves_of r.steps) ≡ n + length (t.moves ++ moves_of r.steps)
    sum e = omega arith

module _ (g : Grid) (bytes : List ℕ) (few : size g ≤ 65025) (small : Each (λ b. b < 256) bytes) where
  -- zinialg_rng's loop
  abbrev loop : ℕ → State → ℕ → List ℕ → Option RngRound
  loop fuel st next maxpr = rng_loop fuel g.rows false (count (mine g) (cells g)) bytes st next maxpr

  -- ---- a round

  loop-stops : (fuel : ℕ) (s : Position) (n : ℕ) (st : State) (next : ℕ) (maxpr : List ℕ) → Models g s n st → closed_safe g s ≡ 0
      → loop fuel st next maxpr ≡ some (record { clicks = n; next = next })
  loop-stops zero s n st next maxpr w e = ap (λ (k : ℕ). some (record { clicks = k; next = next })) w.clicks
  loop-stops (suc fuel) s n st next maxpr w e = ap by (cells_left g s n st w 0 e) ∙ ap (λ (k : ℕ). some (record { clicks = k; next = next })) w.clicks
    where
      by : Bool → Option RngRound
      by b =
          elim b [
            | true ↦ elim (apply_zini_rng g.rows false bytes st next maxpr) [
              | stepped t ↦ loop fuel t.state t.next t.maxpr
              | nothing ↦ some (record { clicks = st.zini; next = next })
              | dry ↦ none
            ]
            | false ↦ some (record { clicks = st.zini; next = next })
          ]

  loop-ends : (fuel m : ℕ) (s : Position) (n : ℕ) (st : State) (next : ℕ) (maxpr : List ℕ) → Models g s n st → closed_safe g s ≡ 0
      → loop fuel st next maxpr ≡ told n (random_from m g (lent old bytes) s next)
  loop-ends fuel m s n st next maxpr w e =
      loop-stops fuel s n st next maxpr w e ∙ sym (ap (told n) (draws_none m g (lent old bytes) s next e) ∙ ap (λ (k : ℕ). some (record { clicks = k; next = next })) (add-zero n))

  loop-rolls : (fuel m : ℕ) (s : Position) (n : ℕ) (st : State) (next : ℕ) (maxpr : List ℕ) → Models g s n st → Tidy g s → length maxpr ≡ size g → closed_units g s ≤ fuel → closed_units g s ≤ m
      → loop fuel st next maxpr ≡ told n (random_from m g (lent old bytes) s next)
  loop-rolls zero m s n st next maxpr w f r h l = loop-ends zero m s n st next maxpr w (all_done g s f h)
  loop-rolls (suc fuel) zero s n st next maxpr w f r h l = loop-ends (suc fuel) zero s n st next maxpr w (all_done g s f l)
  loop-rolls (suc fuel) (suc m) s n st next maxpr w f r h l =
      go (closed_safe g s) refl
      (λ d z. loop-rolls fuel m (after_step g s (step_of g s c d.place)) (n + length (step_of g s c d.place).moves) z.state z.next z.maxpr)
    where
      c : Choice
      c = choice false g s

      by : Bool → Applied → Option RngRound
      by b a =
          elim b [
            | true ↦ elim a [
              | stepped t ↦ loop fuel t.state t.next t.maxpr
              | nothing ↦ some (record { clicks = st.zini; next = next })
              | dry ↦ none
            ]
            | false ↦ some (record { clicks = st.zini; next = next })
          ]

      Later : Type 0
      Later = (d : Drawn) (z : Stepped) → Models g (after_step g s (step_of g s c d.place)) (n + length (step_of g s c d.place).moves) z.state → Tidy g (after_step g s (step_of g s c d.place))
          → length z.maxpr ≡ size g → closed_units g (after_step g s (step_of g s c d.place)) ≤ fuel → closed_units g (after_step g s (step_of g s c d.place)) ≤ m
          → loop fuel z.state z.next z.maxpr ≡ told (n + length (step_of g s c d.place).moves) (random_from m g (lent old bytes) (after_step g s (step_of g s c d.place)) z.next)

      step : Later → 1 ≤ closed_safe g s → (o : Option Drawn) → draw old bytes next (width c) ≡ o → (a : Applied) → Rolls false g s n st w c o a → by true a ≡ told n (by_draw m g (lent old bytes) s o)
      step later u none e a p = ap (by true) p
      step later u (some d) e a p =
          let t = step_of g s c d.place in
          let q = drawn_fits g (lent old bytes) (lent_places old bytes) s next d f u e in
          let k = fit_takes g s t f q in
          ap (by true) p.is_stepped
          ∙ later d p.done p.stands (step_tidy g s t f q) p.room (omega arith) (omega arith)
          ∙ ap (λ (x : ℕ). told (n + length t.moves) (random_from m g (lent old bytes) (after_step g s t) x)) p.reads_on
          ∙ told_before n t (random_from m g (lent old bytes) (after_step g s t) d.next)

      go : (k : ℕ) → closed_safe g s ≡ k → Later
          → by (ltb (count (mine g) (cells g)) st.closed-cells) (apply_zini_rng g.rows false bytes st next maxpr)
          ≡ told n (elim k [ zero ↦ some (record { steps = []; next = next }) | suc k ↦ by_draw m g (lent old bytes) s (draw old bytes next (width c)) ])
      go zero e later = loop-stops (suc fuel) s n st next maxpr w e ∙ ap (λ (k : ℕ). some (record { clicks = k; next = next })) (sym (add-zero n))
      go (suc k) e later =
          ap (λ (b : Bool). by b (apply_zini_rng g.rows false bytes st next maxpr)) (cells_left g s n st w (suc k) e)
          ∙ step later (omega arith) (draw old bytes next (width c)) refl (apply_zini_rng g.rows false bytes st next maxpr)
          (rolls false g s n st w bytes next maxpr small few r f (omega arith))

  round_equal : (next : ℕ) → zinialg_rng (prepared g) g.columns g.rows false false bytes next ≡ told 0 (random_round g (lent old bytes) next)
  unfolding zinialg_rng random_round
  round_equal next =
      ap (λ (m : ℕ). rng_loop (g.columns * g.rows) g.rows false m bytes (begin (prepared g) g.columns g.rows) next (replicate (g.columns * g.rows) 0)) (mines_counted g)
      ∙ loop-rolls (g.columns * g.rows) (three_bv g) (untouched g) 0 (begin (prepared g) g.columns g.rows) next (replicate (g.columns * g.rows) 0) (begin_stands g) (untouched_tidy g)
      (length-replicate (g.columns * g.rows) 0 ∙ mul_comm g.columns g.rows) (enough_turns g) (omega (arith, units_untouched g))

  -- ---- rounds one after another

  -- what the loop goes on with after a round
  abbrev min_so_far : RngRound → RngRound → RngRound
  min_so_far m z = record { clicks = cond (ltb z.clicks m.clicks) z.clicks m.clicks; next = z.next }

  turns_equal : (k : ℕ) (r : Searched) → rzini_loop k g bytes (record { clicks = r.least; next = r.next }) ≡ answered (search_from k g (lent old bytes) r)
  turns_equal zero r = refl
  turns_equal (suc k) r = ap by (round_equal r.next) ∙ go (random_round g (lent old bytes) r.next) (turns_equal k)
    where
      by : Option RngRound → Option RngRound
      by o = elim o [ none ↦ none | some z ↦ rzini_loop k g bytes (min_so_far (record { clicks = r.least; next = r.next }) z) ]

      go : (o : Option Round) → ((q : Searched) → rzini_loop k g bytes (record { clicks = q.least; next = q.next }) ≡ answered (search_from k g (lent old bytes) q))
          → by (told 0 o) ≡ answered (elim o [
            | none ↦ none
            | some e ↦ search_from k g (lent old bytes) (record { least = min r.least (length (moves_of e.steps)); next = e.next; moves = moves_of e.steps })
          ])
      go none h = refl
      go (some e) h =
          ap (λ (c : ℕ). rzini_loop k g bytes (record { clicks = c; next = e.next }))
          (least (0 + length (moves_of e.steps)) r.least ∙ ap (min r.least) (zero-add (length (moves_of e.steps))))
          ∙ h (record { least = min r.least (length (moves_of e.steps)); next = e.next; moves = moves_of e.steps })

  -- the first round is below usize::MAX, so it is the least so far
  first_least : (m : ℕ) → m ≤ 65025 → cond (ltb (0 + m) usize_max) (0 + m) usize_max ≡ m
  first_least m h = least (0 + m) usize_max ∙ below
    where
      below : min usize_max (0 + m) ≡ m
      below = omega arith

  pub random_equal : (rounds : ℕ) → 1 ≤ rounds → cal_rzini g bytes rounds ≡ answered (random_search g (lent old bytes) rounds)
  unfolding cal_rzini random_search
  random_equal zero h = absurd (omega arith)
  random_equal (suc k) h = ap by (round_equal 0) ∙ go (random_round g (lent old bytes) 0) refl
    where
      by : Option RngRound → Option RngRound
      by o = elim o [ none ↦ none | some z ↦ rzini_loop k g bytes (min_so_far (record { clicks = usize_max; next = 0 }) z) ]

      go : (o : Option Round) → random_round g (lent old bytes) 0 ≡ o → by (told 0 o) ≡ answered (elim o [
        | none ↦ none
        | some e ↦ search_from (suc k - 1) g (lent old bytes) (record { least = length (moves_of e.steps); next = e.next; moves = moves_of e.steps })
      ])
      go none q = refl
      go (some e) q =
          ap (λ (c : ℕ). rzini_loop k g bytes (record { clicks = c; next = e.next }))
          (first_least (length (moves_of e.steps)) (omega (arith, (random_sound g (lent old bytes) (lent_places old bytes) 0 e q).at_most_units, units_at_most_cells g)))
          ∙ turns_equal k (record { least = length (moves_of e.steps); next = e.next; moves = moves_of e.steps })
          ∙ ap (λ (j : ℕ). answered (search_from j g (lent old bytes) (record { least = length (moves_of e.steps); next = e.next; moves = moves_of e.steps }))) one_less
        where
          one_less : k ≡ suc k - 1
          one_less = omega arith
