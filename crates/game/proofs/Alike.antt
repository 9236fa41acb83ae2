-- Two grids of the same sides with the same mines are alike: each definition looks at the values through `mine` only, so it goes along a path between the two `mine`s. Assumes nothing.
use Prim.Native.Nat.{ℕ, ◌+◌, ◌-◌, min, suc, zero}
use mathlib.Core.Path.{◌≡◌, refl}
use mathlib.Core.Bool.{Bool, ◌&&◌, ◌||◌, cond, false, not, true}
use mathlib.Core.List.{List, [], ◌++◌, ◌∷◌, map}
use mathlib.Core.Option.{Option, none, some}
use lib.Dec.{eqb, leb, ltb}
use lib.IntN.{◌-ℤ◌, negsuc, pos, ℤ}
use lib.ListN.{get_or, length, set, take}
use lib.Signed.{le_z}
use Rattle.game.specs.Area.{area_of, cleared_area, cleared_list, five_numbers, laid, list_of}
use Rattle.game.specs.Calls.{at_least_call, board, count_check, drawn_round, drawn_search, first_given, gives, grid_checks, handing, handing_listed, key_check, keyed_round_call, keyed_rounds_check, keyed_search_call, list_check, move, number_of, price_call, random_round_call, random_search_call, replay_call, replayed, rounds_check, shape_check, three_bv_call, unless, unless_listed, work_check}
use Rattle.game.specs.Draws.{Mode, lent}
use Rattle.game.specs.Grid.{Grid, cell_at, cells, mine, number, right_value, right_values, size, square, zero_cell}
use Rattle.game.specs.Keys.{Key, keyed}
use Rattle.game.specs.Lists.{again, bit, count, fold, has, keep, range, some_of}
use Rattle.game.specs.Moves.{Move, Replayed, after, allowed, blow, cell_of, chord, chordable, click_each, flag, left, legal, legal_read, play, play_read, read_move, replay_from, reveal, stopped, sweep, unflag, whole}
use Rattle.game.specs.Openings.{chained_to, gather, grow, holds, labels, openings, places, three_bv, unlabelled}
use Rattle.game.specs.Position.{Position, cell_unit, closed, closed_safe, cost, ending, flagged, gain, lost, opened, opening_closed, premium, unflagged, unopened, untouched}
use Rattle.game.specs.Rounds.{Choice, Round, Searched, Step, before, choice, chords, click_step, clicks, first_clicks, greedy_steps, highest, least_chosen, looked, moves_at, moves_of, opening_clicks, openings_first_steps, random_from, random_round, random_search, round_steps, search_from, step_of, steps_from, top_cells, unit_cells, width}
use Rattle.game.specs.Grid as grids

-- the grid with other values
abbrev pub revalued : Grid → List ℤ → Grid
revalued g vs = record { rows = g.rows; columns = g.columns; values = vs }

-- every call comes to the same on both grids
pub record SameCalls (g h : Grid) : Type 0 where
  pub three-bv : (ws : List ℤ) → three_bv_call g ws ≡ three_bv_call h ws
  pub at_least : (ws : List ℤ) (units : ℕ) → at_least_call g ws units ≡ at_least_call h ws units
  pub price : (openingsFirst : Bool) (ws : List ℤ) (ms : List ℕ) → price_call openingsFirst g ws ms ≡ price_call openingsFirst h ws ms
  pub random-round : (mode : Mode) (ws : List ℤ) (ms bytes : List ℕ) → random_round_call mode g ws ms bytes ≡ random_round_call mode h ws ms bytes
  pub random-search : (mode : Mode) (ws : List ℤ) (bytes : List ℕ) (n : ℕ) → random_search_call mode g ws bytes n ≡ random_search_call mode h ws bytes n
  pub keyed-round : (mode : Mode) (ws : List ℤ) (ms : List ℕ) (k : Key) → keyed_round_call mode g ws ms k ≡ keyed_round_call mode h ws ms k
  pub keyed-search : (mode : Mode) (ws : List ℤ) (k : Key) (n : ℕ) → keyed_search_call mode g ws k n ≡ keyed_search_call mode h ws k n
  pub replay : (ws : List ℤ) (ms : List ℕ) (n : ℕ) → replay_call g ws ms n ≡ replay_call h ws ms n

module _ (g : Grid) (vs : List ℤ) where
  -- the other grid
  abbrev h : Grid
  h = revalued g vs

  -- ---- what looks at the sides only

  squares : square g ≡ square h
  unfolding square
  squares = refl

  grows : grow g ≡ grow h
  unfolding grow
  grows = λ j p js. keep (λ k. p k && some_of (λ i. has i (squares j k)) js) (cells g)

  chains : chained_to g ≡ chained_to h
  unfolding chained_to
  chains = λ j p z. again (grows j p) (size g) (z ∷ [])

  holding : holds g ≡ holds h
  holding = λ j i o. some_of (λ k. has k o) (squares j i)

  places_at : (i k : ℕ) (os : List (List ℕ)) → places g i k os ≡ places h i k os
  places_at i k [] = refl
  places_at i k (o ∷ os) = λ j. elim (holding j i o) [ true ↦ k ∷ places_at i (suc k) os j | false ↦ places_at i (suc k) os j ]

  placed : places g ≡ places h
  placed = λ j i k os. places_at i k os j

  losses : lost g ≡ lost h
  unfolding lost
  losses = refl

  -- ---- what looks at the mines too

  module _ (same : (i : ℕ) → mine g i ≡ mine (revalued g vs) i) where
    mines : mine g ≡ mine h
    mines = λ j i. same i j

    numbers : number g ≡ number h
    unfolding number
    numbers = λ j i. count (mines j) (squares j i)

    pub number_same : (i : ℕ) → number g i ≡ number (revalued g vs) i
    number_same i = λ j. numbers j i

    zeros : zero_cell g ≡ zero_cell h
    zeros = λ j i. eqb (numbers j i) 0

    gathers : gather g ≡ gather h
    gathers = λ j os i. elim (zeros j i && not (some_of (has i) os)) [ true ↦ os ++ (chains j (zeros j) i ∷ []) | false ↦ os ]

    opens : openings g ≡ openings h
    unfolding openings
    opens = λ j. fold (gathers j) [] (cells g)

    labelled : labels g ≡ labels h
    unfolding labels
    labelled = λ j i. placed j i 1 (opens j)

    unlabelleds : unlabelled g ≡ unlabelled h
    unlabelleds = λ j i. not (mines j i) && not (some_of (holding j i) (opens j))

    pub three_bv_same : three_bv g ≡ three_bv (revalued g vs)
    unfolding three_bv
    three_bv_same = λ j. length (opens j) + count (unlabelleds j) (cells g)

    -- the canonical grid

    pub right_same : right_values g ≡ right_values (revalued g vs)
    unfolding right_values right_value
    right_same = λ j. map (λ p. cond (mines j (cell_at g p)) (negsuc 0) (pos (numbers j (cell_at g p)))) (range 0 (size g))

    -- positions

    units : cell_unit g ≡ cell_unit h
    units = λ j s i. unlabelleds j i && unopened s i

    safes : closed_safe g ≡ closed_safe h
    unfolding closed_safe
    safes = λ j s. count (λ i. not (mines j i) && unopened s i) (cells g)

    bare : unflagged g ≡ unflagged h
    bare = λ j s i. mines j i && not (flagged s i)

    gains : gain g ≡ gain h
    unfolding gain
    gains = λ j s i. count (λ o. holding j i o && opening_closed s o) (opens j) + count (units j s) (squares j i)

    costs : cost g ≡ cost h
    unfolding cost
    costs = λ j s i. count (bare j s) (squares j i) + 1 + bit (unopened s i)

    premiums : premium g ≡ premium h
    unfolding premium
    premiums = λ j s i. pos (gains j s i) -ℤ pos (costs j s i)

    endings : ending g ≡ ending h
    unfolding ending
    endings = λ j s. cond (losses j s) 2 (bit (eqb (safes j s) 0 && not (losses j s)))

    -- moves

    chordables : chordable g ≡ chordable h
    unfolding chordable
    chordables = λ j s i. opened s i && not (zeros j i) && eqb (count (flagged s) (squares j i)) (numbers j i)

    allowed_at : (s : Position) (m : Move) → allowed g s m ≡ allowed h s m
    allowed_at s (left i) = refl
    allowed_at s (flag i) = refl
    allowed_at s (chord i) = λ j. chordables j s i
    allowed_at s (unflag i) = refl

    legals : legal g ≡ legal h
    unfolding legal
    legals = λ j s m. eqb (endings j s) 0 && ltb (cell_of m) (size g) && allowed_at s m j

    sweeps : sweep g ≡ sweep h
    unfolding sweep
    sweeps = λ j s z. map (λ k. cond (closed s k && holding j k (chains j (λ l. zeros j l && closed s l) z)) 1 (get_or s k 0)) (cells g)

    reveals : reveal g ≡ reveal h
    unfolding reveal
    reveals = λ j s i. elim (not (mines j i) && closed s i) [
      | true ↦ elim (zeros j i) [ true ↦ sweeps j s i | false ↦ set s i 1 ]
      | false ↦ s
    ]

    blows : blow g ≡ blow h
    unfolding blow
    blows = λ j s i. elim (mines j i && closed s i) [ true ↦ set s i 3 | false ↦ s ]

    clicked : click_each g ≡ click_each h
    clicked = λ j s js. fold (blows j) (fold (reveals j) s js) js

    play_at : (s : Position) (m : Move) → play g s m ≡ play h s m
    unfolding play
    play_at s (left i) = λ j. clicked j s (i ∷ [])
    play_at s (flag i) = refl
    play_at s (chord i) = λ j. clicked j s (squares j i)
    play_at s (unflag i) = refl

    plays : play g ≡ play h
    plays = λ j s m. play_at s m j

    after_list : (ms : List Move) → ◌≡◌ {A = Position → Position} (λ s. after g s ms) (λ s. after h s ms)
    after_list [] = refl
    after_list (m ∷ ms) = λ j s. after_list ms j (plays j s m)

    afters : after g ≡ after h
    afters = λ j s ms. after_list ms j s

    legal-read : (s : Position) (o : Option Move) → legal_read g s o ≡ legal_read h s o
    legal-read s none = refl
    legal-read s (some m) = λ j. legals j s m

    play-read : (s : Position) (o : Option Move) → play_read g s o ≡ play_read h s o
    play-read s none = refl
    play-read s (some m) = λ j. plays j s m

    replay_list : (ws : List ℕ) → ◌≡◌ {A = ℕ → Position → Replayed} (λ k s. replay_from g k s ws) (λ k s. replay_from h k s ws)
    replay_list [] = refl
    replay_list (w ∷ ws) = λ j k s. elim (legal-read s (read_move w) j) [
      | true ↦ replay_list ws j (suc k) (play-read s (read_move w) j)
      | false ↦ stopped k s
    ]

    -- rounds

    looks : (b : Bool) → looked b g ≡ looked b h
    looks b = λ j s. keep (λ i. not (mines j i) && (opened s i || not b)) (cells g)

    tops : (b : Bool) → top_cells b g ≡ top_cells b h
    unfolding top_cells
    tops b = λ j s.
        let m = highest (map (premiums j s) (looks b j s)) in
        keep (λ i. le_z least_chosen m && grids.same (premiums j s i) m) (looks b j s)

    unit-cells : unit_cells g ≡ unit_cells h
    unfolding unit_cells
    unit-cells = λ j s. keep (λ i. not (mines j i) && closed s i && (zeros j i || unlabelleds j i)) (cells g)

    moves-at : moves_at g ≡ moves_at h
    unfolding moves_at
    moves-at = λ j s i. cond (closed s i) (left i ∷ []) [] ++ map flag (keep (bare j s) (squares j i)) ++ (chord i ∷ [])

    choices : (b : Bool) → choice b g ≡ choice b h
    unfolding choice
    choices b = λ j s. elim (tops b j s) [ [] ↦ clicks (unit-cells j s) | x ∷ xs ↦ chords (x ∷ xs) ]

    step_at : (s : Position) (c : Choice) (k : ℕ) → step_of g s c k ≡ step_of h s c k
    step_at s (chords is) k = λ j. record { chosen = some (get_or is k 0); moves = moves-at j s (get_or is k 0) }
    step_at s (clicks is) k = refl

    -- the step that takes a place of a choice
    taken : (b : Bool) (k : ℕ) → ◌≡◌ {A = Position → Step} (λ s. step_of g s (choice b g s) k) (λ s. step_of h s (choice b h s) k)
    taken b k = λ j s. step_at s (choices b j s) k j

    steps : (n : ℕ) (b : Bool) → steps_from n b g ≡ steps_from n b h
    steps zero b = refl
    steps (suc n) b = λ j s. elim (safes j s) [
      | zero ↦ []
      | suc k ↦ let t = taken b 0 j s in t ∷ steps n b j (afters j s t.moves)
    ]

    clicks_list : (is : List ℕ) → ◌≡◌ {A = Position → List Step} (λ s. opening_clicks g s is) (λ s. opening_clicks h s is)
    clicks_list [] = refl
    clicks_list (i ∷ is) = λ j s. elim (zeros j i && closed s i) [
      | true ↦ click_step i ∷ clicks_list is j (afters j s (left i ∷ []))
      | false ↦ clicks_list is j s
    ]

    first_same : first_clicks g ≡ first_clicks h
    unfolding first_clicks
    first_same = λ j. clicks_list (cells g) j (untouched g)

    pub round_same : (openingsFirst : Bool) → round_steps openingsFirst g ≡ round_steps openingsFirst (revalued g vs)
    unfolding greedy_steps openings_first_steps
    round_same false = λ j. steps (three_bv_same j) false j (untouched g)
    round_same true = λ j. first_same j ++ steps (three_bv_same j) true j (afters j (untouched g) (moves_of (first_same j)))

    random-from : (n : ℕ) → random_from n g ≡ random_from n h
    random-from zero = refl
    random-from (suc n) = λ j source s at. elim (safes j s) [
      | zero ↦ some (record { steps = []; next = at })
      | suc k ↦ elim (source at (width (choices false j s))) [
        | none ↦ none
        | some d ↦ let t = taken false d.place j s in before t (random-from n j source (afters j s t.moves) d.next)
      ]
    ]

    random_rounds : random_round g ≡ random_round h
    unfolding random_round
    random_rounds = λ j source at. random-from (three_bv_same j) j source (untouched g) at

    search-from : (n : ℕ) → search_from n g ≡ search_from n h
    search-from zero = refl
    search-from (suc n) = λ j source r. elim (random_rounds j source r.next) [
      | none ↦ none
      | some e ↦ let ms = moves_of e.steps in
          search-from n j source (record { least = min r.least (length ms); next = e.next; moves = ms })
    ]

    searches : random_search g ≡ random_search h
    unfolding random_search
    searches = λ j source n. elim (random_rounds j source 0) [
      | none ↦ none
      | some e ↦ let ms = moves_of e.steps in
          search-from (n - 1) j source (record { least = length ms; next = e.next; moves = ms })
    ]

    -- work areas

    fives : five_numbers g ≡ five_numbers h
    unfolding five_numbers
    fives = λ j s i. pos (get_or (labelled j i) 0 0) ∷ pos (get_or (labelled j i) 1 0) ∷ cond (mines j i) (pos 0) (premiums j s i) ∷ pos (get_or s i 0) ∷ pos 0 ∷ []

    areas : area_of g ≡ area_of h
    unfolding area_of
    areas = λ j s old. laid (fives j s) (size g) old

    -- the area after moves from the untouched grid on
    left_area : (ms : List Move) (ws : List ℤ) → area_of g (after g (untouched g) ms) ws ≡ area_of h (after h (untouched g) ms) ws
    left_area ms ws = λ j. areas j (afters j (untouched g) ms) ws

    drawn-round : (o : Option Round) (ws : List ℤ) (ms : List ℕ) → drawn_round g o ws ms ≡ drawn_round h o ws ms
    unfolding cleared_area cleared_list
    drawn-round none ws ms = refl
    drawn-round (some r) ws ms = λ j. record {
      answer = gives (length (moves_of r.steps) ∷ r.next ∷ []);
      work = left_area (moves_of r.steps) ws j;
      list = list_of (moves_of r.steps) ms;
    }

    drawn-search : (o : Option Searched) (ws : List ℤ) → drawn_search g o ws ≡ drawn_search h o ws
    unfolding cleared_area
    drawn-search none ws = refl
    drawn-search (some r) ws = λ j. record { answer = gives (r.least ∷ r.next ∷ []); work = left_area r.moves ws j }

    replayed_at : (n : ℕ) (r : Replayed) (ws : List ℤ) → replayed g n r ws ≡ replayed h n r ws
    replayed_at n (whole s) ws = λ j. record { answer = gives (n ∷ safes j s ∷ endings j s ∷ []); work = areas j s ws }
    replayed_at n (stopped k s) ws = λ j. record { answer = record { number = number_of move; values = k ∷ [] }; work = areas j s ws }

    -- calls

    module _ (long : length g.values ≡ length vs) where
      checks : grid_checks g ≡ grid_checks h
      checks = λ j ws. shape_check g ∷ record { given = not (eqb (long j) (size g)); refusal = board } ∷ work_check g ws ∷ []

      three-bv-call : (ws : List ℤ) → three_bv_call g ws ≡ three_bv_call h ws
      unfolding three_bv_call
      three-bv-call ws = λ j. unless (first_given (checks j ws)) ws
          (record { answer = gives (three_bv_same j ∷ []); work = areas j (untouched g) ws })

      at-least-call : (ws : List ℤ) (units : ℕ) → at_least_call g ws units ≡ at_least_call h ws units
      unfolding at_least_call cleared_area
      at-least-call ws units = λ j. unless (first_given (checks j ws)) ws
          (record { answer = gives (bit (leb units (three_bv_same j)) ∷ []); work = cleared_area g ws })

      price-call : (b : Bool) (ws : List ℤ) (ms : List ℕ) → price_call b g ws ms ≡ price_call b h ws ms
      unfolding price_call
      price-call b ws ms = λ j.
          let played = moves_of (round_same b j) in
          unless_listed (first_given (checks j ws ++ list_check g ms ∷ [])) ws ms
          (record { answer = gives (length played ∷ []); work = left_area played ws j; list = list_of played ms })

      random-round-call : (mode : Mode) (ws : List ℤ) (ms bytes : List ℕ) → random_round_call mode g ws ms bytes ≡ random_round_call mode h ws ms bytes
      unfolding random_round_call
      random-round-call mode ws ms bytes = λ j.
          unless_listed (first_given (checks j ws ++ list_check g ms ∷ [])) ws ms (drawn-round (random_rounds j (lent mode bytes) 0) ws ms j)

      random-search-call : (mode : Mode) (ws : List ℤ) (bytes : List ℕ) (n : ℕ) → random_search_call mode g ws bytes n ≡ random_search_call mode h ws bytes n
      unfolding random_search_call
      random-search-call mode ws bytes n = λ j.
          unless (first_given (checks j ws ++ rounds_check n ∷ [])) ws (drawn-search (searches j (lent mode bytes) n) ws j)

      keyed-round-call : (mode : Mode) (ws : List ℤ) (ms : List ℕ) (k : Key) → keyed_round_call mode g ws ms k ≡ keyed_round_call mode h ws ms k
      unfolding keyed_round_call
      keyed-round-call mode ws ms k = λ j.
          unless_listed (first_given (checks j ws ++ list_check g ms ∷ key_check k ∷ [])) ws ms (handing_listed k (drawn-round (random_rounds j (keyed mode k) 0) ws ms j))

      keyed-search-call : (mode : Mode) (ws : List ℤ) (k : Key) (n : ℕ) → keyed_search_call mode g ws k n ≡ keyed_search_call mode h ws k n
      unfolding keyed_search_call
      keyed-search-call mode ws k n = λ j.
          unless (first_given (checks j ws ++ keyed_rounds_check n ∷ key_check k ∷ [])) ws (handing k (drawn-search (searches j (keyed mode k) n) ws j))

      replay-call : (ws : List ℤ) (ms : List ℕ) (n : ℕ) → replay_call g ws ms n ≡ replay_call h ws ms n
      unfolding replay_call
      replay-call ws ms n = λ j.
          unless (first_given (checks j ws ++ count_check n ms ∷ [])) ws (replayed_at n (replay_list (take n ms) j 0 (untouched g)) ws j)

    pub calls_same : length g.values ≡ length vs → SameCalls g (revalued g vs)
    calls_same long =
        record {
          three-bv = three-bv-call long;
          at_least = at-least-call long;
          price = price-call long;
          random-round = random-round-call long;
          random-search = random-search-call long;
          keyed-round = keyed-round-call long;
          keyed-search = keyed-search-call long;
          replay = replay-call long;
        }
