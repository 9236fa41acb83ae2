-- Demand 2: the three entries of zini.rs give the clicks of the defined rounds, and consume the bytes of their draws; so do the calls. Assumes nothing.
use Prim.Native.Nat.{ℕ, ◌<◌, ◌≤◌}
use native.Mathlib.Omega.{arith}
use native.Mathlib.Nat.{mul-le-mul_right}
use mathlib.Core.Path.{◌∙◌, ◌≡◌, ap, refl, sym}
use mathlib.Core.List.{List, [], ◌++◌, ◌∷◌}
use mathlib.Core.Option.{Option, none, some}
use borrow.Author.Tests.{eqb-false}
use lib.IntN.{ℤ}
use lib.ListN.{get_or, length}
use Rattle.game.specs.Calls.{Answer, Check, Outcome, Refusal, board_check, drawn_search, draws, first_given, gives, grid_checks, hands_key, keyed_search_call, list_check, played_round, price_call, random_search_call, rounds_check, shape_check, side_out, unless, unless_listed, work_check}
use Rattle.game.specs.Draws.{lent, old}
use Rattle.game.specs.Grid.{Grid, size}
use Rattle.game.specs.Keys.{Key, key_bytes}
use Rattle.game.specs.Lists.{Each}
use Rattle.game.proofs.Checks.{each_fails, numbered, side_in}
use Rattle.game.proofs.KeyCalls.{keyed_search_is_lent}
use Rattle.game.proofs.KeyDraws.{key_small}
use Rattle.game.proofs.Truth.{or_no}
use Rattle.game.specs.Moves.{Move}
use Rattle.game.specs.Rounds.{Searched, greedy_steps, moves_of, openings_first_steps, random_search}
use Rattle.original.specs.Rounds.{RngRound}
use Rattle.original.specs.Entries.{cal_hzini, cal_rzini, cal_zini}
use Rattle.original.specs.Equal.{CallsEqual, Equal, Within, answer_unless, answered, search_answer}
use Rattle.original.proofs.Lowest.{greedy_equal, openings_first_equal}
use Rattle.original.proofs.Randoms.{random_equal}

-- a grid within the limits has at most 65025 cells
few_cells : (g : Grid) → Within g → size g ≤ 65025
few_cells g w = omega (arith, mul-le-mul_right g.columns w.few_rows, w.few_columns)

pub equal : (g : Grid) → Within g → Equal g
equal g w =
    record {
      greedy = greedy_equal g;
      openings-first = openings_first_equal g;
      random-search = λ bytes rounds small some_rounds. random_equal g bytes (few_cells g w) small rounds some_rounds;
    }

-- ---- the calls

-- where the checks refuse nothing, the grid is within the limits
checked_within : (g : Grid) (cs : List Check) → first_given (shape_check g ∷ cs) ≡ none → Within g
checked_within g cs e =
    let h = or_no (side_out g.rows) (side_out g.columns) (each_fails (shape_check g ∷ cs) e).0 in
    let r = side_in g.rows h.0 in
    let c = side_in g.columns h.1 in
    record { some_rows = r.0; few_rows = r.1; some_columns = c.0; few_columns = c.1 }

-- a call with a list answers the clicks of its round, unless it is refused
round_answer : (g : Grid) (ws : List ℤ) (ms : List ℕ) (played : List Move) (clicks : ℕ) → (Within g → clicks ≡ length played)
    → (unless_listed (first_given (grid_checks g ws ++ list_check g ms ∷ [])) ws ms (played_round g played ws ms)).answer
    ≡ answer_unless (first_given (grid_checks g ws ++ list_check g ms ∷ [])) (gives (clicks ∷ []))
round_answer g ws ms played clicks q =
    go (first_given (grid_checks g ws ++ list_check g ms ∷ [])) (λ e. checked_within g (board_check g ∷ work_check g ws ∷ list_check g ms ∷ []) e)
  where
    go : (o : Option Refusal) → (o ≡ none → Within g) → (unless_listed o ws ms (played_round g played ws ms)).answer ≡ answer_unless o (gives (clicks ∷ []))
    go (some f) w = refl
    go none w = ap (λ (n : ℕ). gives (n ∷ [])) (sym (q (w refl)))

-- what a search answers for what it came to
searched_answer : (g : Grid) (ws : List ℤ) (o : Option Searched) → (drawn_search g o ws).answer ≡ search_answer (answered o)
searched_answer g ws none = refl
searched_answer g ws (some r) = refl

search-answer : (g : Grid) (ws : List ℤ) (bytes : List ℕ) (n : ℕ) → Each (λ b. b < 256) bytes
    → (unless (first_given (grid_checks g ws ++ rounds_check n ∷ [])) ws (drawn_search g (random_search g (lent old bytes) n) ws)).answer
    ≡ answer_unless (first_given (grid_checks g ws ++ rounds_check n ∷ [])) (search_answer (cal_rzini g bytes n))
search-answer g ws bytes n small =
    go (first_given (grid_checks g ws ++ rounds_check n ∷ [])) (λ e. (checked_within g (board_check g ∷ work_check g ws ∷ rounds_check n ∷ []) e, some_rounds e))
  where
    some_rounds : first_given (grid_checks g ws ++ rounds_check n ∷ []) ≡ none → 1 ≤ n
    some_rounds e = let f = eqb-false n 0 (each_fails (grid_checks g ws ++ rounds_check n ∷ []) e).1.1.1.0 in omega arith

    go : (o : Option Refusal) → (o ≡ none → Within g × (1 ≤ n)) → (unless o ws (drawn_search g (random_search g (lent old bytes) n) ws)).answer ≡ answer_unless o (search_answer (cal_rzini g bytes n))
    go (some f) w = refl
    go none w =
        searched_answer g ws (random_search g (lent old bytes) n) ∙ ap search_answer (sym ((equal g (w refl).0).random-search bytes n small (w refl).1))

-- a key handed back beside what the Rust gives: where that is clicks and bytes used, the Rust gave these
given-by : (k : Key) (o : Option Refusal) (x : Option RngRound) (clicks used : ℕ) (vs : List ℕ) → hands_key k (answer_unless o (search_answer x)) ≡ gives (clicks ∷ used ∷ vs)
    → x ≡ some (record { clicks = clicks; next = used })
given-by k (some f) x clicks used vs e = absurd (omega (arith, numbered f, ap (λ (a : Answer). a.number) e))
given-by k none none clicks used vs e = absurd (omega (arith, numbered draws, ap (λ (a : Answer). a.number) e))
given-by k none (some r) clicks used vs e = λ j. some (record { clicks = get_or (e j).values 0 0; next = get_or (e j).values 1 0 })

-- a keyed search is one by the key's bytes, and so is answered as the Rust gives it on these
keyed_answer : (g : Grid) (ws : List ℤ) (k : Key) (n clicks used : ℕ) (vs : List ℕ) → (keyed_search_call old g ws k n).answer ≡ gives (clicks ∷ used ∷ vs)
    → cal_rzini g (key_bytes k used) n ≡ some (record { clicks = clicks; next = used })
unfolding random_search_call
keyed_answer g ws k n clicks used vs e =
    given-by k (first_given (grid_checks g ws ++ rounds_check n ∷ [])) (cal_rzini g (key_bytes k used) n) clicks used vs
    (ap (hands_key k) (sym (search-answer g ws (key_bytes k used) n (key_small k used))) ∙ sym lent_answer ∙ e)
  where
    lent_answer : (keyed_search_call old g ws k n).answer ≡ hands_key k (random_search_call old g ws (key_bytes k used) n).answer
    lent_answer =
        ap (λ (o : Outcome). o.answer) (keyed_search_is_lent old g ws k n (ap (λ (a : Answer). a.number) e))
        ∙ ap (λ (a : Answer). hands_key k (random_search_call old g ws (key_bytes k (get_or a.values 1 0)) n).answer) e

-- the clicks that greedy, openings-first and random search answer are the Rust's
pub calls_equal : (g : Grid) (ws : List ℤ) (ms : List ℕ) → CallsEqual g ws ms
unfolding price_call random_search_call
calls_equal g ws ms =
    record {
      greedy = round_answer g ws ms (moves_of (greedy_steps g)) (cal_zini g) (λ w. (equal g w).greedy);
      openings-first = round_answer g ws ms (moves_of (openings_first_steps g)) (cal_hzini g) (λ w. (equal g w).openings-first);
      random-search = λ bytes rounds small. search-answer g ws bytes rounds small;
      keyed-search = keyed_answer g ws;
    }
