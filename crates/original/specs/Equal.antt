-- Demand 2 (RULES 10.2) as statements: the clicks of zini.rs are those of the defined rounds, and those that the calls answer. Assumes nothing.
use Rattle.std.specs.Prelude.{ℕ, ◌≤◌, ◌<◌, ◌≡◌, List, [], ◌++◌, ◌∷◌, ℤ, length}
use Rattle.std.proofs.Math.Option.{Option, none, some}
use Rattle.game.specs.Lists.{Each}
use Rattle.game.specs.Draws.{lent, old}
use Rattle.game.specs.Grid.{Grid}
use Rattle.game.specs.Keys.{Key, key_bytes}
use Rattle.game.specs.Calls.{Answer, Refusal, draws, first_given, gives, greedy_call, grid_checks, keyed_search_call, list_check, openings_first_call, random_search_call, refuses, rounds_check}
use Rattle.game.specs.Rounds.{moves_of, greedy_steps, openings_first_steps, Searched, random_search}
use Rattle.original.specs.Rounds.{RngRound}
use Rattle.original.specs.Entries.{cal_zini, cal_hzini, cal_rzini}

-- what cal_rzini answers for a search: the least clicks and the bytes consumed, none where the draws run out
abbrev pub answered : Option Searched → Option RngRound
answered none = none
answered (some r) = some (record { clicks = r.least; next = r.next })

-- a grid within the limits
pub record Within (g : Grid) : Type 0 where
  pub some_rows : 1 ≤ g.rows
  pub few_rows : g.rows ≤ 255
  pub some_columns : 1 ≤ g.columns
  pub few_columns : g.columns ≤ 255

-- the three entries of zini.rs, on a grid within the limits
pub record Equal (g : Grid) : Type 0 where
  pub greedy : cal_zini g ≡ length (moves_of (greedy_steps g))
  pub openings-first : cal_hzini g ≡ length (moves_of (openings_first_steps g))
  pub random-search : (bytes : List ℕ) (rounds : ℕ) → Each (λ b. b < 256) bytes → 1 ≤ rounds
      → cal_rzini g bytes rounds ≡ answered (random_search g (lent old bytes) rounds)

-- a call's answer, unless its checks refuse it
abbrev pub answer_unless : Option Refusal → Answer → Answer
answer_unless (some f) a = refuses f
answer_unless none a = a

-- what a search answers for what cal_rzini gives: clicks and bytes used; DRAWS where the Rust runs dry
abbrev pub search_answer : Option RngRound → Answer
search_answer none = refuses draws
search_answer (some r) = gives (r.clicks ∷ r.next ∷ [])

-- the calls of any grid, work area and list: each answers what the Rust gives, unless its checks refuse it; a keyed search that isn't refused what the Rust gives on as many of the key's bytes as it used
pub record CallsEqual (g : Grid) (ws : List ℤ) (ms : List ℕ) : Type 0 where
  pub greedy : (greedy_call g ws ms).answer ≡ answer_unless (first_given (grid_checks g ws ++ list_check g ms ∷ [])) (gives (cal_zini g ∷ []))
  pub openings-first : (openings_first_call g ws ms).answer ≡ answer_unless (first_given (grid_checks g ws ++ list_check g ms ∷ [])) (gives (cal_hzini g ∷ []))
  pub random-search : (bytes : List ℕ) (rounds : ℕ) → Each (λ b. b < 256) bytes
      → (random_search_call old g ws bytes rounds).answer ≡ answer_unless (first_given (grid_checks g ws ++ rounds_check rounds ∷ [])) (search_answer (cal_rzini g bytes rounds))
  pub keyed-search : (k : Key) (rounds clicks used : ℕ) (vs : List ℕ) → (keyed_search_call old g ws k rounds).answer ≡ gives (clicks ∷ used ∷ vs)
      → cal_rzini g (key_bytes k used) rounds ≡ some (record { clicks = clicks; next = used })
