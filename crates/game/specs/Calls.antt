-- The whole promise of each public call: its answer, and each lent run at exit, for all inputs (RULES 6.2, 7, 8). Assumes nothing.
use Rattle.std.specs.Prelude.{ℕ, ◌*◌, ◌/◌, Bool, true, false, not, ◌||◌, List, [], ◌∷◌, ◌++◌, map, ℤ, length, take, eqb, leb, ltb}
use Rattle.std.proofs.Math.Option.{Option, none, some}
use Rattle.game.specs.Draws.{Mode, Source, lent}
use Rattle.game.specs.Grid.{Grid, cells, size, wrong}
use Rattle.game.specs.Lists.{bit}
use Rattle.game.specs.Keys.{Key, blank, key_after, key_numbers, keyed}
use Rattle.game.specs.Openings.{three_bv}
use Rattle.game.specs.Position.{untouched, closed_safe, ending}
use Rattle.game.specs.Moves.{Move, after, Replayed, whole, stopped, replay_from}
use Rattle.game.specs.Rounds.{moves_of, round_steps, Round, random_round, Searched, random_search}
use Rattle.game.specs.Area.{area_of, list_of, cleared_area, cleared_list}

-- ---- answers and refusals

-- the refusals by name; NUMBER names a cell
pub data Refusal : Type 0 where
  shape board work trace rounds draws move frame size_over file_wrong key_blank : Refusal
  number_wrong : ℕ → Refusal

-- the refusals by number
abbrev pub number_of : Refusal → ℕ
number_of shape = 1
number_of board = 2
number_of work = 3
number_of trace = 4
number_of rounds = 5
number_of draws = 6
number_of move = 7
number_of frame = 8
number_of size_over = 9
number_of file_wrong = 10
number_of (number_wrong cell) = 11
number_of key_blank = 12

-- what a refusal names besides its number: NUMBER the cell at fault
abbrev pub named_by : Refusal → List ℕ
named_by (number_wrong cell) = cell ∷ []
named_by shape = []
named_by board = []
named_by work = []
named_by trace = []
named_by rounds = []
named_by draws = []
named_by move = []
named_by frame = []
named_by size_over = []
named_by file_wrong = []
named_by key_blank = []

-- an answer: 0 and its values, or the refusal's number, to which MOVE adds a place and NUMBER a cell
pub record Answer : Type 0 where
  pub number : ℕ
  pub values : List ℕ

-- success with values
abbrev pub gives : List ℕ → Answer
gives vs = record { number = 0; values = vs }

-- a refusal answers its number, and what it names
abbrev pub refuses : Refusal → Answer
refuses f = record { number = number_of f; values = named_by f }

-- what a call without a list comes to: the answer, and the work area at exit
pub record Outcome : Type 0 where
  pub answer : Answer
  pub work : List ℤ

-- what a call with a list comes to: the answer, and the work area and the list at exit
pub record ListOutcome : Type 0 where
  pub answer : Answer
  pub work : List ℤ
  pub list : List ℕ

-- ---- the checks

-- a refusal, and whether it is to be given
pub record Check : Type 0 where
  pub given : Bool
  pub refusal : Refusal

-- the first refusal that is to be given
abbrev pub first_given : List Check → Option Refusal
first_given [] = none
first_given (c ∷ cs) = elim c.given [ true ↦ some c.refusal | false ↦ first_given cs ]

-- 0, or over 255
abbrev pub side_out : ℕ → Bool
side_out n = eqb n 0 || ltb 255 n

-- SHAPE: rows or columns 0, or over 255
abbrev pub shape_check : Grid → Check
shape_check g = record { given = side_out g.rows || side_out g.columns; refusal = shape }

-- BOARD: the run of values isn't rows x columns long
abbrev pub board_check : Grid → Check
board_check g = record { given = not (eqb (length g.values) (size g)); refusal = board }

-- WORK: the work area is below 5 x cells
abbrev pub work_check : Grid → List ℤ → Check
work_check g ws = record { given = ltb (length ws) (5 * size g); refusal = work }

-- TRACE: room for fewer moves than cells
abbrev pub room_check : Grid → ℕ → Check
room_check g room = record { given = ltb room (size g); refusal = trace }

-- TRACE: the list is below cells long
abbrev pub list_check : Grid → List ℕ → Check
list_check g ms = room_check g (length ms)

-- TRACE in replay: the move count is above so many
abbrev pub above_check : ℕ → ℕ → Check
above_check room n = record { given = ltb room n; refusal = trace }

-- TRACE in replay: the move count is above the list's length
abbrev pub count_check : ℕ → List ℕ → Check
count_check n ms = above_check (length ms) n

-- ROUNDS: 0 rounds
abbrev pub rounds_check : ℕ → Check
rounds_check n = record { given = eqb n 0; refusal = rounds }

-- the most rounds of a keyed search
abbrev pub most_rounds : ℕ
most_rounds = 1000000

-- ROUNDS in a keyed search: 0 rounds, or above 1,000,000
abbrev pub keyed_rounds_check : ℕ → Check
keyed_rounds_check n = record { given = eqb n 0 || ltb most_rounds n; refusal = rounds }

-- KEY: the five words are all 0
abbrev pub key_check : Key → Check
key_check k = record { given = blank k; refusal = key_blank }

-- the checks of a board, in their order
abbrev pub board_checks : Grid → List Check
board_checks g = shape_check g ∷ board_check g ∷ []

-- the checks of every call, in their order: the board's, then the work area's
abbrev pub grid_checks : Grid → List ℤ → List Check
grid_checks g ws = board_checks g ++ work_check g ws ∷ []

-- NUMBER: the value of a cell is wrong
abbrev pub number_check : Grid → ℕ → Check
number_check g i = record { given = wrong g i; refusal = number_wrong i }

-- the first checks of every strict call, in their order: the board's, then each cell's, the lowest first
abbrev pub strict_checks : Grid → List Check
strict_checks g = board_checks g ++ map (number_check g) (cells g)

-- ---- the calls

-- where a refusal is given, what it leaves; otherwise the call comes to an outcome
abbrev pub decided : {A : Type 0} → Option Refusal → (Refusal → A) → A → A
decided (some f) leaves o = leaves f
decided none leaves o = o

-- a refusal changes nothing lent
abbrev pub kept : List ℤ → Refusal → Outcome
kept ws f = record { answer = refuses f; work = ws }

-- the same with a list
abbrev pub kept_listed : List ℤ → List ℕ → Refusal → ListOutcome
kept_listed ws ms f = record { answer = refuses f; work = ws; list = ms }

-- a refusal changes nothing lent; otherwise the call comes to an outcome
abbrev pub unless : Option Refusal → List ℤ → Outcome → Outcome
unless given ws o = decided given (kept ws) o

-- the same with a list
abbrev pub unless_listed : Option Refusal → List ℤ → List ℕ → ListOutcome → ListOutcome
unless_listed given ws ms o = decided given (kept_listed ws ms) o

-- the 3BV count leaves the position before any move
unfoldable pub three_bv_call : Grid → List ℤ → Outcome
three_bv_call g ws =
    unless (first_given (grid_checks g ws)) ws (record { answer = gives (three_bv g ∷ []); work = area_of g (untouched g) ws })

-- whether 3BV is at least so many units, 1 or 0; the first 5 x cells numbers of the work area become 0
unfoldable pub at_least_call : Grid → List ℤ → ℕ → Outcome
at_least_call g ws units =
    unless (first_given (grid_checks g ws)) ws (record { answer = gives (bit (leb units (three_bv g)) ∷ []); work = cleared_area g ws })

-- a round by its moves: the clicks, the position at its end, the moves written
abbrev pub played_round : Grid → List Move → List ℤ → List ℕ → ListOutcome
played_round g played ws ms =
    record { answer = gives (length played ∷ []); work = area_of g (after g (untouched g) played) ws; list = list_of played ms }

-- a round in the greedy order, or in the openings-first order
abbrev pub priced_round : Bool → Grid → List ℤ → List ℕ → ListOutcome
priced_round openingsFirst g ws ms = played_round g (moves_of (round_steps openingsFirst g)) ws ms

-- greedy, or openings-first
unfoldable pub price_call : Bool → Grid → List ℤ → List ℕ → ListOutcome
price_call openingsFirst g ws ms =
    unless_listed (first_given (grid_checks g ws ++ list_check g ms ∷ [])) ws ms (priced_round openingsFirst g ws ms)

-- greedy
abbrev pub greedy_call : Grid → List ℤ → List ℕ → ListOutcome
greedy_call = price_call false

-- openings-first
abbrev pub openings_first_call : Grid → List ℤ → List ℕ → ListOutcome
openings_first_call = price_call true

-- what a random round comes to: clicks and bytes used, or DRAWS, which fills work area and list with 0
abbrev pub drawn_round : Grid → Option Round → List ℤ → List ℕ → ListOutcome
drawn_round g none ws ms = record { answer = refuses draws; work = cleared_area g ws; list = cleared_list g ms }
drawn_round g (some r) ws ms =
    let played = moves_of r.steps in
    record {
      answer = gives (length played ∷ r.next ∷ []);
      work = area_of g (after g (untouched g) played) ws;
      list = list_of played ms;
    }

-- a random round that draws from a source
abbrev pub round_by : Source → Grid → List ℤ → List ℕ → ListOutcome
round_by source g ws ms = drawn_round g (random_round g source 0) ws ms

-- a single random round, by lent bytes in a mode
unfoldable pub random_round_call : Mode → Grid → List ℤ → List ℕ → List ℕ → ListOutcome
random_round_call mode g ws ms bytes =
    unless_listed (first_given (grid_checks g ws ++ list_check g ms ∷ [])) ws ms (round_by (lent mode bytes) g ws ms)

-- what a random search comes to: the least clicks and bytes used, with the last round left; or DRAWS
abbrev pub drawn_search : Grid → Option Searched → List ℤ → Outcome
drawn_search g none ws = record { answer = refuses draws; work = cleared_area g ws }
drawn_search g (some r) ws =
    record { answer = gives (r.least ∷ r.next ∷ []); work = area_of g (after g (untouched g) r.moves) ws }

-- a random search of n rounds that draw from a source
abbrev pub search_by : Source → ℕ → Grid → List ℤ → Outcome
search_by source n g ws = drawn_search g (random_search g source n) ws

-- random search over n rounds, by lent bytes in a mode
unfoldable pub random_search_call : Mode → Grid → List ℤ → List ℕ → ℕ → Outcome
random_search_call mode g ws bytes n =
    unless (first_given (grid_checks g ws ++ rounds_check n ∷ [])) ws (search_by (lent mode bytes) n g ws)

-- ---- the keyed calls

-- the values of a random call, and the key after as many bytes as it used
abbrev pub with_key : Key → List ℕ → List ℕ
with_key k (clicks ∷ used ∷ more) = clicks ∷ used ∷ key_numbers (key_after k (used / 4))
with_key k (n ∷ []) = n ∷ []
with_key k [] = []

-- an answer with the key after the call; a refusal as it is
abbrev pub hands_key : Key → Answer → Answer
hands_key k a = record { number = a.number; values = with_key k a.values }

-- a call without a list that answers the key after it
abbrev pub handing : Key → Outcome → Outcome
handing k o = record { answer = hands_key k o.answer; work = o.work }

-- the same with a list
abbrev pub handing_listed : Key → ListOutcome → ListOutcome
handing_listed k o = record { answer = hands_key k o.answer; work = o.work; list = o.list }

-- a single random round, by a key in a mode
unfoldable pub keyed_round_call : Mode → Grid → List ℤ → List ℕ → Key → ListOutcome
keyed_round_call mode g ws ms k =
    unless_listed (first_given (grid_checks g ws ++ list_check g ms ∷ key_check k ∷ [])) ws ms (handing_listed k (round_by (keyed mode k) g ws ms))

-- random search over n rounds, by a key in a mode
unfoldable pub keyed_search_call : Mode → Grid → List ℤ → Key → ℕ → Outcome
keyed_search_call mode g ws k n =
    unless (first_given (grid_checks g ws ++ keyed_rounds_check n ∷ key_check k ∷ [])) ws (handing k (search_by (keyed mode k) n g ws))

-- ---- replay

-- what a replay of n moves comes to: moves made, safe cells still closed and the ending, or MOVE with the bad move's place
abbrev pub replayed : Grid → ℕ → Replayed → List ℤ → Outcome
replayed g n (whole s) ws = record { answer = gives (n ∷ closed_safe g s ∷ ending g s ∷ []); work = area_of g s ws }
replayed g n (stopped k s) ws =
    record { answer = record { number = number_of move; values = k ∷ [] }; work = area_of g s ws }

-- the first n moves of a list played from the untouched grid on
abbrev pub replayed_list : Grid → List ℤ → List ℕ → ℕ → Outcome
replayed_list g ws ms n = replayed g n (replay_from g 0 (untouched g) (take n ms)) ws

-- replay of the first n moves of a list, which stays as it is
unfoldable pub replay_call : Grid → List ℤ → List ℕ → ℕ → Outcome
replay_call g ws ms n = unless (first_given (grid_checks g ws ++ count_check n ms ∷ [])) ws (replayed_list g ws ms n)

-- ---- the strict calls

-- a strict call: SHAPE, BOARD and NUMBER leave what a refusal leaves; otherwise it comes to what the present call does
abbrev pub strictly : {A : Type 0} → (Refusal → A) → Grid → A → A
strictly leaves g present = decided (first_given (strict_checks g)) leaves present

-- the 3BV count, strictly
abbrev pub strict_three_bv_call : Grid → List ℤ → Outcome
strict_three_bv_call g ws = strictly (kept ws) g (three_bv_call g ws)

-- whether 3BV is at least so many units, strictly
abbrev pub strict_at_least_call : Grid → List ℤ → ℕ → Outcome
strict_at_least_call g ws units = strictly (kept ws) g (at_least_call g ws units)

-- greedy, or openings-first, strictly
abbrev pub strict_price_call : Bool → Grid → List ℤ → List ℕ → ListOutcome
strict_price_call openingsFirst g ws ms = strictly (kept_listed ws ms) g (price_call openingsFirst g ws ms)

-- a single random round, strictly
abbrev pub strict_random_round_call : Mode → Grid → List ℤ → List ℕ → List ℕ → ListOutcome
strict_random_round_call mode g ws ms bytes = strictly (kept_listed ws ms) g (random_round_call mode g ws ms bytes)

-- random search, strictly
abbrev pub strict_random_search_call : Mode → Grid → List ℤ → List ℕ → ℕ → Outcome
strict_random_search_call mode g ws bytes n = strictly (kept ws) g (random_search_call mode g ws bytes n)

-- a keyed round, strictly
abbrev pub strict_keyed_round_call : Mode → Grid → List ℤ → List ℕ → Key → ListOutcome
strict_keyed_round_call mode g ws ms k = strictly (kept_listed ws ms) g (keyed_round_call mode g ws ms k)

-- a keyed search, strictly
abbrev pub strict_keyed_search_call : Mode → Grid → List ℤ → Key → ℕ → Outcome
strict_keyed_search_call mode g ws k n = strictly (kept ws) g (keyed_search_call mode g ws k n)

-- replay, strictly
abbrev pub strict_replay_call : Grid → List ℤ → List ℕ → ℕ → Outcome
strict_replay_call g ws ms n = strictly (kept ws) g (replay_call g ws ms n)
