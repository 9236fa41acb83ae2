-- What stands in a run after a call: a round's moves as records, zeros after DRAWS, nothing new after another refusal; and the words of a replay. Assumes nothing.
use Prim.Native.Nat.{ℕ, zero, suc, ◌/◌}
use native.Mathlib.Nat.{zero-div, zero-mod}
use mathlib.Core.Path.{◌≡◌, refl, ap, ◌∙◌}
use mathlib.Core.List.{List, ◌∷◌, map}
use lib.ListN.{drop, length, length-map, length-replicate, replicate, take}
use lib.Seq.{take_at}
use Rattle.game.specs.Area.{cleared_list, list_of}
use Rattle.game.specs.Grid.{Grid, size}
use Rattle.game.specs.Moves.{Move, word}
use Rattle.records.specs.Records.{no_move, over, record_of}
use Rattle.records.specs.declared.MoveRecord.{MoveRecord}

-- after a round of so many clicks: its moves, each as a record
pub run_of_moves : (rows : ℕ) (played : List Move) (ms : List ℕ) (run : List MoveRecord) → over (map (record_of rows) (take (length played) (list_of played ms))) run ≡ over (map (record_of rows) (map word played)) run
unfolding list_of
run_of_moves rows played ms run =
    ap (λ (l : List ℕ). over (map (record_of rows) l) run) (take_at (map word played) (drop (length (map word played)) ms) (length played) (length-map played word))

-- the word 0 is no move
zero_word : (rows : ℕ) → record_of rows 0 ≡ no_move
zero_word rows = ap (λ (r : ℕ). record { kind = 0; row = r; column = 0 / rows }) (zero-mod rows) ∙ ap (λ (c : ℕ). record { kind = 0; row = 0; column = c }) (zero-div rows)

zero_words : (rows n : ℕ) → map (record_of rows) (replicate n 0) ≡ replicate n no_move
zero_words rows zero = refl
zero_words rows (suc n) = ap (λ (m : MoveRecord). m ∷ map (record_of rows) (replicate n 0)) (zero_word rows) ∙ ap (λ (l : List MoveRecord). no_move ∷ l) (zero_words rows n)

-- after DRAWS: a record of zeros for each cell
pub run_of_zeros : (g : Grid) (ms : List ℕ) (run : List MoveRecord) → over (map (record_of g.rows) (take (size g) (cleared_list g ms))) run ≡ over (replicate (size g) no_move) run
unfolding cleared_list
run_of_zeros g ms run =
    ap (λ (l : List ℕ). over (map (record_of g.rows) l) run) (take_at (replicate (size g) 0) (drop (length (replicate (size g) 0)) ms) (size g) (length-replicate (size g) 0))
    ∙ ap (λ (l : List MoveRecord). over l run) (zero_words g.rows (size g))
