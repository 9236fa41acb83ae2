-- Replay over records and over words is the same: a run replays as the list of its words, and the records of a list replay as the list does, whatever it holds. A word that its record does not give back becomes the word 0, and neither of the two is legal. Assumes nothing.
use Prim.Native.Nat.{ℕ, zero, suc, ◌/◌, ◌%◌, ◌<◌, ◌≤◌}
use native.Mathlib.Nat.{div-lt_iff_lt-mul, mod-lt}
use native.Mathlib.Omega.{arith}
use mathlib.Core.Path.{◌≡◌, refl, ap, subst, sym, ◌∙◌}
use mathlib.Core.Bool.{Bool, cond, false, true}
use mathlib.Core.List.{List, [], ◌∷◌, ◌++◌, map, map-map}
use mathlib.Core.Option.{Option, none, some}
use lib.IntN.{ℤ}
use lib.Dec.{T, eqb, eqb→eq, leb, ltb, le→leb, lt→ltb}
use lib.ListN.{drop, length, length-map, length-take, take}
use lib.Seq.{take_at}
use borrow.Author.Tests.{le-ltb}
use Rattle.game.specs.Calls.{Answer, Outcome, Refusal, above_check, first_given, grid_checks, replay_call, replayed, trace, unless}
use Rattle.game.specs.Grid.{Grid, size}
use Rattle.game.specs.Moves.{Move, Replayed, cell_of, chord, flag, left, legal, legal_read, play_read, read_move, replay_from, stopped, unflag}
use Rattle.game.specs.Position.{Position, untouched}
use Rattle.game.proofs.Narrow.{legal_inside}
use Rattle.game.proofs.Truth.{and_both, no→false}
use Rattle.area.specs.Stages.{Shape}
use Rattle.checks.proofs.More.{enough, reaches}
use Rattle.checks.proofs.Verdict.{all_passed}
use Rattle.answers.specs.Answers.{Keeps, KeepsList}
use Rattle.records.specs.Records.{move_word, over, placed, record_of}
use Rattle.records.specs.declared.MoveRecord.{MoveRecord}
use Rattle.records.proofs.Copies.{length_over, over_begun}
use Rattle.records.proofs.Words.{word_record}
use Rattle.record_checks.specs.Promises.{copied_if, copied_words, replay_records_call, replay_within}

take_map : {A B : Type 0} (f : A → B) (n : ℕ) (xs : List A) → take n (map f xs) ≡ map f (take n xs)
take_map f zero xs = refl
take_map f (suc n) [] = refl
take_map f (suc n) (x ∷ xs) = ap (λ (l : List _). f x ∷ l) (take_map f n xs)

-- ---- one word

-- the word of a word's record
abbrev again : ℕ → ℕ → ℕ
again rows word = move_word rows (record_of rows word)

-- a word's record is of a cell
abbrev stays : ℕ → ℕ → Bool
stays rows word = placed rows (record_of rows word)

-- then its word is the word, and otherwise 0
again_is : (rows word : ℕ) (b : Bool) → stays rows word ≡ b → again rows word ≡ cond b word 0
again_is rows word b e = ap (λ (w : ℕ). cond (stays rows word) w 0) (word_record rows word) ∙ ap (λ (c : Bool). cond c word 0) e

module _ (g : Grid) (shaped : Shape g.rows g.columns) (s : Position) (word : ℕ) where
  i : ℕ
  i = word % 65536

  -- the record of a word with an index of the grid, and a kind that a word has room for, is of a cell
  inside_stays : word / 65536 < 65536 → i < size g → T (stays g.rows word)
  unfolding i
  inside_stays k h =
      let below = (div-lt_iff_lt-mul {k = g.rows} {x = i} {y = g.columns} shaped.some_rows).1 (omega arith) in
      and_both (leb g.rows 255) _ (le→leb g.rows 255 shaped.few_rows)
      (and_both (ltb (i % g.rows) g.rows) _ (lt→ltb (i % g.rows) g.rows (mod-lt i shaped.some_rows))
      (and_both (ltb (i / g.rows) 255) (ltb (word / 65536) 65536) (lt→ltb (i / g.rows) 255 (omega (arith, below, shaped.few_columns))) (lt→ltb (word / 65536) 65536 k)))

  -- so is that of every legal word
  legal_stays : T (legal_read g s (read_move word)) → T (stays g.rows word)
  unfolding read_move i
  legal_stays t = go (eqb (word / 65536) 1) refl (eqb (word / 65536) 2) refl (eqb (word / 65536) 3) refl (eqb (word / 65536) 4) refl t
    where
      on : (k : ℕ) (m : Move) → k < 5 → cell_of m ≡ i → eqb (word / 65536) k ≡ true → T (legal g s m) → T (stays g.rows word)
      on k m h c e t =
          let q = eqb→eq (word / 65536) k (subst T (sym e) tt) in
          inside_stays (omega (arith, q, h)) (subst (λ (x : ℕ). x < size g) c (legal_inside g s m t))

      go : (a : Bool) → eqb (word / 65536) 1 ≡ a → (b : Bool) → eqb (word / 65536) 2 ≡ b → (c : Bool) → eqb (word / 65536) 3 ≡ c → (d : Bool) → eqb (word / 65536) 4 ≡ d
          → T (legal_read g s (cond a (some (left i)) (cond b (some (flag i)) (cond c (some (chord i)) (cond d (some (unflag i)) none))))) → T (stays g.rows word)
      go true e b e' c e'' d e''' t = on 1 (left i) (omega arith) refl e t
      go false e true e' c e'' d e''' t = on 2 (flag i) (omega arith) refl e' t
      go false e false e' true e'' d e''' t = on 3 (chord i) (omega arith) refl e'' t
      go false e false e' false e'' true e''' t = on 4 (unflag i) (omega arith) refl e''' t
      go false e false e' false e'' false e''' t = absurd t

-- ---- a list

module _ (g : Grid) (shaped : Shape g.rows g.columns) where
  -- one turn of a replay, by whether the move is legal
  abbrev turn : ℕ → Position → Bool → Option Move → List ℕ → Replayed
  turn k s b o ws = elim b [ true ↦ replay_from g (suc k) (play_read g s o) ws | false ↦ stopped k s ]

  zero_stops : (k : ℕ) (s : Position) (ws : List ℕ) → replay_from g k s (0 ∷ ws) ≡ stopped k s
  unfolding read_move
  zero_stops k s ws = refl

  -- the words of the records of words play as the words
  plays_again : (ws : List ℕ) (k : ℕ) (s : Position) → replay_from g k s (map (again g.rows) ws) ≡ replay_from g k s ws
  plays_again [] k s = refl
  plays_again (w ∷ ws) k s = go (stays g.rows w) refl (λ t. plays_again ws (suc k) t)
    where
      xs : List ℕ
      xs = map (again g.rows) ws

      -- the rest plays the same
      Rest : Type 0
      Rest = (t : Position) → replay_from g (suc k) t xs ≡ replay_from g (suc k) t ws

      same : Rest → (b : Bool) → turn k s b (read_move w) xs ≡ turn k s b (read_move w) ws
      same f true = f (play_read g s (read_move w))
      same f false = refl

      go : (b : Bool) → stays g.rows w ≡ b → Rest → replay_from g k s (again g.rows w ∷ xs) ≡ replay_from g k s (w ∷ ws)
      go true e f = ap (λ (v : ℕ). replay_from g k s (v ∷ xs)) (again_is g.rows w true e) ∙ same f (legal_read g s (read_move w))
      go false e f =
          ap (λ (v : ℕ). replay_from g k s (v ∷ xs)) (again_is g.rows w false e)
          ∙ (zero_stops k s xs ∙ sym (ap (λ (b : Bool). turn k s b (read_move w) ws) (no→false (legal_read g s (read_move w)) (λ t. subst T e (legal_stays g shaped s w t)))))

-- ---- the calls

module _ (g : Grid) (ws : List ℤ) (n : ℕ) where
  -- the verdict on a run or a list of so many
  abbrev checked : ℕ → Option Refusal
  checked k = first_given (grid_checks g ws ++ above_check k n ∷ [])

  -- what words come to that are played
  abbrev played : List ℕ → Outcome
  played l = replayed g n (replay_from g 0 (untouched g) l) ws

  -- the records of a list replay as the list does
  pub records_replay : (ms : List ℕ) → replay_call g ws (map (move_word g.rows) (map (record_of g.rows) ms)) n ≡ replay_call g ws ms n
  unfolding replay_call
  records_replay ms =
      ap (λ (l : List ℕ). replay_call g ws l n) (map-map (move_word g.rows) (record_of g.rows) ms)
      ∙ (ap (λ (k : ℕ). unless (checked k) ws (played (take n (map (again g.rows) ms)))) (length-map ms (again g.rows)) ∙ go (checked (length ms)) refl)
    where
      go : (o : Option Refusal) → checked (length ms) ≡ o → unless o ws (played (take n (map (again g.rows) ms))) ≡ unless o ws (played (take n ms))
      go (some f) e = refl
      go none e =
          ap played (take_map (again g.rows) n ms)
          ∙ ap (λ (r : Replayed). replayed g n r ws) (plays_again g (all_passed g ws (length ms) n trace e).0.shaped (take n ms) 0 (untouched g))

  module _ (ms : List ℕ) (run : List MoveRecord) (room : n ≤ length ms) where
    -- the first words of the run
    abbrev words : List ℕ
    words = map (move_word g.rows) (take n run)

    -- they are the first of a list that they are written over
    begins : n ≤ length run → take n (over words ms) ≡ words
    begins h =
        let long = length-map (take n run) (move_word g.rows) ∙ length-take n run in
        ap (take n) (over_begun words ms (omega (arith, long))) ∙ take_at words (drop (length words) ms) n (omega (arith, long))

    -- nothing is refused: the words stand in the list, and are played
    module _ (fine : checked (length run) ≡ none) where
      at_most : n ≤ length run
      at_most = (all_passed g ws (length run) n trace fine).1

      list_is : copied_words g ws ms run n ≡ over words ms
      list_is = ap (λ (o : Option Refusal). over (map (move_word g.rows) (take (copied_if o n) run)) ms) (sym (enough (grid_checks g ws ++ reaches (length run) n trace) (length ms) n trace (sym fine) room))

      same-verdict : checked (length ms) ≡ checked (length run)
      same-verdict = ap (λ (b : Bool). first_given (grid_checks g ws ++ record { given = b; refusal = trace } ∷ [])) (le-ltb (length ms) n room ∙ sym (le-ltb (length run) n at_most))

      words_played : replay_call g ws (over words ms) n ≡ played words
      unfolding replay_call
      words_played =
          ap (λ (k : ℕ). unless (checked k) ws (played (take n (over words ms)))) (length_over words ms)
          ∙ (ap (λ (o : Option Refusal). unless o ws (played (take n (over words ms)))) (same-verdict ∙ fine) ∙ ap played (begins at_most))

    -- refused as the flat replay of the run's words, or played as they are
    comes_to : replay_within g ws (length run) n (replay_call g ws (copied_words g ws ms run n) n) ≡ replay_call g ws (map (move_word g.rows) run) n
    unfolding replay_call
    comes_to = go (checked (length run)) refl ∙ sym (ap (λ (k : ℕ). unless (checked k) ws (played (take n (map (move_word g.rows) run)))) (length-map run (move_word g.rows)))
      where
        go : (o : Option Refusal) → checked (length run) ≡ o → unless o ws (replay_call g ws (copied_words g ws ms run n) n) ≡ unless o ws (played (take n (map (move_word g.rows) run)))
        go (some f) e = refl
        go none e = ap (λ (l : List ℕ). replay_call g ws l n) (list_is e) ∙ (words_played e ∙ ap played (sym (take_map (move_word g.rows) n run)))

-- a run replays as the list of its words, if the lent list has room for the count
pub words_replay : (g : Grid) (ws : List ℤ) (ms : List ℕ) (run : List MoveRecord) (n : ℕ) (answer : Answer) (work : List ℤ) (list : List ℕ)
    → n ≤ length ms → KeepsList (replay_records_call g ws ms run n) answer work list → Keeps (replay_call g ws (map (move_word g.rows) run) n) answer work
words_replay g ws ms run n answer work list h k =
    subst (λ (o : Outcome). Keeps o answer work) (comes_to g ws n ms run h) (record { answers = k.answers; leaves = k.leaves })

-- so the records of a list, replayed as a run, come to what the flat replay of the list comes to
pub list_replay : (g : Grid) (ws : List ℤ) (ms moves : List ℕ) (n : ℕ) (answer : Answer) (work : List ℤ) (list : List ℕ)
    → n ≤ length ms → KeepsList (replay_records_call g ws ms (map (record_of g.rows) moves) n) answer work list → Keeps (replay_call g ws moves n) answer work
list_replay g ws ms moves n answer work list h k =
    subst (λ (o : Outcome). Keeps o answer work) (records_replay g ws n moves) (words_replay g ws ms (map (record_of g.rows) moves) n answer work list h k)
