-- Moves as numbers and back, and the replay of a legal list: it is played whole, to the position after it. Assumes nothing.
use Prim.Native.Nat.{ℕ, ◌%◌, ◌*◌, ◌+◌, ◌/◌, ◌<◌, ◌≤◌, suc}
use native.Mathlib.Omega.{arith}
use mathlib.Core.Path.{◌∙◌, ◌≡◌, ap, refl}
use mathlib.Core.Bool.{Bool, ◌&&◌, cond, false, not, true}
use mathlib.Core.List.{List, [], ◌∷◌, map}
use mathlib.Core.Option.{Option, some}
use lib.Dec.{T, eqb, eqb→eq}
use lib.IntN.{ℤ}
use lib.ListN.{take}
use Rattle.game.specs.Lists.{bit}
use Rattle.game.specs.Calls.{gives, replayed, replayed_list}
use Rattle.game.specs.Demands.{Sound, standing}
use Rattle.game.specs.Grid.{Grid, size}
use Rattle.game.specs.Moves.{AllLegal, Move, Replayed, after, cell_of, chord, flag, kind_of, left, legal, legal_read, move_of, play, play_read, read_move, replay_from, stopped, unflag, whole, word}
use Rattle.game.specs.Position.{Position, closed_safe, ending, lost, untouched}
use Rattle.game.specs.Rounds.{Step, moves_of}
use Rattle.game.proofs.Narrow.{legal_inside}
use Rattle.game.proofs.Truth.{T→true, and_left}

-- the kind and the index of a word
word_parts : (k i : ℕ) → i < 65536 → ((k * 65536 + i) / 65536 ≡ k) × ((k * 65536 + i) % 65536 ≡ i)
word_parts k i h = omega arith

-- a number read gives the move that was written, for an index below 65536
pub read_word : (m : Move) → cell_of m < 65536 → read_move (word m) ≡ some m
unfolding read_move
read_word m h =
    let p = word_parts (kind_of m) (cell_of m) h in
    ap (λ (k : ℕ). move_of k (word m % 65536)) p.0 ∙ ap (move_of (kind_of m)) p.1 ∙ own m
  where
    own : (m : Move) → move_of (kind_of m) (cell_of m) ≡ some m
    own (left i) = refl
    own (flag i) = refl
    own (chord i) = refl
    own (unflag i) = refl

-- a legal list replays whole
pub replay_legal : (g : Grid) (k : ℕ) (ms : List Move) (s : Position) → size g ≤ 65536 → AllLegal g s ms → replay_from g k s (map word ms) ≡ whole (after g s ms)
replay_legal g k [] s h l = refl
replay_legal g k (m ∷ ms) s h l =
    ap turn (read_word m (omega (arith, legal_inside g s m l.0)))
    ∙ ap (λ (b : Bool). elim b as (λ x. Replayed) [ true ↦ replay_from g (suc k) (play g s m) (map word ms) | false ↦ stopped k s ]) (T→true (legal g s m) l.0)
    ∙ replay_legal g (suc k) ms (play g s m) h l.1
  where
    turn : Option Move → Replayed
    turn o = elim (legal_read g s o) [ true ↦ replay_from g (suc k) (play_read g s o) (map word ms) | false ↦ stopped k s ]

-- what a round lists replays to its end
pub round_replays : (g : Grid) (ts : List Step) → size g ≤ 65536 → Sound g ts → replay_from g 0 (untouched g) (map word (moves_of ts)) ≡ whole (standing g ts)
round_replays g ts h d = replay_legal g 0 (moves_of ts) (untouched g) h d.legal_moves

-- there no safe cell is closed, and the game is won
pub round_won : (g : Grid) (ts : List Step) → Sound g ts → (closed_safe g (standing g ts) ≡ 0) × (ending g (standing g ts) ≡ 1)
unfolding ending
round_won g ts d = (eqb→eq (closed_safe g (standing g ts)) 0 (and_left (eqb (closed_safe g (standing g ts)) 0) (not (lost g (standing g ts))) d.wins), one (eqb (closed_safe g (standing g ts)) 0) (lost g (standing g ts)) d.wins)
  where
    one : (a b : Bool) → T (a && not b) → cond b 2 (bit (a && not b)) ≡ 1
    one true false t = refl
    one true true t = absurd t
    one false b t = absurd t

-- so a replay of its list answers that
pub round_answers : (g : Grid) (ts : List Step) (ws : List ℤ) (ms : List ℕ) (n : ℕ) → Sound g ts → replay_from g 0 (untouched g) (take n ms) ≡ whole (standing g ts)
    → (replayed_list g ws ms n).answer ≡ gives (n ∷ 0 ∷ 1 ∷ [])
round_answers g ts ws ms n d e =
    let w = round_won g ts d in
    ap (λ (r : Replayed). (replayed g n r ws).answer) e ∙ rw (w.0, w.1)
