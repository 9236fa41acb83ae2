-- The replay of a list, move by move: what is left to replay, from the position so far. Assumes nothing.
use Prim.Native.Nat.{ℕ, ◌+◌, ◌<◌, ◌≤◌, suc}
use native.Mathlib.Numerals.{add-one}
use native.Mathlib.Omega.{arith}
use mathlib.Core.Path.{◌∙◌, ◌≡◌, ap, ap₂, refl, subst, sym}
use mathlib.Core.Bool.{Bool, false, true}
use mathlib.Core.List.{List, ◌∷◌}
use mathlib.Core.Option.{Option, none, some}
use lib.Dec.{T}
use lib.IntN.{ℤ}
use lib.ListN.{drop, drop_of_length-le, get_or, length}
use lib.Seq.{drop-cons}
use Rattle.area.specs.Stages.{Moving}
use Rattle.game.specs.Grid.{Grid}
use Rattle.game.specs.Moves.{Move, Replayed, legal_read, play_read, read_move, replay_from, stopped}
use Rattle.game.specs.Position.{Position, Sane, closed_safe, lost}
use Rattle.game.proofs.Sane.{play_sane}
use Rattle.replay.specs.Clicks.{Counts}
use Rattle.replay.specs.Replays.{Making, Replaying, ending_by}
use Rattle.replay.specs.declared.clicks.Remains.{Remains}
use Rattle.kinds.specs.declared.Ending.{Ending}
use Rattle.kinds.specs.Numbers.{ending_number}
use Rattle.std.specs.Prelude as Std
use Rattle.std.specs.Prelude.{Err, None, Ok, Some}
use Rattle.replay.proofs.Endings.{ending-by}

-- what a legal move comes to is sane
read_sane : (g : Grid) (s : Position) (o : Option Move) → legal_read g s o ≡ true → Sane g s → Sane g (play_read g s o)
read_sane g s none e f = f
read_sane g s (some m) e f = play_sane g s m (subst T (sym e) tt) f

-- so many moves of a list were played: w has the states of a position of which so much is left, and the replay goes on from there
pub record Onward (rows columns : ℕ) (g : Grid) (s : Position) (old : List ℤ) (ms : List ℕ) (place : ℕ) (q : Remains) (w : List ℤ) : Type 0 where
  pub position : Position
  pub moving : Moving rows columns g position old w
  pub sane : Sane g position
  pub counts : Counts g position q
  pub rest : replay_from g 0 s ms ≡ replay_from g place position (drop place ms)

-- whatever position the replay began with
pub record ReplayMidway (rows columns : ℕ) (w₀ : List ℤ) (ms : List ℕ) (safe place : ℕ) (q : Remains) (w : List ℤ) : Type 0 where
  pub onward : (g : Grid) (s : Position) (old : List ℤ) → Moving rows columns g s old w₀ → Sane g s → lost g s ≡ false → safe ≡ closed_safe g s → Onward rows columns g s old ms place q w

-- a move was made, whatever position w had the states of
abbrev pub Makes : ℕ → ℕ → ℕ → Remains → Std.Option Remains → List ℤ → List ℤ → Type 0
Makes rows columns word q r w v =
    (g : Grid) (s : Position) (old : List ℤ) → Moving rows columns g s old w → Sane g s → q.closed ≡ closed_safe g s → q.lost ≡ lost g s
    → Making rows columns g s old (legal_read g s (read_move word)) (read_move word) r w v

-- one turn of a replay
turn_is : (g : Grid) (k : ℕ) (t : Position) (x : ℕ) (xs : List ℕ) (b : Bool) → legal_read g t (read_move x) ≡ b
    → replay_from g k t (x ∷ xs) ≡ elim b as (λ _. Replayed) [ true ↦ replay_from g (suc k) (play_read g t (read_move x)) xs | false ↦ stopped k t ]
turn_is g k t x xs b e =
    ap (λ (b : Bool). elim b as (λ _. Replayed) [ true ↦ replay_from g (suc k) (play_read g t (read_move x)) xs | false ↦ stopped k t ]) e

module _ (rows columns : ℕ) (w₀ : List ℤ) (ms : List ℕ) (safe place : ℕ) (q : Remains) (w : List ℤ) (m : ReplayMidway rows columns w₀ ms safe place q w) where
  module _ (h : place < length ms) (r : Std.Option Remains) (v : List ℤ) (made : Makes rows columns (get_or ms place 0) q r w v) where
    abbrev word : ℕ
    word = get_or ms place 0

    -- the move is the first of those left
    next : drop place ms ≡ word ∷ drop (suc place) ms
    next = drop-cons ms place 0 h

    -- a legal move
    pub goes-on : (p : Remains) → r ≡ Some p → ReplayMidway rows columns w₀ ms safe (place + 1) p v
    goes-on p e =
        record {
          onward = λ g s old t f n d. let o = m.onward g s old t f n d in
              on g s old o (legal_read g o.position (read_move word)) refl (made g o.position old o.moving o.sane o.counts.closed_are o.counts.lost_is);
        }
      where
        on : (g : Grid) (s : Position) (old : List ℤ) (o : Onward rows columns g s old ms place q w) (b : Bool)
            → legal_read g o.position (read_move word) ≡ b → Making rows columns g o.position old b (read_move word) r w v
            → Onward rows columns g s old ms (place + 1) p v
        on g s old o true k a =
            let same : a.left ≡ p = cc (e, a.answer) in
            record {
              position = play_read g o.position (read_move word);
              moving = a.moving;
              sane = read_sane g o.position (read_move word) k o.sane;
              counts = subst (Counts g (play_read g o.position (read_move word))) same (record { closed_are = a.closed_are; lost_is = a.lost_is });
              rest = o.rest ∙ ap (replay_from g place o.position) next ∙ turn_is g place o.position word (drop (suc place) ms) true k
                  ∙ ap (λ (j : ℕ). replay_from g j (play_read g o.position (read_move word)) (drop j ms)) (sym (add-one place));
            }
        on g s old o false k a = let z : ◌≡◌ {A = ℕ} 0 1 = cc (e, a.answer) in absurd (omega arith)

  -- the list's end
  pub ends : length ms ≤ place → (n : Ending) → n ≡ ending_by q.closed q.lost
      → (g : Grid) (s : Position) (old : List ℤ) → Moving rows columns g s old w₀ → Sane g s → lost g s ≡ false → safe ≡ closed_safe g s
      → Replaying rows columns g old (replay_from g 0 s ms) (Ok (record { closed = q.closed; ending = n })) w
  ends e n d g s old t f l x =
      let o = m.onward g s old t f l x in
      let c = o.counts in
      rw (o.rest ∙ ap (replay_from g place o.position) (drop_of_length-le ms {i = place} e))
      (record {
        whole = record { closed = q.closed; ending = n };
        answer = refl;
        closed_are = c.closed_are;
        ending_is = ap ending_number (d ∙ ap₂ ending_by c.closed_are c.lost_is) ∙ ending-by g o.position;
        moving = o.moving;
      })
