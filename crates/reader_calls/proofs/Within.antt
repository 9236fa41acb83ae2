-- A random call uses no more bytes than it is lent, so a reader's place after it is a place of its bytes, or its place before. Assumes nothing.
use mathlib.Core.Path.{◌≡◌, refl, sym, ap, subst, ◌∙◌}
use mathlib.Core.Logic.{◌⊎◌, inl, inr}
use Prim.Native.Nat.{ℕ, ◌-◌, ◌<◌, ◌≤◌, ◌^◌, zero-le}
use native.Mathlib.Omega.{arith}
use mathlib.Core.List.{List, [], ◌∷◌, ◌++◌}
use mathlib.Core.Option.{Option, none, some}
use Rattle.std.specs.Prelude.{Result, Ok, Err}
use lib.IntN.{ℤ}
use lib.ListN.{get_or-eq_default, drop, drop_of_length-le, get_or, length, length-drop, take}
use lib.Seq.{take_all}
use Rattle.game.specs.Draws.{Mode, lent}
use Rattle.game.specs.Grid.{Grid}
use Rattle.game.specs.Rounds.{Round, Searched, random_round, random_search}
use Rattle.game.specs.Calls.{Answer, Refusal, drawn_round, drawn_search, first_given, grid_checks, list_check, named_by, random_round_call, random_search_call, refuses, rounds_check, unless, unless_listed}
use Rattle.game.proofs.Randoms.{random-within}
use Rattle.game.proofs.Searches.{search_within}
use Rattle.refusals.proofs.ReadBack.{names_one}
use Rattle.answers.specs.Answers.{rolled_answer}
use Rattle.answers.specs.declared.Roll.{Roll}
use Rattle.refusals.specs.declared.Refusal as Refused
use Rattle.reader_calls.specs.Stands.{Starts, stands_at}

-- the bytes from a place on
pub from_place : (bytes : List ℕ) (place start : ℕ) → Starts place (length bytes) start → take (length bytes - start) (drop start bytes) ≡ drop place bytes
from_place bytes place start h = take_all (length bytes - start) (drop start bytes) (omega (arith, length-drop start bytes)) ∙ go h.place_or_end
  where
    go : (start ≡ place) ⊎ ((start ≡ length bytes) × (length bytes ≤ place)) → drop start bytes ≡ drop place bytes
    go (inl e) = ap (λ (k : ℕ). drop k bytes) e
    go (inr k) = drop_of_length-le bytes {i = start} (omega (arith, k.0)) ∙ sym (drop_of_length-le bytes {i = place} k.1)

-- the bytes that an answer says were used
abbrev told : Answer → ℕ
told a = get_or a.values 1 0

-- a refusal tells of none
refused_told : (f : Refusal) (n : ℕ) → told (refuses f) ≤ n
refused_told f n = omega (arith, get_or-eq_default (named_by f) 0 {n = 1} (names_one f))

round_told : (mode : Mode) (g : Grid) (w : List ℤ) (l bytes : List ℕ) → told (random_round_call mode g w l bytes).answer ≤ length bytes
unfolding random_round_call
round_told mode g w l bytes = go (first_given (grid_checks g w ++ list_check g l ∷ [])) (random_round g (lent mode bytes) 0) refl
  where
    go : (f : Option Refusal) (o : Option Round) → random_round g (lent mode bytes) 0 ≡ o → told (unless_listed f w l (drawn_round g o w l)).answer ≤ length bytes
    go (some f) o e = refused_told f (length bytes)
    go none none e = zero-le
    go none (some r) e = (random-within g mode bytes 0 r e zero-le).1

search_told : (mode : Mode) (g : Grid) (w : List ℤ) (bytes : List ℕ) (n : ℕ) → told (random_search_call mode g w bytes n).answer ≤ length bytes
unfolding random_search_call
search_told mode g w bytes n = go (first_given (grid_checks g w ++ rounds_check n ∷ [])) (random_search g (lent mode bytes) n) refl
  where
    go : (f : Option Refusal) (o : Option Searched) → random_search g (lent mode bytes) n ≡ o → told (unless f w (drawn_search g o w)).answer ≤ length bytes
    go (some f) o e = refused_told f (length bytes)
    go none none e = zero-le
    go none (some r) e = search_within g mode bytes n r e

-- a place that was moved on by no more than the bytes left fits
moved_fits : (r : Result Roll Refused.Refusal) (place n : ℕ) → place < 2 ^ 64 → n < 2 ^ 64 → told (rolled_answer r) ≤ n - place → stands_at r place < 2 ^ 64
moved_fits (Ok roll) place n k h l = omega arith
moved_fits (Err f) place n k h l = k

module _ (r : Result Roll Refused.Refusal) (place : ℕ) (bytes : List ℕ) (k : place < 2 ^ 64) (h : length bytes < 2 ^ 64) where
  fits : (a : Answer) → rolled_answer r ≡ a → told a ≤ length (drop place bytes) → stands_at r place < 2 ^ 64
  fits a e l = moved_fits r place (length bytes) k h (subst (λ (j : ℕ). told (rolled_answer r) ≤ j) (length-drop place bytes) (subst (λ (b : Answer). told b ≤ length (drop place bytes)) (sym e) l))

  pub round_fits : (mode : Mode) (g : Grid) (w : List ℤ) (ms : List ℕ) → rolled_answer r ≡ (random_round_call mode g w ms (drop place bytes)).answer → stands_at r place < 2 ^ 64
  round_fits mode g w ms e = fits (random_round_call mode g w ms (drop place bytes)).answer e (round_told mode g w ms (drop place bytes))

  pub search_fits : (mode : Mode) (g : Grid) (w : List ℤ) (n : ℕ) → rolled_answer r ≡ (random_search_call mode g w (drop place bytes) n).answer → stands_at r place < 2 ^ 64
  search_fits mode g w n e = fits (random_search_call mode g w (drop place bytes) n).answer e (search_told mode g w (drop place bytes) n)
