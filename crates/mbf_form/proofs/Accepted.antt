-- What holds of a file that passes, and a file of which it holds passes: the tests one by one. Assumes nothing.
use Prim.Native.Nat.{ℕ, ◌+◌, ◌*◌, ◌<◌, ◌≤◌}
use native.Mathlib.Omega.{arith}
use mathlib.Core.Path.{◌≡◌, ap, refl, subst}
use mathlib.Core.Logic.{⊎_elim}
use mathlib.Core.Bool.{◌||◌, false, not}
use mathlib.Core.List.{List, [], ◌++◌, ◌∷◌}
use mathlib.Core.Option.{none}
use lib.Arith.{digits_lt}
use lib.Dec.{T, eqb, leb, leb→le, ltb}
use lib.ListN.{length}
use borrow.Author.Tests.{eq-eqb, eqb-true, le-ltb, leb-false, not-false}
use Rattle.game.specs.Lists.{has, range, some_of}
use Rattle.game.specs.Calls.{side_out}
use Rattle.game.proofs.Checks.{each_fails, none_given, side_in}
use Rattle.game.proofs.Counts.{Once}
use Rattle.game.proofs.Members.{has_range, map_has, range_has, some_yes, yes_some}
use Rattle.game.proofs.Orders.{pigeonhole}
use Rattle.game.proofs.Truth.{no→false, or_cases, or_no}
use Rattle.lines.proofs.Runs.{length_cells}
use Rattle.lines.proofs.Verdict.{side_fine}
use Rattle.mbf_form.specs.Form.{file_columns, file_rows, mine_column, mine_count, mine_place, mine_places, mine_row, past_edge, twice}
use Rattle.mbf_form.specs.Calls.{file_refusal, mine_checks, side_checks}

-- ---- none is listed twice

pub twice_once : (xs : List ℕ) → twice xs ≡ false → Once xs
twice_once [] e = tt
twice_once (x ∷ xs) e = let h = or_no (has x xs) (twice xs) e in ((λ t. subst T h.0 t), twice_once xs h.1)

pub once_twice : (xs : List ℕ) → Once xs → twice xs ≡ false
once_twice [] o = refl
once_twice (x ∷ xs) o = λ i. no→false (has x xs) o.0 i || once_twice xs o.1 i

-- ---- none is past the edge

module _ (file : List ℕ) where
  edge_in : some_of (past_edge file) (range 0 (mine_count file)) ≡ false → (k : ℕ) → k < mine_count file → (mine_column file k < file_columns file) × (mine_row file k < file_rows file)
  unfolding past_edge
  edge_in e k h =
      let n = no→false (past_edge file k) (λ t. subst T e (some_yes (past_edge file) k (range 0 (mine_count file)) (range_has 0 (mine_count file) k (omega arith) h) t)) in
      let o = or_no (leb (file_columns file) (mine_column file k)) (leb (file_rows file) (mine_row file k)) n in
      (leb-false _ _ o.0, leb-false _ _ o.1)

  in-edge : ((k : ℕ) → k < mine_count file → (mine_column file k < file_columns file) × (mine_row file k < file_rows file)) → some_of (past_edge file) (range 0 (mine_count file)) ≡ false
  unfolding past_edge
  in-edge h =
      no→false (some_of (past_edge file) (range 0 (mine_count file)))
      (λ t.
      let w = yes_some (past_edge file) (range 0 (mine_count file)) t in
      let l = h w.0 (has_range 0 (mine_count file) w.0 w.1).1 in
      ⊎_elim (λ u. omega (arith, leb→le (file_columns file) (mine_column file w.0) u)) (λ u. omega (arith, leb→le (file_rows file) (mine_row file w.0) u))
      (or_cases (leb (file_columns file) (mine_column file w.0)) (leb (file_rows file) (mine_row file w.0)) w.2))

-- ---- all checks

-- what the checks leave of a file
pub record Accepted (file : List ℕ) : Type 0 where
  pub some_rows : 1 ≤ file_rows file
  pub few_rows : file_rows file ≤ 255
  pub some_columns : 1 ≤ file_columns file
  pub few_columns : file_columns file ≤ 255
  pub long : length file ≡ 4 + 2 * mine_count file
  pub rows_inside : (k : ℕ) → k < mine_count file → mine_row file k < file_rows file
  pub columns_inside : (k : ℕ) → k < mine_count file → mine_column file k < file_columns file
  pub once : Once (mine_places file)

pub accepted : (file : List ℕ) → file_refusal file ≡ none → Accepted file
unfolding file_refusal
accepted file e =
    let h = each_fails (side_checks file ++ mine_checks file) e in
    let s = or_no (side_out (file_rows file)) (side_out (file_columns file)) h.1.0 in
    let r = side_in (file_rows file) s.0 in
    let c = side_in (file_columns file) s.1 in
    let m = edge_in file h.1.1.1.0 in
    record {
      some_rows = r.0;
      few_rows = r.1;
      some_columns = c.0;
      few_columns = c.1;
      long = eqb-true (length file) (4 + 2 * mine_count file) (not-false _ h.1.1.0);
      rows_inside = λ k l. (m k l).1;
      columns_inside = λ k l. (m k l).0;
      once = twice_once (mine_places file) h.1.1.1.1.0;
    }

-- its sides pass
pub shaped : (file : List ℕ) → Accepted file → (side_out (file_rows file) || side_out (file_columns file)) ≡ false
shaped file a = λ i. side_fine (file_rows file) (λ e. omega arith) (omega arith) i || side_fine (file_columns file) (λ e. omega arith) (omega arith) i

pub accept : (file : List ℕ) → Accepted file → file_refusal file ≡ none
unfolding file_refusal
accept file a = none_given (side_checks file ++ mine_checks file) (short, (shaped file a, (long, (edge, (once_twice (mine_places file) a.once, tt)))))
  where
    short : ltb (length file) 2 ≡ false
    short = le-ltb (length file) 2 (omega arith)

    long : not (eqb (length file) (4 + 2 * mine_count file)) ≡ false
    long = ap not (eq-eqb (length file) (4 + 2 * mine_count file) a.long)

    edge : some_of (past_edge file) (range 0 (mine_count file)) ≡ false
    edge = in-edge file (λ k l. (a.columns_inside k l, a.rows_inside k l))

-- ---- how many mines

-- the places of the mines are as many as they
pub length_places : (file : List ℕ) → length (mine_places file) ≡ mine_count file
unfolding mine_places
length_places file = length_cells (mine_place file) (mine_count file)

-- a listed place lies on the grid
pub place_in : (file : List ℕ) → Accepted file → (p : ℕ) → T (has p (mine_places file)) → p < file_rows file * file_columns file
unfolding mine_places
place_in file a p t =
    let w = map_has (mine_place file) p (range 0 (mine_count file)) t in
    let l = (has_range 0 (mine_count file) w.0 w.1).1 in
    rw w.2 (digits_lt (a.rows_inside w.0 l) (a.columns_inside w.0 l))

-- no more mines than cells
pub few_mines : (file : List ℕ) → Accepted file → mine_count file ≤ file_rows file * file_columns file
few_mines file a =
    omega (arith, length_places file, pigeonhole (file_rows file * file_columns file) (mine_places file) a.once (place_in file a))
