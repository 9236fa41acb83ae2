-- The strict calls: what each comes to where SHAPE or BOARD refuses, where every value is right, and where one is at fault. Assumes nothing.
use Prim.Native.Nat.{ℕ}
use mathlib.Core.Path.{◌∙◌, ◌≡◌, ap, refl, sym}
use mathlib.Core.Bool.{Bool}
use mathlib.Core.List.{List, [], ◌++◌, ◌∷◌}
use mathlib.Core.Option.{Option, none, some}
use lib.IntN.{ℤ}
use Rattle.game.specs.Draws.{Mode}
use Rattle.game.specs.Calls.{Check, Refusal, at_least_call, board_checks, count_check, decided, first_given, kept, kept_listed, key_check, keyed_round_call, keyed_rounds_check, keyed_search_call, list_check, number_wrong, price_call, random_round_call, random_search_call, replay_call, rounds_check, strict_checks, strict_at_least_call, strict_keyed_round_call, strict_keyed_search_call, strict_price_call, strict_random_round_call, strict_random_search_call, strict_replay_call, strict_three_bv_call, strictly, three_bv_call, work_check}
use Rattle.game.specs.Grid.{Grid}
use Rattle.game.specs.Keys.{Key}
use Rattle.game.proofs.Checks.{first_decides}
use Rattle.game.proofs.Strict.{AllRight, Fault, verdict_board, verdict_fault, verdict_right}

-- ---- a strict call by its three outcomes

module _ {A : Type 0} (leaves : Refusal → A) (g : Grid) (present : A) where
  -- the call by the verdict of its checks
  by_verdict : (o : Option Refusal) → first_given (strict_checks g) ≡ o → strictly leaves g present ≡ decided o leaves present
  by_verdict o e = ap (λ (v : Option Refusal). decided v leaves present) e

  -- what SHAPE or BOARD leaves, whatever the values
  pub strict_board : (f : Refusal) → first_given (board_checks g) ≡ some f → strictly leaves g present ≡ leaves f
  strict_board f e = by_verdict (some f) (verdict_board g f e)

  -- what the present call comes to, where every value is right
  pub strict_right : first_given (board_checks g) ≡ none → AllRight g → strictly leaves g present ≡ present
  strict_right e r = by_verdict none (verdict_right g e r)

  -- what NUMBER of the lowest cell at fault leaves
  pub strict_fault : first_given (board_checks g) ≡ none → (f : Fault g) → strictly leaves g present ≡ leaves (number_wrong f.cell)
  strict_fault e f = by_verdict (some (number_wrong f.cell)) (verdict_fault g e f)

-- ---- every value is right

-- every strict call comes to what the present call does
pub record SameStrictly (g : Grid) : Type 0 where
  pub three-bv : (ws : List ℤ) → strict_three_bv_call g ws ≡ three_bv_call g ws
  pub at_least : (ws : List ℤ) (units : ℕ) → strict_at_least_call g ws units ≡ at_least_call g ws units
  pub price : (openingsFirst : Bool) (ws : List ℤ) (ms : List ℕ) → strict_price_call openingsFirst g ws ms ≡ price_call openingsFirst g ws ms
  pub random-round : (mode : Mode) (ws : List ℤ) (ms bytes : List ℕ) → strict_random_round_call mode g ws ms bytes ≡ random_round_call mode g ws ms bytes
  pub random-search : (mode : Mode) (ws : List ℤ) (bytes : List ℕ) (n : ℕ) → strict_random_search_call mode g ws bytes n ≡ random_search_call mode g ws bytes n
  pub keyed-round : (mode : Mode) (ws : List ℤ) (ms : List ℕ) (k : Key) → strict_keyed_round_call mode g ws ms k ≡ keyed_round_call mode g ws ms k
  pub keyed-search : (mode : Mode) (ws : List ℤ) (k : Key) (n : ℕ) → strict_keyed_search_call mode g ws k n ≡ keyed_search_call mode g ws k n
  pub replay : (ws : List ℤ) (ms : List ℕ) (n : ℕ) → strict_replay_call g ws ms n ≡ replay_call g ws ms n

-- so a call does whose checks begin with the board's: SHAPE and BOARD leave the same in both forms
pub same-strictly : {A : Type 0} (leaves : Refusal → A) (g : Grid) (cs : List Check) (o : A) → AllRight g
    → strictly leaves g (decided (first_given (board_checks g ++ cs)) leaves o) ≡ decided (first_given (board_checks g ++ cs)) leaves o
same-strictly leaves g cs o r = go (first_given (board_checks g)) refl
  where
    go : (v : Option Refusal) → first_given (board_checks g) ≡ v
        → strictly leaves g (decided (first_given (board_checks g ++ cs)) leaves o) ≡ decided (first_given (board_checks g ++ cs)) leaves o
    go none e = strict_right leaves g _ e r
    go (some f) e = strict_board leaves g _ f e ∙ sym (ap (λ (v : Option Refusal). decided v leaves o) (first_decides (board_checks g) cs f e))

-- where every value is right, also on grids that SHAPE or BOARD refuses
pub right_calls : (g : Grid) → AllRight g → SameStrictly g
unfolding three_bv_call at_least_call price_call random_round_call random_search_call keyed_round_call keyed_search_call replay_call
right_calls g r =
    record {
      three-bv = λ ws. same-strictly (kept ws) g (work_check g ws ∷ []) _ r;
      at_least = λ ws units. same-strictly (kept ws) g (work_check g ws ∷ []) _ r;
      price = λ openingsFirst ws ms. same-strictly (kept_listed ws ms) g (work_check g ws ∷ list_check g ms ∷ []) _ r;
      random-round = λ mode ws ms bytes. same-strictly (kept_listed ws ms) g (work_check g ws ∷ list_check g ms ∷ []) _ r;
      random-search = λ mode ws bytes n. same-strictly (kept ws) g (work_check g ws ∷ rounds_check n ∷ []) _ r;
      keyed-round = λ mode ws ms k. same-strictly (kept_listed ws ms) g (work_check g ws ∷ list_check g ms ∷ key_check k ∷ []) _ r;
      keyed-search = λ mode ws k n. same-strictly (kept ws) g (work_check g ws ∷ keyed_rounds_check n ∷ key_check k ∷ []) _ r;
      replay = λ ws ms n. same-strictly (kept ws) g (work_check g ws ∷ count_check n ms ∷ []) _ r;
    }

-- ---- a value is wrong

-- every strict call is NUMBER of a cell and changes nothing lent, also where the work area or the list is too short, there are no rounds, or the key is blank
pub record NumberCalls (g : Grid) (cell : ℕ) : Type 0 where
  pub three-bv : (ws : List ℤ) → strict_three_bv_call g ws ≡ kept ws (number_wrong cell)
  pub at_least : (ws : List ℤ) (units : ℕ) → strict_at_least_call g ws units ≡ kept ws (number_wrong cell)
  pub price : (openingsFirst : Bool) (ws : List ℤ) (ms : List ℕ) → strict_price_call openingsFirst g ws ms ≡ kept_listed ws ms (number_wrong cell)
  pub random-round : (mode : Mode) (ws : List ℤ) (ms bytes : List ℕ) → strict_random_round_call mode g ws ms bytes ≡ kept_listed ws ms (number_wrong cell)
  pub random-search : (mode : Mode) (ws : List ℤ) (bytes : List ℕ) (n : ℕ) → strict_random_search_call mode g ws bytes n ≡ kept ws (number_wrong cell)
  pub keyed-round : (mode : Mode) (ws : List ℤ) (ms : List ℕ) (k : Key) → strict_keyed_round_call mode g ws ms k ≡ kept_listed ws ms (number_wrong cell)
  pub keyed-search : (mode : Mode) (ws : List ℤ) (k : Key) (n : ℕ) → strict_keyed_search_call mode g ws k n ≡ kept ws (number_wrong cell)
  pub replay : (ws : List ℤ) (ms : List ℕ) (n : ℕ) → strict_replay_call g ws ms n ≡ kept ws (number_wrong cell)

-- the lowest cell at fault is named
pub fault_calls : (g : Grid) → first_given (board_checks g) ≡ none → (f : Fault g) → NumberCalls g f.cell
fault_calls g e f =
    record {
      three-bv = λ ws. strict_fault (kept ws) g (three_bv_call g ws) e f;
      at_least = λ ws units. strict_fault (kept ws) g (at_least_call g ws units) e f;
      price = λ openingsFirst ws ms. strict_fault (kept_listed ws ms) g (price_call openingsFirst g ws ms) e f;
      random-round = λ mode ws ms bytes. strict_fault (kept_listed ws ms) g (random_round_call mode g ws ms bytes) e f;
      random-search = λ mode ws bytes n. strict_fault (kept ws) g (random_search_call mode g ws bytes n) e f;
      keyed-round = λ mode ws ms k. strict_fault (kept_listed ws ms) g (keyed_round_call mode g ws ms k) e f;
      keyed-search = λ mode ws k n. strict_fault (kept ws) g (keyed_search_call mode g ws k n) e f;
      replay = λ ws ms n. strict_fault (kept ws) g (replay_call g ws ms n) e f;
    }
