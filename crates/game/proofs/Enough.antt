-- How many draw bytes are enough in the old mode: a step draws once, four bytes at most, and a round has at most 3BV steps. In the fair mode no number is. Assumes nothing.
use Prim.Native.Nat.{ℕ, ◌*◌, ◌+◌, ◌-◌, ◌<◌, ◌≤◌, suc, zero}
use native.Mathlib.Omega.{arith}
use native.Mathlib.Decide.{dec_le}
use native.Mathlib.Nat.{add-zero, mul-suc}
use mathlib.Core.Path.{◌∙◌, ◌≡◌, ap, refl, subst, sym}
use mathlib.Core.Bool.{Bool, cond, false, true}
use mathlib.Core.List.{List, [], ◌++◌, ◌∷◌}
use mathlib.Core.Option.{Option, none-ne-some, none, some}
use lib.Dec.{T, eqb, leb, le→leb, ltb→lt}
use lib.IntN.{pos, ℤ}
use lib.ListN.{get_or, get_or-replicate, length, length-replicate, replicate}
use borrow.Author.Tests.{eq-eqb}
use Rattle.game.specs.Calls.{Check, Refusal, draws, drawn_round, drawn_search, first_given, grid_checks, list_check, random_round_call, random_search_call, refuses, rounds, rounds_check, unless, unless_listed}
use Rattle.game.specs.Draws.{Drawn, draw, fair, fair_bound, first_taken, four_bytes, lent, old, taken, words_left}
use Rattle.game.specs.Grid.{Grid, mine, number, square}
use Rattle.game.specs.Openings.{chained_to, grow, openings, three_bv}
use Rattle.game.specs.Position.{Position, closed_safe, cost, gain, premium, untouched}
use Rattle.game.specs.Rounds.{Round, Searched, Step, before, choice, random_from, random_round, random_search, search_from, step_of, top_cells, unit_cells, width}
use Rattle.game.proofs.Checks.{NotDraws, given_append, given_each, no_draws, or_else}
use Rattle.game.proofs.Draws.{IfSome, by_taken, draw_words, old_draw, words_within}
use Rattle.game.proofs.Randoms.{by_draw, by_draws}
use Rattle.game.proofs.Searches.{first, goes-on, onward}

-- a round and a search that read no further than a place, if their draws suffice
abbrev RoundBy : ℕ → Option Round → Type 0
RoundBy most o = IfSome (λ (r : Round). r.next ≤ most) o

abbrev SearchBy : ℕ → Option Searched → Type 0
SearchBy most o = IfSome (λ (r : Searched). r.next ≤ most) o

-- ---- a draw

-- something holds of an old draw: of the one without bytes, and where enough are left of the one with them
by_tests : (P : Drawn → Type 0) (single room : Bool) {d d' : Drawn} → P d → (T room → P d') → IfSome P (cond single (some d) (cond room (some d') none))
by_tests P true room h k = h
by_tests P false true h k = k tt
by_tests P false false h k = tt

-- a draw uses four bytes at most
draw_few : (bytes : List ℕ) (at n : ℕ) (d : Drawn) → draw old bytes at n ≡ some d → d.next ≤ at + 4
draw_few bytes at n d e =
    subst (IfSome (λ (x : Drawn). x.next ≤ at + 4)) (sym (old_draw bytes at n) ∙ e)
    (by_tests (λ (x : Drawn). x.next ≤ at + 4) (leb n 1) (leb (at + 4) (length bytes)) (omega arith) (λ t. omega arith))

-- and four are enough
draw_enough : (bytes : List ℕ) (at n : ℕ) → at + 4 ≤ length bytes → draw old bytes at n ≡ none → ⊥
draw_enough bytes at n h e = go (leb n 1) (leb (at + 4) (length bytes)) _ _ (le→leb (at + 4) (length bytes) h) (sym (old_draw bytes at n) ∙ e)
  where
    go : (single room : Bool) (d d' : Drawn) → T room → cond single (some d) (cond room (some d') none) ≡ none → ⊥
    go true room d d' t e = none-ne-some d (sym e)
    go false true d d' t e = none-ne-some d' (sym e)
    go false false d d' t e = absurd t

-- ---- a round

-- a round of so many steps uses four bytes a step at most
from_few : (g : Grid) (bytes : List ℕ) (n : ℕ) (s : Position) (at : ℕ) → RoundBy (at + 4 * n) (random_from n g (lent old bytes) s at)
from_few g bytes =
    by_draws g (lent old bytes) (λ n s at o. RoundBy (at + 4 * n) o)
    (record {
      no_steps = λ s at. omega arith;
      all_open = λ n s at e. omega arith;
      dry = λ n s at e. tt;
      drawn = λ n s at d o h e r. more n (step_of g s (choice false g s) d.place) at d.next o (draw_few bytes at (width (choice false g s)) d e) r;
    })
  where
    more : (n : ℕ) (t : Step) (at k : ℕ) (o : Option Round) → k ≤ at + 4 → RoundBy (k + 4 * n) o → RoundBy (at + 4 * suc n) (before t o)
    more n t at k none h r = tt
    more n t at k (some e) h r = omega (arith, h, r)

-- and four bytes a step are enough
from_enough : (g : Grid) (bytes : List ℕ) (n : ℕ) (s : Position) (at : ℕ) → at + 4 * n ≤ length bytes → (r : Round) × (random_from n g (lent old bytes) s at ≡ some r)
from_enough g bytes =
    by_draws g (lent old bytes) (λ n s at o. at + 4 * n ≤ length bytes → (r : Round) × (o ≡ some r))
    (record {
      no_steps = λ s at l. (record { steps = []; next = at }, refl);
      all_open = λ n s at e l. (record { steps = []; next = at }, refl);
      dry = λ n s at e l. absurd (draw_enough bytes at (width (choice false g s)) (omega arith) e);
      drawn = λ n s at d o h e r l. more (step_of g s (choice false g s) d.place) o (r (omega (arith, draw_few bytes at (width (choice false g s)) d e)));
    })
  where
    more : (t : Step) (o : Option Round) → (r : Round) × (o ≡ some r) → (r : Round) × (before t o ≡ some r)
    more t o (r, e) = (record { steps = t ∷ r.steps; next = r.next }, ap (before t) e)

-- a random round uses at most four bytes a unit
pub random_few : (g : Grid) (bytes : List ℕ) (at : ℕ) (r : Round) → random_round g (lent old bytes) at ≡ some r → r.next ≤ at + 4 * three_bv g
unfolding random_round
random_few g bytes at r e = subst (RoundBy (at + 4 * three_bv g)) e (from_few g bytes (three_bv g) (untouched g) at)

-- four bytes a unit are enough for it
pub random_enough : (g : Grid) (bytes : List ℕ) (at : ℕ) → at + 4 * three_bv g ≤ length bytes → (r : Round) × (random_round g (lent old bytes) at ≡ some r)
unfolding random_round
random_enough g bytes at h = from_enough g bytes (three_bv g) (untouched g) at h

-- two safe cells
abbrev pair : Grid
pair = record { rows = 1; columns = 2; values = pos 0 ∷ pos 0 ∷ [] }

-- fewer are not enough for every grid: two safe cells are one unit, and with three bytes their round is dry
pub three_dry : (three_bv pair ≡ 1) × ((a b c : ℕ) → random_round pair (lent old (a ∷ b ∷ c ∷ [])) 0 ≡ none)
unfolding mine square number grow chained_to openings three_bv gain cost premium closed_safe top_cells unit_cells choice draw random_round
three_dry = (refl, λ a b c. refl)

-- ---- the fair mode

-- a word of bytes that are 255 each is the highest, and is spent among three
high_spent : (bytes : List ℕ) (a : ℕ) → ((i : ℕ) → i < 4 → get_or bytes (a + i) 0 ≡ 255) → T (taken fair 3 (four_bytes bytes a)) → ⊥
unfolding four_bytes
high_spent bytes a high t =
    let first : get_or bytes a 0 ≡ 255 = ap (λ (k : ℕ). get_or bytes k 0) (sym (add-zero a)) ∙ high 0 (omega arith) in
    omega (arith, ltb→lt (four_bytes bytes a) (fair_bound 3) t, high 1 (omega arith), high 2 (omega arith), high 3 (omega arith))

-- so a draw among three is dry, however many such bytes there are
high_dry : (k at : ℕ) → draw fair (replicate k 255) at 3 ≡ none
high_dry k at = go (draw fair (replicate k 255) at 3) refl
  where
    none_taken : IfSome (λ (x : Drawn). ⊥) (first_taken (four_bytes (replicate k 255)) fair 3 (words_left (replicate k 255) at) at)
    none_taken =
        by_taken (λ (x : Drawn). ⊥) (four_bytes (replicate k 255)) fair 3 (words_left (replicate k 255) at) at
        (λ a l m. high_spent (replicate k 255) a (λ i h. get_or-replicate k (a + i) 255 0 (omega (arith, words_within (replicate k 255) at a l m, length-replicate {A = ℕ} k 255))))

    go : (o : Option Drawn) → draw fair (replicate k 255) at 3 ≡ o → o ≡ none
    go none e = refl
    go (some d) e = absurd (subst (IfSome (λ (x : Drawn). ⊥)) (sym (draw_words fair (replicate k 255) at 3 (omega arith)) ∙ e) none_taken)

-- three safe cells
abbrev triple : Grid
triple = record { rows = 1; columns = 3; values = pos 0 ∷ pos 0 ∷ pos 0 ∷ [] }

-- in the fair mode no number of bytes is enough for every grid: with bytes of 255 alone the round of three safe cells is dry
pub fair_dry : (k : ℕ) → random_round triple (lent fair (replicate k 255)) 0 ≡ none
unfolding mine square number grow chained_to openings three_bv gain cost premium closed_safe top_cells unit_cells choice random_round
fair_dry k = ap (by_draw 0 triple (lent fair (replicate k 255)) (untouched triple)) (high_dry k 0)

-- ---- a search

-- rounds after others use at most four bytes a unit each
later_few : (n : ℕ) (g : Grid) (bytes : List ℕ) (b : Searched) → SearchBy (b.next + 4 * three_bv g * n) (search_from n g (lent old bytes) b)
later_few zero g bytes b = omega arith
later_few (suc n) g bytes b = go (λ e. later_few n g bytes (onward b e)) (random_round g (lent old bytes) b.next) refl
  where
    more : (k : ℕ) (o : Option Searched) → k ≤ b.next + 4 * three_bv g → SearchBy (k + 4 * three_bv g * n) o → SearchBy (b.next + 4 * three_bv g * suc n) o
    more k none h l = tt
    more k (some r) h l = omega (arith, h, l, mul-suc (4 * three_bv g) n)

    go : ((e : Round) → SearchBy (e.next + 4 * three_bv g * n) (search_from n g (lent old bytes) (onward b e))) → (o : Option Round) → random_round g (lent old bytes) b.next ≡ o
        → SearchBy (b.next + 4 * three_bv g * suc n) (goes-on n g (lent old bytes) (onward b) o)
    go l none q = tt
    go l (some e) q = more e.next (search_from n g (lent old bytes) (onward b e)) (random_few g bytes b.next e q) (l e)

-- and as many are enough
later_enough : (n : ℕ) (g : Grid) (bytes : List ℕ) (b : Searched) → b.next + 4 * three_bv g * n ≤ length bytes → (r : Searched) × (search_from n g (lent old bytes) b ≡ some r)
later_enough zero g bytes b h = (b, refl)
later_enough (suc n) g bytes b h = go (random_enough g bytes b.next (omega (arith, more))) (λ e k. later_enough n g bytes (onward b e) k)
  where
    more : 4 * three_bv g * suc n ≡ 4 * three_bv g * n + 4 * three_bv g
    more = mul-suc (4 * three_bv g) n

    go : (e : Round) × (random_round g (lent old bytes) b.next ≡ some e)
        → ((e : Round) → e.next + 4 * three_bv g * n ≤ length bytes → (r : Searched) × (search_from n g (lent old bytes) (onward b e) ≡ some r))
        → (r : Searched) × (goes-on n g (lent old bytes) (onward b) (random_round g (lent old bytes) b.next) ≡ some r)
    go (e, q) l = let r = l e (omega (arith, more, random_few g bytes b.next e q)) in (r.0, ap (goes-on n g (lent old bytes) (onward b)) q ∙ r.1)

-- a search of one round or more by its first and the others
all_rounds : (k n : ℕ) → 1 ≤ n → k * n ≡ k + k * (n - 1)
all_rounds k n h = ap (λ (m : ℕ). k * m) (omega arith) ∙ mul-suc k (n - 1) ∙ omega arith

-- a search uses at most four bytes a unit and round
pub search_spends : (g : Grid) (bytes : List ℕ) (n : ℕ) (r : Searched) → 1 ≤ n → random_search g (lent old bytes) n ≡ some r → r.next ≤ 4 * three_bv g * n
unfolding random_search
search_spends g bytes n r h e = subst (SearchBy (4 * three_bv g * n)) e (go (random_round g (lent old bytes) 0) refl)
  where
    whole : (e : Round) → e.next ≤ 4 * three_bv g → (o : Option Searched) → SearchBy (e.next + 4 * three_bv g * (n - 1)) o → SearchBy (4 * three_bv g * n) o
    whole e k none l = tt
    whole e k (some s) l = omega (arith, k, l, all_rounds (4 * three_bv g) n h)

    go : (o : Option Round) → random_round g (lent old bytes) 0 ≡ o → SearchBy (4 * three_bv g * n) (goes-on (n - 1) g (lent old bytes) first o)
    go none q = tt
    go (some e) q = whole e (omega (arith, random_few g bytes 0 e q)) (search_from (n - 1) g (lent old bytes) (first e)) (later_few (n - 1) g bytes (first e))

-- and as many are enough for it
pub search_enough : (g : Grid) (bytes : List ℕ) (n : ℕ) → 1 ≤ n → 4 * three_bv g * n ≤ length bytes → (r : Searched) × (random_search g (lent old bytes) n ≡ some r) × (r.next ≤ 4 * three_bv g * n)
unfolding random_search
search_enough g bytes n h k = whole (go (random_enough g bytes 0 (omega (arith, all_rounds (4 * three_bv g) n h))))
  where
    go : (e : Round) × (random_round g (lent old bytes) 0 ≡ some e) → (r : Searched) × (random_search g (lent old bytes) n ≡ some r)
    go (e, q) =
        let r = later_enough (n - 1) g bytes (first e) (omega (arith, all_rounds (4 * three_bv g) n h, random_few g bytes 0 e q)) in
        (r.0, ap (goes-on (n - 1) g (lent old bytes) first) q ∙ r.1)

    whole : (r : Searched) × (random_search g (lent old bytes) n ≡ some r) → (r : Searched) × (random_search g (lent old bytes) n ≡ some r) × (r.next ≤ 4 * three_bv g * n)
    whole (r, q) = (r, q, search_spends g bytes n r h q)

-- ---- the calls

-- a random round that is lent four bytes a unit never answers DRAWS
pub round_not_dry : (g : Grid) (ws : List ℤ) (ms bytes : List ℕ) → 4 * three_bv g ≤ length bytes → (random_round_call old g ws ms bytes).answer ≡ refuses draws → ⊥
unfolding random_round_call
round_not_dry g ws ms bytes h =
    let r = random_enough g bytes 0 (omega arith) in
    go (first_given checks) (given_each NotDraws checks ((λ e. omega arith), ((λ e. omega arith), ((λ e. omega arith), ((λ e. omega arith), tt))))) (random_round g (lent old bytes) 0) r.0 r.1
  where
    checks : List Check
    checks = grid_checks g ws ++ list_check g ms ∷ []

    go : (f : Option Refusal) → IfSome NotDraws f → (o : Option Round) (r : Round) → o ≡ some r → (unless_listed f ws ms (drawn_round g o ws ms)).answer ≡ refuses draws → ⊥
    go (some f) l o r q = no_draws (refuses f) l
    go none l none r q = absurd (none-ne-some r q)
    go none l (some x) r q = no_draws (drawn_round g (some x) ws ms).answer (λ e. omega arith)

-- nor does a search that is lent as many for each of its rounds
pub search_not_dry : (g : Grid) (ws : List ℤ) (bytes : List ℕ) (n : ℕ) → 4 * three_bv g * n ≤ length bytes → (random_search_call old g ws bytes n).answer ≡ refuses draws → ⊥
unfolding random_search_call or_else
search_not_dry g ws bytes n h =
    rw (given_append (grid_checks g ws) (rounds_check n ∷ [])) (go (first_given (grid_checks g ws)) (given_each NotDraws (grid_checks g ws) ((λ e. omega arith), ((λ e. omega arith), ((λ e. omega arith), tt)))) (eqb n 0) refl)
  where
    some_round : eqb n 0 ≡ false → 1 ≤ n
    some_round q = elim (dec_le 1 n) [ yes l ↦ l | no l ↦ absurd (subst T (sym (eq-eqb n 0 (omega arith)) ∙ q) tt) ]

    answered : (o : Option Searched) (r : Searched) → o ≡ some r → (drawn_search g o ws).answer ≡ refuses draws → ⊥
    answered none r q = absurd (none-ne-some r q)
    answered (some x) r q = no_draws (drawn_search g (some x) ws).answer (λ e. omega arith)

    go : (f : Option Refusal) → IfSome NotDraws f → (b : Bool) → eqb n 0 ≡ b
        → (unless (or_else f (elim b [ true ↦ some rounds | false ↦ none ])) ws (drawn_search g (random_search g (lent old bytes) n) ws)).answer ≡ refuses draws → ⊥
    go (some f) l b q = no_draws (refuses f) l
    go none l true q = no_draws (refuses rounds) (λ e. omega arith)
    go none l false q = let r = search_enough g bytes n (some_round q) h in answered (random_search g (lent old bytes) n) r.0 r.1
