-- What greedy, openings-first and a random round, by lent bytes or a key, answered and wrote, and each round of a search, meets demand 3. Assumes nothing.
use Prim.Native.Nat.{ℕ, ◌+◌, ◌/◌, ◌≤◌, min}
use native.Mathlib.Omega.{arith}
use mathlib.Core.Path.{◌≡◌, ap, ap₂, refl, sym, ◌∙◌}
use mathlib.Core.Bool.{Bool, ◌||◌, false}
use mathlib.Core.List.{List, [], ◌∷◌, ◌++◌, map}
use mathlib.Core.Option.{Option, none, some}
use lib.IntN.{ℤ}
use lib.ListN.{drop, get_or, length, length-map, take}
use lib.Seq.{take_at}
use lib.Dec.{eqb, ltb}
use borrow.Author.Tests.{le-ltb, ne_eqb}
use Rattle.game.specs.Draws.{Mode, Places, Source, lent}
use Rattle.game.specs.Keys.{Key, key_after, key_numbers, keyed}
use Rattle.game.specs.Grid.{Grid, size}
use Rattle.game.specs.Area.{list_of}
use Rattle.game.specs.Moves.{replay_from, word}
use Rattle.game.specs.Position.{untouched}
use Rattle.game.specs.Rounds.{Round, Searched, Step, greedy_steps, moves_of, openings_first_steps, random_round, random_search}
use Rattle.game.specs.Demands.{Sound, SoundSearch}
use Rattle.game.specs.Calls.{Answer, ListOutcome, Outcome, Refusal, drawn_round, drawn_search, first_given, gives, greedy_call, grid_checks, handing, handing_listed, key_check, keyed_round_call, keyed_rounds_check, keyed_search_call, list_check, most_rounds, number_of, openings_first_call, played_round, price_call, random_round_call, random_search_call, round_by, rounds, rounds_check, search_by, trace, unless, unless_listed, with_key}
use Rattle.game.proofs.Parts.{joined, search_parts}
use Rattle.game.proofs.Replays.{round_answers, round_replays}
use Rattle.game.proofs.Draws.{lent_places}
use Rattle.game.proofs.KeyRounds.{key_parts}
use Rattle.game.proofs.Keys.{keyed_places}
use Rattle.game.proofs.Randoms.{random_sound}
use Rattle.game.proofs.Rounds.{greedy_sound, openings_first_sound}
use Rattle.game.proofs.Searches.{search_sound}
use Rattle.area.proofs.Cells.{cells_few}
use Rattle.game.proofs.Checks.{numbered}
use Rattle.answers.specs.Answers.{Keeps, KeepsList}
use Rattle.zini.specs.Written.{Told, Written}
use Rattle.checks.proofs.More.{first_none, none_below}
use Rattle.checks.proofs.Verdict.{all_passed, keyed_passed}

-- a call that answered 0 was not refused
not_refused : (o : Option Refusal) (w w' : List ℤ) (l l' : List ℕ) (x : ListOutcome) (vs : List ℕ) → KeepsList (unless_listed o w l x) (gives vs) w' l' → (o ≡ none) × KeepsList x (gives vs) w' l'
not_refused none w w' l l' x vs k = (refl, k)
not_refused (some f) w w' l l' x vs k = absurd (let e : 0 ≡ number_of f = ap (λ (a : Answer). a.number) k.answers in omega (arith, numbered f))

not_turned_down : (o : Option Refusal) (w w' : List ℤ) (x : Outcome) (vs : List ℕ) → Keeps (unless o w x) (gives vs) w' → (o ≡ none) × Keeps x (gives vs) w'
not_turned_down none w w' x vs k = (refl, k)
not_turned_down (some f) w w' x vs k = absurd (let e : 0 ≡ number_of f = ap (λ (a : Answer). a.number) k.answers in omega (arith, numbered f))

-- the round's moves stand in the list
stands_written : (g : Grid) (ts : List Step) (l l' : List ℕ) (n : ℕ) → size g ≤ 65536 → Sound g ts → n ≡ length (moves_of ts) → l' ≡ list_of (moves_of ts) l → Written g n l'
unfolding list_of
stands_written g ts l l' n h d e q =
    let words : take n l' ≡ map word (moves_of ts) =
    ap (take n) q ∙ take_at (map word (moves_of ts)) (drop (length (map word (moves_of ts))) l) n (sym (e ∙ sym (length-map (moves_of ts) word))) in
    let replays = ap (replay_from g 0 (untouched g)) words ∙ round_replays g ts h d in
    record { steps = ts; sound = d; clicks = e; words = words; replays = replays; wins = λ ws. round_answers g ts ws l' n d replays }

-- a grid that was not refused is small
small : (g : Grid) (w : List ℤ) (l : List ℕ) → first_given (grid_checks g w ++ list_check g l ∷ []) ≡ none → size g ≤ 65536
small g w l e = omega (arith, cells_few g.rows g.columns (all_passed g w (length l) (size g) trace e).0.shaped)

played_written : (g : Grid) (ts : List Step) (w w' : List ℤ) (l l' : List ℕ) (n : ℕ) → Sound g ts
    → KeepsList (unless_listed (first_given (grid_checks g w ++ list_check g l ∷ [])) w l (played_round g (moves_of ts) w l)) (gives (n ∷ [])) w' l' → Written g n l'
played_written g ts w w' l l' n d k =
    let p = not_refused (first_given (grid_checks g w ++ list_check g l ∷ [])) w w' l l' (played_round g (moves_of ts) w l) (n ∷ []) k in
    stands_written g ts l l' n (small g w l p.0) d (ap (λ (a : Answer). get_or a.values 0 0) p.1.answers) p.1.lists

-- ---- the calls

pub greedy_written : (g : Grid) (w w' : List ℤ) (l l' : List ℕ) (n : ℕ) → KeepsList (greedy_call g w l) (gives (n ∷ [])) w' l' → Written g n l'
unfolding price_call
greedy_written g w w' l l' n k = played_written g (greedy_steps g) w w' l l' n (greedy_sound g) k

pub openings_first_written : (g : Grid) (w w' : List ℤ) (l l' : List ℕ) (n : ℕ) → KeepsList (openings_first_call g w l) (gives (n ∷ [])) w' l' → Written g n l'
unfolding price_call
openings_first_written g w w' l l' n k = played_written g (openings_first_steps g) w w' l l' n (openings_first_sound g) k

-- what a random round from a source comes to: its clicks and list
drawn_written : (g : Grid) (source : Source) → Places source → (w : List ℤ) (l l' : List ℕ) (n : ℕ) → size g ≤ 65536 → 0 ≡ (round_by source g w l).answer.number
    → n ≡ get_or (round_by source g w l).answer.values 0 0 → l' ≡ (round_by source g w l).list → Written g n l'
drawn_written g source p w l l' n h = go (random_round g source 0) (λ r e. random_sound g source p 0 r e)
  where
    go : (o : Option Round) → ((r : Round) → o ≡ some r → Sound g r.steps) → 0 ≡ (drawn_round g o w l).answer.number → n ≡ get_or (drawn_round g o w l).answer.values 0 0 → l' ≡ (drawn_round g o w l).list → Written g n l'
    go none d z e q = absurd (omega arith)
    go (some r) d z e q = stands_written g r.steps l l' n h (d r refl) e q

-- a round by lent bytes
pub random_written : (mode : Mode) (g : Grid) (w w' : List ℤ) (l l' bytes : List ℕ) (n used : ℕ) → KeepsList (random_round_call mode g w l bytes) (gives (n ∷ used ∷ [])) w' l' → Written g n l'
unfolding random_round_call
random_written mode g w w' l l' bytes n used k =
    let p = not_refused (first_given (grid_checks g w ++ list_check g l ∷ [])) w w' l l' (round_by (lent mode bytes) g w l) (n ∷ used ∷ []) k in
    drawn_written g (lent mode bytes) (lent_places mode bytes) w l l' n (small g w l p.0) (ap (λ (a : Answer). a.number) p.1.answers) (ap (λ (a : Answer). get_or a.values 0 0) p.1.answers) p.1.lists

-- the first value of an answer is no part of the key
first_value : (k : Key) (vs : List ℕ) → get_or (with_key k vs) 0 0 ≡ get_or vs 0 0
first_value k [] = refl
first_value k (n ∷ []) = refl
first_value k (n ∷ used ∷ vs) = refl

-- a round by a key
pub keyed_written : (mode : Mode) (g : Grid) (w w' : List ℤ) (l l' : List ℕ) (key : Key) (n : ℕ) (vs : List ℕ) → KeepsList (keyed_round_call mode g w l key) (gives (n ∷ vs)) w' l' → Written g n l'
unfolding keyed_round_call
keyed_written mode g w w' l l' key n vs k =
    let p = not_refused (first_given (grid_checks g w ++ list_check g l ∷ key_check key ∷ [])) w w' l l' (handing_listed key (round_by (keyed mode key) g w l)) (n ∷ vs) k in
    drawn_written g (keyed mode key) (keyed_places mode key) w l l' n (small g w l (first_none (grid_checks g w ++ list_check g l ∷ []) (key_check key ∷ []) p.0)) (ap (λ (a : Answer). a.number) p.1.answers)
    (ap (λ (a : Answer). get_or a.values 0 0) p.1.answers ∙ first_value key (round_by (keyed mode key) g w l).answer.values) p.1.lists

-- what a search from a source comes to, and each of its rounds
drawn_told : (g : Grid) (source : Source) → Places source → (w : List ℤ) (n clicks used : ℕ) → 1 ≤ n → 0 ≡ (search_by source n g w).answer.number
    → clicks ≡ get_or (search_by source n g w).answer.values 0 0 → used ≡ get_or (search_by source n g w).answer.values 1 0 → Told source g n clicks used
drawn_told g source p w n clicks used h = go (random_search g source n) (λ r e. search_sound g source p n r h e) refl
  where
    go : (o : Option Searched) → ((r : Searched) → o ≡ some r → SoundSearch g source n r) → random_search g source n ≡ o → 0 ≡ (drawn_search g o w).answer.number
        → clicks ≡ get_or (drawn_search g o w).answer.values 0 0 → used ≡ get_or (drawn_search g o w).answer.values 1 0 → Told source g n clicks used
    go none d e z c u = absurd (omega arith)
    go (some r) d e z c u = record { came_to = r; searched = e; clicks_are = c; used_are = u; sound = d r refl }

-- a search by lent bytes
pub search_told : (mode : Mode) (g : Grid) (w w' : List ℤ) (bytes : List ℕ) (n clicks used : ℕ) → Keeps (random_search_call mode g w bytes n) (gives (clicks ∷ used ∷ [])) w' → Told (lent mode bytes) g n clicks used
unfolding random_search_call
search_told mode g w w' bytes n clicks used k =
    let p = not_turned_down (first_given (grid_checks g w ++ rounds_check n ∷ [])) w w' (search_by (lent mode bytes) n g w) (clicks ∷ used ∷ []) k in
    let h : 1 ≤ n = (all_passed g w n 1 rounds (ap (λ (b : Bool). first_given (grid_checks g w ++ record { given = b; refusal = rounds } ∷ [])) (none_below n) ∙ p.0)).1 in
    drawn_told g (lent mode bytes) (lent_places mode bytes) w n clicks used h (ap (λ (a : Answer). a.number) p.1.answers) (ap (λ (a : Answer). get_or a.values 0 0) p.1.answers) (ap (λ (a : Answer). get_or a.values 1 0) p.1.answers)

-- the second value of an answer is no part of the key either
second_value : (k : Key) (vs : List ℕ) → get_or (with_key k vs) 1 0 ≡ get_or vs 1 0
second_value k [] = refl
second_value k (n ∷ []) = refl
second_value k (n ∷ used ∷ vs) = refl

-- a search by a key
pub keyed_told : (mode : Mode) (g : Grid) (w w' : List ℤ) (key : Key) (n clicks used : ℕ) (vs : List ℕ) → Keeps (keyed_search_call mode g w key n) (gives (clicks ∷ used ∷ vs)) w' → Told (keyed mode key) g n clicks used
unfolding keyed_search_call
keyed_told mode g w w' key n clicks used vs k =
    let p = not_turned_down (first_given (grid_checks g w ++ keyed_rounds_check n ∷ key_check key ∷ [])) w w' (handing key (search_by (keyed mode key) n g w)) (clicks ∷ used ∷ vs) k in
    drawn_told g (keyed mode key) (keyed_places mode key) w n clicks used (keyed_passed g w n key p.0).1 (ap (λ (a : Answer). a.number) p.1.answers)
    (ap (λ (a : Answer). get_or a.values 0 0) p.1.answers ∙ first_value key (search_by (keyed mode key) n g w).answer.values)
    (ap (λ (a : Answer). get_or a.values 1 0) p.1.answers ∙ second_value key (search_by (keyed mode key) n g w).answer.values)

-- two searches, the second with the bytes that the first left, answer together what one search of all their rounds answers
pub searches_join : (mode : Mode) (g : Grid) (w w' v v' : List ℤ) (bytes : List ℕ) (m n clicks used clicks' used' : ℕ)
    → Keeps (random_search_call mode g w bytes m) (gives (clicks ∷ used ∷ [])) w' → Keeps (random_search_call mode g v (drop used bytes) n) (gives (clicks' ∷ used' ∷ [])) v'
    → (random_search_call mode g w bytes (m + n)).answer ≡ gives (min clicks clicks' ∷ (used + used') ∷ [])
unfolding random_search_call
searches_join mode g w w' v v' bytes m n clicks used clicks' used' k k' =
    ap (λ (o : Option Refusal). (unless o w (drawn_search g (random_search g (lent mode bytes) (m + n)) w)).answer) (given_as (m + n) m (omega (arith, a.sound.as_many)) (omega (arith, a.sound.as_many)) ∙ fine.0)
    ∙ ap (λ (o : Option Searched). (drawn_search g o w).answer) whole
    ∙ ap₂ (λ (c u : ℕ). gives (c ∷ u ∷ [])) (ap₂ min (sym a.clicks_are) (sym b.clicks_are)) (ap₂ ◌+◌ (sym a.used_are) (sym b.used_are))
  where
    a : Told (lent mode bytes) g m clicks used
    a = search_told mode g w w' bytes m clicks used k

    b : Told (lent mode (drop used bytes)) g n clicks' used'
    b = search_told mode g v v' (drop used bytes) n clicks' used' k'

    fine : (first_given (grid_checks g w ++ rounds_check m ∷ []) ≡ none) × Keeps (drawn_search g (random_search g (lent mode bytes) m) w) (gives (clicks ∷ used ∷ [])) w'
    fine = not_turned_down (first_given (grid_checks g w ++ rounds_check m ∷ [])) w w' (drawn_search g (random_search g (lent mode bytes) m) w) (clicks ∷ used ∷ []) k

    given_as : (i j : ℕ) → 1 ≤ i → 1 ≤ j → first_given (grid_checks g w ++ rounds_check i ∷ []) ≡ first_given (grid_checks g w ++ rounds_check j ∷ [])
    given_as i j h l =
        ap (λ (x : Bool). first_given (grid_checks g w ++ record { given = x; refusal = rounds } ∷ [])) (ne_eqb i 0 (λ e. omega arith) ∙ sym (ne_eqb j 0 (λ e. omega arith)))

    whole : random_search g (lent mode bytes) (m + n) ≡ some (joined a.came_to b.came_to)
    whole =
        search_parts g mode bytes m n a.came_to b.came_to (omega (arith, a.sound.as_many)) (omega (arith, b.sound.as_many)) a.searched
        (ap (λ (i : ℕ). random_search g (lent mode (drop i bytes)) n) (sym a.used_are) ∙ b.searched)

-- two keyed searches, the second with the key that the first handed back, answer together what one search of all their rounds answers, if it may have so many
pub keyed_searches_join : (mode : Mode) (g : Grid) (w w' v v' : List ℤ) (key : Key) (m n clicks used clicks' used' : ℕ) (vs vs' : List ℕ) → m + n ≤ most_rounds
    → Keeps (keyed_search_call mode g w key m) (gives (clicks ∷ used ∷ vs)) w' → Keeps (keyed_search_call mode g v (key_after key (used / 4)) n) (gives (clicks' ∷ used' ∷ vs')) v'
    → (keyed_search_call mode g w key (m + n)).answer ≡ gives (min clicks clicks' ∷ (used + used') ∷ key_numbers (key_after key ((used + used') / 4)))
unfolding keyed_search_call
keyed_searches_join mode g w w' v v' key m n clicks used clicks' used' vs vs' few k k' =
    ap (λ (o : Option Refusal). (unless o w (handing key (drawn_search g (random_search g (keyed mode key) (m + n)) w))).answer) (given_as (m + n) m (none_refused (m + n) some_of_all few) (none_refused m some_first (omega arith)) ∙ fine.0)
    ∙ ap (λ (o : Option Searched). (handing key (drawn_search g o w)).answer) whole
    ∙ ap₂ (λ (c u : ℕ). gives (c ∷ u ∷ key_numbers (key_after key (u / 4)))) (ap₂ min (sym a.clicks_are) (sym b.clicks_are)) (ap₂ ◌+◌ (sym a.used_are) (sym b.used_are))
  where
    a : Told (keyed mode key) g m clicks used
    a = keyed_told mode g w w' key m clicks used vs k

    b : Told (keyed mode (key_after key (used / 4))) g n clicks' used'
    b = keyed_told mode g v v' (key_after key (used / 4)) n clicks' used' vs' k'

    some_first : 1 ≤ m
    some_first = omega (arith, a.sound.as_many)

    some_of_all : 1 ≤ m + n
    some_of_all = omega (arith, a.sound.as_many)

    fine : (first_given (grid_checks g w ++ keyed_rounds_check m ∷ key_check key ∷ []) ≡ none) × Keeps (handing key (search_by (keyed mode key) m g w)) (gives (clicks ∷ used ∷ vs)) w'
    fine = not_turned_down (first_given (grid_checks g w ++ keyed_rounds_check m ∷ key_check key ∷ [])) w w' (handing key (search_by (keyed mode key) m g w)) (clicks ∷ used ∷ vs) k

    none_refused : (i : ℕ) → 1 ≤ i → i ≤ most_rounds → (eqb i 0 || ltb most_rounds i) ≡ false
    none_refused i h l = rw (ne_eqb i 0 (λ e. omega arith)) (le-ltb most_rounds i l)

    given_as : (i j : ℕ) → (eqb i 0 || ltb most_rounds i) ≡ false → (eqb j 0 || ltb most_rounds j) ≡ false
        → first_given (grid_checks g w ++ keyed_rounds_check i ∷ key_check key ∷ []) ≡ first_given (grid_checks g w ++ keyed_rounds_check j ∷ key_check key ∷ [])
    given_as i j e f = ap (λ (x : Bool). first_given (grid_checks g w ++ record { given = x; refusal = rounds } ∷ key_check key ∷ [])) (e ∙ sym f)

    whole : random_search g (keyed mode key) (m + n) ≡ some (joined a.came_to b.came_to)
    whole =
        key_parts mode key g m n a.came_to b.came_to some_first (omega (arith, b.sound.as_many)) a.searched
        (ap (λ (i : ℕ). random_search g (keyed mode (key_after key (i / 4))) n) (sym a.used_are) ∙ b.searched)
