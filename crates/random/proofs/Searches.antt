-- Rounds one after another: what they came to so far; a round that stayed at its place would come again and again. Assumes nothing.
use Prim.Native.Nat.{ℕ, ◌-◌, ◌<◌, ◌≤◌, min, suc, zero}
use native.Mathlib.Omega.{arith}
use mathlib.Core.Path.{◌∙◌, ◌≡◌, ap, ap₂, refl, subst, sym}
use mathlib.Core.Bool.{Bool, cond}
use mathlib.Core.List.{List}
use mathlib.Core.Option.{Option, none, some}
use borrow.Author.Tests.{eq-eqb}
use lib.IntN.{ℤ}
use lib.ListN.{length}
use Rattle.std.specs.Prelude as Code
use Rattle.std.specs.Prelude.{None, Some}
use Rattle.random.specs.declared.Finish.{Finish}
use Rattle.area.specs.Stages.{Stands, held}
use Rattle.game.specs.Draws.{Mode, Source}
use Rattle.supplies.specs.Origins.{Origin, Reads, Somewhere, source_of}
use Rattle.game.specs.Grid.{Grid}
use Rattle.game.specs.Moves.{Move, after}
use Rattle.game.specs.Openings.{three_bv}
use Rattle.game.specs.Position.{Position, untouched}
use Rattle.game.specs.Rounds.{Round, Searched, moves_of, random_round, random_search, search_from}
use Rattle.random.specs.Promises.{CountsUnits, Rolling, Searching, once}
use Rattle.rounds.specs.Promises.{Fresh}
use Rattle.game.proofs.Tidy.{untouched_tidy}
use Rattle.game.proofs.Searches.{first, goes-on, left_by, onward, still_same}
use Rattle.supplies.proofs.Standing.{at_used}

-- ---- one round

pub once_searched : (rows columns : ℕ) (g : Grid) (old : List ℤ) (origin : Origin) (o : Option Round) (list : List ℕ) (w' : List ℤ) (list' : List ℕ) (r : Code.Option Finish)
    → Rolling rows columns g old origin o list w' list' r → Searching rows columns g old origin (once o) w' r
once_searched rows columns g old origin none list w' list' r q = record { answer = q.answer; position = q.position; stands = q.stands }
once_searched rows columns g old origin (some e) list w' list' r q = record { supply = q.supply; answer = q.answer; reads = q.reads; stands = q.stands }

-- the position before any move again
pub reset_stands : (rows columns : ℕ) (g : Grid) (s : Position) (old w w' : List ℤ) → Stands rows columns g s old w → w' ≡ held g (untouched g) old → Stands rows columns g (untouched g) old w'
reset_stands rows columns g s old w w' st e =
    record { rows_are = st.rows_are; columns_are = st.columns_are; shape = st.shape; room = st.room; long = (untouched_tidy g).long; holds_it = e }

pub reset_fresh : (rows columns : ℕ) (w w' : List ℤ) (units : ℕ) → CountsUnits rows columns w units
    → ((g : Grid) (s : Position) (old : List ℤ) → Stands rows columns g s old w → w' ≡ held g (untouched g) old) → Fresh rows columns w' units
reset_fresh rows columns w w' units f q =
    let s = after f.grid (untouched f.grid) f.moves in
    record {
      grid = f.grid;
      old = f.old;
      stands = reset_stands rows columns f.grid s f.old w w' f.stands (q f.grid s f.old f.stands);
      counts = f.counts;
    }

-- a round that ended was drawn to its end, and its supply stands there
pub record Drawn (rows columns : ℕ) (g : Grid) (old : List ℤ) (origin : Origin) (source : Source) (at : ℕ) (w' : List ℤ) (ended : Finish) : Type 0 where
  pub round : Round
  pub drew : random_round g source at ≡ some round
  pub stands : Stands rows columns g (after g (untouched g) (moves_of round.steps)) old w'
  pub clicks : ended.clicks ≡ length (moves_of round.steps)
  pub reads : Reads origin round.next ended.supply

module _ (rows columns : ℕ) (g : Grid) (old : List ℤ) (origin : Origin) (source : Source) (at : ℕ) (w' : List ℤ) (r : Code.Option Finish) (q : Searching rows columns g old origin (once (random_round g source at)) w' r) where
  pub drawn : (ended : Finish) → r ≡ Some ended → Drawn rows columns g old origin source at w' ended
  drawn ended y = go (random_round g source at) refl q
    where
      go : (o : Option Round) → random_round g source at ≡ o → Searching rows columns g old origin (once o) w' r → Drawn rows columns g old origin source at w' ended
      go none e k = let z : ◌≡◌ {A = ℕ} 0 1 = cc (k.answer, y) in absurd (omega arith)
      go (some x) e k =
          let z : record { clicks = length (moves_of x.steps); supply = k.supply } ≡ ended = cc (k.answer, y) in
          record { round = x; drew = e; stands = k.stands; clicks = sym (ap (λ (f : Finish). f.clicks) z); reads = subst (λ (f : Finish). Reads origin x.next f.supply) z k.reads }

  dried : r ≡ None → (random_round g source at ≡ none) × Searching rows columns g old origin none w' None
  dried y = go (random_round g source at) refl q
    where
      go : (o : Option Round) → random_round g source at ≡ o → Searching rows columns g old origin (once o) w' r → (random_round g source at ≡ none) × Searching rows columns g old origin none w' None
      go none e k = (e, record { answer = refl; position = k.position; stands = k.stands })
      go (some x) e k = let z : ◌≡◌ {A = ℕ} 0 1 = cc (k.answer, y) in absurd (omega arith)

-- the units are as many after it, and the supply after it stands somewhere
pub once_counted : (rows columns : ℕ) (w : List ℤ) (units : ℕ) (f : Fresh rows columns w units) (origin : Origin) (source : Source) (at : ℕ) (w' : List ℤ) (r : Code.Option Finish)
    → Searching rows columns f.grid f.old origin (once (random_round f.grid source at)) w' r → (ended : Finish) → r ≡ Some ended → CountsUnits rows columns w' units × Somewhere ended.supply
once_counted rows columns w units f origin source at w' r q ended y =
    let d = drawn rows columns f.grid f.old origin source at w' r q ended y in
    (record { grid = f.grid; old = f.old; moves = moves_of d.round.steps; stands = d.stands; counts = f.counts }, record { origin = origin; reads = at_used origin d.round.next ended.supply d.reads })

-- ---- under way

-- the last round's moves, the supply after it, and the search as the rounds still to play
pub record Sofar (rows columns : ℕ) (g : Grid) (old : List ℤ) (origin : Origin) (source : Source) (o : Option Searched) (w' : List ℤ) (best : Finish) (left : ℕ) : Type 0 where
  pub moves : List Move
  pub stands : Stands rows columns g (after g (untouched g) moves) old w'
  pub reads : Reads origin best.supply.used best.supply
  pub rest : o ≡ search_from left g source (record { least = best.clicks; next = best.supply.used; moves = moves })

-- so many rounds after a round that stayed at its place come to nothing more
stayed : (n at : ℕ) (g : Grid) (source : Source) (e : Round) (least : ℕ) → random_round g source at ≡ some e → least ≤ length (moves_of e.steps) → e.next ≡ at
    → search_from n g source (left_by least e) ≡ search_from 0 g source (left_by least e)
stayed n at g source e least q h s = still_same n 0 at g source e least q h (ap (λ (b : Bool). cond b 0 n) (sym (eq-eqb e.next at s)))

module _ (rows columns : ℕ) (g : Grid) (old : List ℤ) (origin : Origin) (source : Source) (o : Option Searched) (v : List ℤ) (best : Finish) (left : ℕ)
    (f : Sofar rows columns g old origin source o v best left) where
  -- no round is left
  pub search_ends : left ≡ 0 → Searching rows columns g old origin o v (Some best)
  search_ends z =
      subst (λ (x : Option Searched). Searching rows columns g old origin x v (Some best))
      (sym (f.rest ∙ ap (λ (k : ℕ). search_from k g source (record { least = best.clicks; next = best.supply.used; moves = f.moves })) z))
      (record { supply = best.supply; answer = refl; reads = f.reads; stands = f.stands })

  module _ (w' : List ℤ) (r : Code.Option Finish) (q : Searching rows columns g old origin (once (random_round g source best.supply.used)) w' r) (h : 0 < left) where
    -- the draws ran dry in a later round
    pub search_breaks : r ≡ None → Searching rows columns g old origin o w' None
    search_breaks y = go left h f.rest
      where
        d : (random_round g source best.supply.used ≡ none) × Searching rows columns g old origin none w' None
        d = dried rows columns g old origin source best.supply.used w' r q y

        go : (k : ℕ) → 0 < k → o ≡ search_from k g source (record { least = best.clicks; next = best.supply.used; moves = f.moves }) → Searching rows columns g old origin o w' None
        go zero l e = absurd (omega arith)
        go (suc k) l e = rw (e ∙ ap (goes-on k g source (onward (record { least = best.clicks; next = best.supply.used; moves = f.moves }))) d.0) d.1

    -- a later round ended
    module _ (ended : Finish) (less : ℕ) (y : r ≡ Some ended) (m : less ≡ min best.clicks ended.clicks) where
      d : Drawn rows columns g old origin source best.supply.used w' ended
      d = drawn rows columns g old origin source best.supply.used w' r q ended y

      least_is : less ≡ min best.clicks (length (moves_of d.round.steps))
      least_is = m ∙ ap (min best.clicks) d.clicks

      -- those left decide
      on : o ≡ search_from (left - 1) g source (left_by (min best.clicks (length (moves_of d.round.steps))) d.round)
      on = go left h f.rest
        where
          go : (k : ℕ) → 0 < k → o ≡ search_from k g source (record { least = best.clicks; next = best.supply.used; moves = f.moves })
              → o ≡ search_from (k - 1) g source (left_by (min best.clicks (length (moves_of d.round.steps))) d.round)
          go zero l e = absurd (omega arith)
          go (suc k) l e =
              let one_less : k ≡ suc k - 1 = omega arith in
              e ∙ ap (goes-on k g source (onward (record { least = best.clicks; next = best.supply.used; moves = f.moves }))) d.drew
              ∙ ap (λ (j : ℕ). search_from j g source (left_by (min best.clicks (length (moves_of d.round.steps))) d.round)) one_less

      so_far : (left' : ℕ) → o ≡ search_from left' g source (left_by (min best.clicks (length (moves_of d.round.steps))) d.round)
          → Sofar rows columns g old origin source o w' (record { clicks = less; supply = ended.supply }) left'
      so_far left' e =
          record {
            moves = moves_of d.round.steps;
            stands = d.stands;
            reads = at_used origin d.round.next ended.supply d.reads;
            rest = e ∙ ap₂ (λ i j. search_from left' g source (record { least = i; next = j; moves = moves_of d.round.steps })) (sym least_is) (sym d.reads.used_is);
          }

      pub search_goes_on : (left' : ℕ) → left' ≡ left - 1 → Sofar rows columns g old origin source o w' (record { clicks = less; supply = ended.supply }) left'
      search_goes_on left' z = so_far left' (rw z on)

      -- and used nothing: each after it would be the same
      pub search_stays : ended.supply.used ≡ best.supply.used → Searching rows columns g old origin o w' (Some (record { clicks = less; supply = ended.supply }))
      search_stays z =
          let least : min best.clicks (length (moves_of d.round.steps)) ≤ length (moves_of d.round.steps) = omega arith in
          let e = on ∙ stayed (left - 1) best.supply.used g source d.round _ d.drew least (sym d.reads.used_is ∙ z) in
          let s = so_far 0 e in
          rw s.rest (record { supply = ended.supply; answer = refl; reads = s.reads; stands = s.stands })

-- ---- the first round

module _ (rows columns : ℕ) (g : Grid) (old : List ℤ) (origin : Origin) (source : Source) (w' : List ℤ) (r : Code.Option Finish) (q : Searching rows columns g old origin (once (random_round g source 0)) w' r) (rounds : ℕ) where
  pub first_breaks : r ≡ None → Searching rows columns g old origin (random_search g source rounds) w' None
  unfolding random_search
  first_breaks y =
      let d = dried rows columns g old origin source 0 w' r q y in
      subst (λ (o : Option Searched). Searching rows columns g old origin o w' None) (sym (ap (goes-on (rounds - 1) g source first) d.0)) d.1

  module _ (ended : Finish) (y : r ≡ Some ended) where
    abbrev by : Drawn rows columns g old origin source 0 w' ended
    by = drawn rows columns g old origin source 0 w' r q ended y

    -- those after it decide
    pub first_ends : Sofar rows columns g old origin source (random_search g source rounds) w' ended (rounds - 1)
    unfolding random_search
    first_ends =
        let ms = moves_of by.round.steps in
        record {
          moves = ms;
          stands = by.stands;
          reads = at_used origin by.round.next ended.supply by.reads;
          rest = ap (goes-on (rounds - 1) g source first) by.drew
              ∙ ap₂ (λ i j. search_from (rounds - 1) g source (record { least = i; next = j; moves = ms })) (sym by.clicks) (sym by.reads.used_is);
        }

    -- it used nothing: each after it would be the same
    pub first_stays : ended.supply.used ≡ 0 → Searching rows columns g old origin (random_search g source rounds) w' (Some ended)
    unfolding random_search
    first_stays z =
        let least : length (moves_of by.round.steps) ≤ length (moves_of by.round.steps) = omega arith in
        let e = ap (goes-on (rounds - 1) g source first) by.drew ∙ stayed (rounds - 1) 0 g source by.round (length (moves_of by.round.steps)) by.drew least (sym by.reads.used_is ∙ z) in
        rw e (record { supply = ended.supply; answer = ap (λ (n : ℕ). Some (record { clicks = n; supply = ended.supply })) by.clicks; reads = by.reads; stands = by.stands })

-- ---- whatever grid of so many units the area stood for, and wherever the supply stood

pub record SearchMidway (rows columns : ℕ) (w : List ℤ) (mode : Mode) (bytes : List ℕ) (units : ℕ) (before : Finish) (more : ℕ) (w' : List ℤ) (best : Finish) (left : ℕ) : Type 0 where
  pub sofar : (g : Grid) (old : List ℤ) (ms : List Move) (origin : Origin) (at : ℕ) → Stands rows columns g (after g (untouched g) ms) old w → units ≡ three_bv g → Reads origin at before.supply
      → Sofar rows columns g old origin (source_of mode bytes origin) (search_from more g (source_of mode bytes origin) (record { least = before.clicks; next = at; moves = ms })) w' best left

-- before any of the rounds
pub midway_begins : (rows columns : ℕ) (w : List ℤ) (mode : Mode) (bytes : List ℕ) (units : ℕ) (before : Finish) (more left : ℕ) → more ≡ left → SearchMidway rows columns w mode bytes units before more w before left
midway_begins rows columns w mode bytes units before more left z =
    record {
      sofar = λ g old ms origin at st n d.
          record {
            moves = ms;
            stands = st;
            reads = at_used origin at before.supply d;
            rest = ap₂ (λ k a. search_from k g (source_of mode bytes origin) (record { least = before.clicks; next = a; moves = ms })) z (sym d.used_is);
          };
    }

-- the units are as many as they were, and the supply stands somewhere
pub still_counted : (rows columns : ℕ) (w : List ℤ) (mode : Mode) (bytes : List ℕ) (units : ℕ) (before : Finish) (more : ℕ) (w' : List ℤ) (best : Finish) (left : ℕ)
    → SearchMidway rows columns w mode bytes units before more w' best left → Somewhere before.supply → CountsUnits rows columns w units → CountsUnits rows columns w' units × Somewhere best.supply
still_counted rows columns w mode bytes units before more w' best left m i f =
    let s = m.sofar f.grid f.old f.moves i.origin before.supply.used f.stands f.counts i.reads in
    (record { grid = f.grid; old = f.old; moves = s.moves; stands = s.stands; counts = f.counts }, record { origin = i.origin; reads = s.reads })
