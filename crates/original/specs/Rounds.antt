-- zini.rs: apply_zini, rand_range, apply_zini_rng, zinialg, zinialg_rng. Assumes nothing.
use Rattle.std.specs.Prelude.{ℕ, zero, suc, ◌+◌, ◌-◌, ◌*◌, ◌%◌, ◌^◌, Bool, true, false, not, cond, ◌&&◌, ◌||◌, List, [], ◌∷◌, ℤ, pos, negsuc, get_or, set, length, replicate, eqb, ltb, leb}
use Rattle.std.proofs.Math.Option.{Option, none, some}
use Rattle.std.specs.Int.Signed.{lt_z, le_z}
use Rattle.game.specs.Lists.{count, range, fold}
use Rattle.game.specs.Draws.{Drawn, four_bytes}
use Rattle.original.specs.Cells.{Cells, at}
use Rattle.original.specs.Play.{State, click, flagaround, chord_cell, hitopenings}

-- click if it is closed, flagaround, chord
abbrev pub play_at : ℕ → State → ℕ → State
play_at height s idx =
    let clicked : State = elim (not (at s.cells idx).opened) [ true ↦ click height s idx | false ↦ s ] in
    chord_cell height (flagaround height clicked idx) idx

-- a closed safe cell of number 0 or without opening
abbrev pub falls_back : Cells → ℕ → Bool
falls_back cells i = not (at cells i).opened && not (at cells i).mine && (eqb (at cells i).number 0 || eqb (at cells i).opening 0)

-- ---- apply_zini

-- maxp and curi
pub record Best : Type 0 where
  pub maxp : ℤ
  pub curi : Option ℕ

-- the loop for the highest premium
abbrev pub better : Bool → Cells → Best → ℕ → Best
better human cells b i =
    cond (lt_z b.maxp (at cells i).premium && not (at cells i).mine && ((at cells i).opened || not human))
    (record { maxp = (at cells i).premium; curi = some i }) b

-- the loop that breaks at the first cell to fall back on
abbrev pub first_fall : Cells → List ℕ → Option ℕ
first_fall cells [] = none
first_fall cells (i ∷ is) = elim (falls_back cells i) [ true ↦ some i | false ↦ first_fall cells is ]

-- apply_zini: the state after a step, or none for its None
unfoldable pub apply_zini : ℕ → Bool → State → Option State
apply_zini height human s =
    let size = length s.cells in
    elim (fold (better human s.cells) (record { maxp = negsuc 0; curi = none }) (range 0 size)).curi [
      | some idx ↦ some (play_at height s idx)
      | none ↦ elim (first_fall s.cells (range 0 size)) [ some idx ↦ some (click height s idx) | none ↦ none ]
    ]

-- ---- rand_range

-- usize::MAX where usize has 64 bits
abbrev pub usize_max : ℕ
usize_max = 2 ^ 64 - 1

-- the loop of rand_range: getrandom is the next four lent bytes, none where fewer are left; the fuel bounds the turns
abbrev pub rand_loop : ℕ → List ℕ → ℕ → ℕ → Option Drawn
rand_loop zero bytes at limit = none
rand_loop (suc fuel) bytes at limit =
    elim (leb (at + 4) (length bytes)) [
      | true ↦ let t = four_bytes bytes at in
          elim (ltb t (usize_max - usize_max % limit)) [ true ↦ some (record { place = t % limit; next = at + 4 }) | false ↦ rand_loop fuel bytes (at + 4) limit ]
      | false ↦ none
    ]

-- rand_range
unfoldable pub rand_range : List ℕ → ℕ → ℕ → Option Drawn
rand_range bytes at limit =
    elim (leb limit 1) [ true ↦ some (record { place = 0; next = at }) | false ↦ rand_loop (length bytes) bytes at limit ]

-- ---- apply_zini_rng

-- maxp, curi_len and maxpr
pub record Ties : Type 0 where
  pub maxp : ℤ
  pub curi_len : ℕ
  pub maxpr : List ℕ

-- the loop for the highest premium and its ties
abbrev pub tied : Bool → Cells → Ties → ℕ → Ties
tied human cells b i =
    cond (at cells i).mine b
    (cond (human && not (at cells i).opened) b
    (cond (lt_z b.maxp (at cells i).premium) (record { maxp = (at cells i).premium; curi_len = 1; maxpr = set b.maxpr 0 i })
    (cond (le_z (pos 0) b.maxp && le_z (at cells i).premium b.maxp && le_z b.maxp (at cells i).premium)
    (record { maxp = b.maxp; curi_len = b.curi_len + 1; maxpr = set b.maxpr b.curi_len i }) b)))

-- fb_count and maxpr
pub record Falls : Type 0 where
  pub fb_count : ℕ
  pub maxpr : List ℕ

-- the loop for the cells to fall back on
abbrev pub fallen : Cells → Falls → ℕ → Falls
fallen cells b i =
    cond (falls_back cells i) (record { fb_count = b.fb_count + 1; maxpr = set b.maxpr b.fb_count i }) b

-- the state after a step by a draw: where the next draw reads on, and maxpr as it stands
pub record Stepped : Type 0 where
  pub state : State
  pub next : ℕ
  pub maxpr : List ℕ

-- a step comes to a state, finds no cell (None), or runs out of bytes
pub data Applied : Type 0 where
  stepped : Stepped → Applied
  nothing : Applied
  dry : Applied

-- apply_zini_rng
unfoldable pub apply_zini_rng : ℕ → Bool → List ℕ → State → ℕ → List ℕ → Applied
apply_zini_rng height human bytes s next maxpr =
    let size = length s.cells in
    let b = fold (tied human s.cells) (record { maxp = negsuc 0; curi_len = 0; maxpr = maxpr }) (range 0 size) in
    elim (le_z (pos 0) b.maxp) [
      | true ↦ elim (rand_range bytes next b.curi_len) [
        | none ↦ dry
        | some d ↦ stepped (record { state = play_at height s (get_or b.maxpr d.place 0); next = d.next; maxpr = b.maxpr })
      ]
      | false ↦ let f = fold (fallen s.cells) (record { fb_count = 0; maxpr = b.maxpr }) (range 0 size) in
          elim (ltb 0 f.fb_count) [
            | true ↦ elim (rand_range bytes next f.fb_count) [
              | none ↦ dry
              | some d ↦ stepped (record { state = click height s (get_or f.maxpr d.place 0); next = d.next; maxpr = f.maxpr })
            ]
            | false ↦ nothing
          ]
    ]

-- ---- zinialg

-- mines, counted
abbrev pub mines_of : Cells → ℕ
mines_of cells = count (λ i. (at cells i).mine) (range 0 (length cells))

-- while closed_cells > mines { if apply_zini(..).is_none() { break; } }; the fuel bounds the turns
abbrev pub zini_loop : ℕ → ℕ → Bool → ℕ → State → State
zini_loop zero height human mines s = s
zini_loop (suc fuel) height human mines s =
    elim (ltb mines s.closed-cells) [
      | true ↦ elim (apply_zini height human s) [ none ↦ s | some t ↦ zini_loop fuel height human mines t ]
      | false ↦ s
    ]

-- the state before any move
abbrev pub begin : Cells → ℕ → ℕ → State
begin cells width height = record { cells = cells; zini = 0; closed-cells = width * height }

-- zinialg
unfoldable pub zinialg : Cells → ℕ → ℕ → Bool → Bool → ℕ
zinialg cells width height human hitops =
    let s = begin cells width height in
    let hit : State = elim hitops [ true ↦ hitopenings height s | false ↦ s ] in
    (zini_loop (width * height) height human (mines_of cells) hit).zini

-- ---- zinialg_rng

-- a round's clicks, and where the next draw reads on
pub record RngRound : Type 0 where
  pub clicks : ℕ
  pub next : ℕ

-- the loop of zinialg_rng; none where the bytes run out
abbrev pub rng_loop : ℕ → ℕ → Bool → ℕ → List ℕ → State → ℕ → List ℕ → Option RngRound
rng_loop zero height human mines bytes s next maxpr = some (record { clicks = s.zini; next = next })
rng_loop (suc fuel) height human mines bytes s next maxpr =
    elim (ltb mines s.closed-cells) [
      | true ↦ elim (apply_zini_rng height human bytes s next maxpr) [
        | stepped t ↦ rng_loop fuel height human mines bytes t.state t.next t.maxpr
        | nothing ↦ some (record { clicks = s.zini; next = next })
        | dry ↦ none
      ]
      | false ↦ some (record { clicks = s.zini; next = next })
    ]

-- zinialg_rng
unfoldable pub zinialg_rng : Cells → ℕ → ℕ → Bool → Bool → List ℕ → ℕ → Option RngRound
zinialg_rng cells width height human hitops bytes next =
    let s = begin cells width height in
    let hit : State = elim hitops [ true ↦ hitopenings height s | false ↦ s ] in
    rng_loop (width * height) height human (mines_of cells) bytes hit next (replicate (width * height) 0)
