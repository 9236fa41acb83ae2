-- zini.rs: cal_zini, cal_hzini, cal_rzini. Assumes nothing.
use Rattle.std.specs.Prelude.{ℕ, zero, suc, true, false, cond, List, ltb}
use Rattle.std.proofs.Math.Option.{Option, none, some}
use Rattle.game.specs.Grid.{Grid}
use Rattle.original.specs.Cells.{Cells, build_cells_ref, initboard}
use Rattle.original.specs.Rounds.{RngRound, zinialg, zinialg_rng, usize_max}

-- build_cells_ref and initboard
abbrev pub prepared : Grid → Cells
prepared g = initboard (build_cells_ref g g.rows g.columns) g.columns g.rows

-- cal_zini
unfoldable pub cal_zini : Grid → ℕ
cal_zini g = zinialg (prepared g) g.columns g.rows false false

-- cal_hzini
unfoldable pub cal_hzini : Grid → ℕ
cal_hzini g = zinialg (prepared g) g.columns g.rows true true

-- the loop of cal_rzini: min_zini so far, and where the next draw reads on; none where the bytes run out
abbrev pub rzini_loop : ℕ → Grid → List ℕ → RngRound → Option RngRound
rzini_loop zero g bytes m = some m
rzini_loop (suc n) g bytes m =
    elim (zinialg_rng (prepared g) g.columns g.rows false false bytes m.next) [
      | none ↦ none
      | some z ↦ rzini_loop n g bytes (record { clicks = cond (ltb z.clicks m.clicks) z.clicks m.clicks; next = z.next })
    ]

-- cal_rzini: clicks and bytes consumed
unfoldable pub cal_rzini : Grid → List ℕ → ℕ → Option RngRound
cal_rzini g bytes n-iter = rzini_loop n-iter g bytes (record { clicks = usize_max; next = 0 })
