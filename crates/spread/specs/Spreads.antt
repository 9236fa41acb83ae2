-- A spread as it goes over the work area, cell after cell, and what L on a safe cell comes to. Assumes nothing.
use Rattle.std.specs.Prelude.{ℕ, ◌+◌, ◌<◌, ◌≤◌, ◌≡◌, cond, List, eqb, ℤ}
use Rattle.area.specs.Numbers.{content_at, put_state, put_waiting, state_at, waiting_at}
use Rattle.area.specs.Stages.{Moving}
use Rattle.game.specs.Grid.{Grid}
use Rattle.game.specs.Lists.{count, range}
use Rattle.game.specs.Position.{Position, closed_safe}

-- a spread: the work area, how many cells wait, and how many were opened
pub record Spreading : Type 0 where
  pub work : List ℤ
  pub waiting : ℕ
  pub opened : ℕ

-- by its parts
abbrev pub now_spread : List ℤ → ℕ → ℕ → Spreading
now_spread w top n = record { work = w; waiting = top; opened = n }

-- the cell i is opened, and waits if it is a 0-cell
abbrev pub opens : Spreading → ℕ → Spreading
opens p i =
    cond (eqb (content_at p.work i) 1)
    (now_spread (put_waiting (put_state p.work i 1) p.waiting i) (p.waiting + 1) (p.opened + 1))
    (now_spread (put_state p.work i 1) p.waiting (p.opened + 1))

-- the same of a closed cell; any other stays as it is
unfoldable pub visited : Spreading → ℕ → Spreading
visited p i = cond (eqb (state_at p.work i) 0) (opens p i) p

-- the closed cells of the first n
unfoldable pub closed_cells : ℕ → List ℤ → ℕ
closed_cells n w = count (λ i. eqb (state_at w i) 0) (range 0 n)

-- there are places for all that may yet wait, and those that wait are cells
pub record Fits (n : ℕ) (p : Spreading) : Type 0 where
  pub places : p.waiting + closed_cells n p.work ≤ n
  pub few : p.opened + closed_cells n p.work ≤ n
  pub inside : (t : ℕ) → t < p.waiting → waiting_at p.work t < n

-- after cells were opened from the position s on: r of them, and v has the states of the position t
pub record Opens (rows columns : ℕ) (g : Grid) (s t : Position) (old : List ℤ) (r : ℕ) (v : List ℤ) : Type 0 where
  pub moving : Moving rows columns g t old v
  pub fewer : r + closed_safe g t ≡ closed_safe g s
