-- There is only one answer and one end of a lent reader for every draw by a reader: a draw is a function, and its Option is read back from it. Assumes nothing.
use Prim.Native.Nat.{ℕ}
use mathlib.Core.Path.{◌≡◌, refl, sym, ◌∙◌}
use mathlib.Core.List.{List}
use Rattle.std.specs.Prelude.{None, Option, Some}
use mathlib.Core.Option as Rules
use mathlib.Mathlib.Logic.Function.Defs.{LeftInverse-Injective}
use denote.Ref.{Bor}
use Rattle.game.specs.Draws as Game
use Rattle.draws.specs.Answers.{drawn_of}
use Rattle.draws.specs.declared.Drawn.{Drawn}
use Rattle.draw_reader.specs.Reader.{moved_on}
use Rattle.draw_reader.specs.declared.DrawReader.{DrawReader}

-- a reader at a place of the bytes
pub reader_once : (bytes : Bor (List ℕ)) (place : ℕ) (r r' : DrawReader) → (r.bytes ≡ bytes) × (r.place ≡ place) → (r'.bytes ≡ bytes) × (r'.place ≡ place) → r ≡ r'
reader_once bytes place r r' k k' = λ i. record { bytes = (k.0 ∙ sym k'.0) i; place = (k.1 ∙ sym k'.1) i }

-- one draw from a place: draw_from
pub draw_once : (o : Rules.Option Game.Drawn) (r r' : Option Drawn) → drawn_of r ≡ o → drawn_of r' ≡ o → r ≡ r'
draw_once o r r' e e' = LeftInverse-Injective drawn_by drawn_of back r r' (e ∙ sym e')
  where
    drawn_by : Rules.Option Game.Drawn → Option Drawn
    drawn_by Rules.none = None
    drawn_by (Rules.some d) = Some (record { place = d.place; next = d.next })

    back : (r : Option Drawn) → drawn_by (drawn_of r) ≡ r
    back (Some d) = refl
    back None = refl

-- one draw by a lent reader
pub next_once : (mode : Game.Mode) (before : DrawReader) (n : ℕ) (r r' : Option Drawn) (after after' : DrawReader)
    → (drawn_of r ≡ Game.draw mode before.bytes.now before.place n) × (after ≡ moved_on mode before n)
    → (drawn_of r' ≡ Game.draw mode before.bytes.now before.place n) × (after' ≡ moved_on mode before n) → (r ≡ r') × (after ≡ after')
next_once mode before n r r' after after' k k' = (draw_once (Game.draw mode before.bytes.now before.place n) r r' k.0 k'.0, k.1 ∙ sym k'.1)
