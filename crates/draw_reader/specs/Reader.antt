-- A reader of draw bytes (RULES 5.4), and where it stands after a draw. Assumes nothing.
use Rattle.std.specs.Prelude.{ℕ}
use Rattle.std.proofs.Math.Option.{Option, none, some}
use Rattle.game.specs.Draws.{Drawn, Mode, draw}
use Rattle.draw_reader.specs.declared.DrawReader.{DrawReader}

-- the place after a draw: its next place, or where it was if the bytes were short
abbrev pub place_after : Option Drawn → ℕ → ℕ
place_after none place = place
place_after (some d) place = d.next

-- the reader after a draw among n in a mode: the same bytes, at the place after it
abbrev pub moved_on : Mode → DrawReader → ℕ → DrawReader
moved_on mode reader n = record { bytes = reader.bytes; place = place_after (draw mode reader.bytes.now reader.place n) reader.place }
