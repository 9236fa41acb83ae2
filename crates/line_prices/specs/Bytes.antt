-- One byte of a block at a time: what the functions that read them promise each other. Assumes nothing.
use Rattle.std.specs.Prelude.{ℕ, suc, ◌+◌, ◌*◌, ◌≤◌, false, true, List, [], ◌∷◌, eqb, ltb, length, set, take}
use Rattle.hex_digits.specs.Hex.{put_digits}
use Rattle.line_price.specs.Prices.{answer_line}
use Rattle.line_prices.specs.Blocks.{Desk}
use Rattle.line_prices.specs.declared.block.Place.{Place}

-- a desk at which nothing has been printed yet
abbrev pub desk_of : List ℕ → ℕ → List ℕ → Desk
desk_of held count out = record { held = held; count = count; out = out; written = 0 }

-- the desk of a place in what is kept and in what is to be printed
abbrev pub desk_at : List ℕ → Place → List ℕ → Desk
desk_at held p out = record { held = held; count = p.count; out = out; written = p.written }

-- room for what is kept of a line, and for n lines to be printed
pub record Room (d : Desk) (n : ℕ) : Type 0 where
  pub held_room : 517 ≤ length d.held
  pub few : d.count ≤ 517
  pub out_room : d.written + 15 * n ≤ length d.out

-- one byte read: a line feed ends the line, which is answered; of a line's bytes the first 517 are kept
abbrev pub byte_read : Desk → ℕ → Desk
byte_read d b =
    elim (eqb b 10) [
      | true ↦
          record {
            held = d.held;
            count = 0;
            out = put_digits d.written (answer_line (take d.count d.held)) d.out;
            written = d.written + 15;
          }
      | false ↦
          elim (ltb d.count 517) [
            | true ↦ record { held = set d.held d.count b; count = suc d.count; out = d.out; written = d.written }
            | false ↦ d
          ]
    ]

-- a block read, byte by byte
abbrev pub block_read : Desk → List ℕ → Desk
block_read d [] = d
block_read d (b ∷ bs) = block_read (byte_read d b) bs
