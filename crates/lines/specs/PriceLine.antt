-- A price line (RULES 9.3): a byte 00 or the refusal, then 3BV, greedy and openings-first clicks, two bytes each, high first. Assumes nothing.
use Rattle.std.specs.Prelude.{ℕ, ◌%◌, List, ◌∷◌, ◌++◌, Result, Ok, Err}
use Rattle.game.specs.Lists.{concat_map}
use Rattle.game.specs.Calls.{number_of}
use Rattle.refusals.specs.Names.{named}
use Rattle.refusals.specs.declared.Refusal.{Refusal}
use Rattle.hex_digits.specs.Hex.{byte_digits, two_bytes}
use Rattle.lines.specs.declared.price.Price as Struct

-- 00 or the refusal, then 3BV, greedy and openings-first clicks
pub record Price : Type 0 where
  pub number : ℕ
  pub units : ℕ
  pub greedy : ℕ
  pub openings-first : ℕ

-- the fourteen digits that are printed
unfoldable pub price_digits : Price → List ℕ
price_digits p =
    concat_map byte_digits (p.number % 256 ∷ two_bytes p.units ++ two_bytes p.greedy ++ two_bytes p.openings-first)

-- the number and the price that a struct holds
abbrev pub figures : ℕ → Struct.Price → Price
figures number p =
    record {
      number = number;
      units = p.units;
      greedy = p.greedy;
      openings-first = p.openings_first;
    }

-- what a line is priced at: 00 and its price, or the refusal's number and zeros
abbrev pub held_price : Result Struct.Price Refusal → Price
held_price (Ok p) = figures 0 p
held_price (Err f) = figures (number_of (named f)) (record { units = 0; greedy = 0; openings_first = 0 })
