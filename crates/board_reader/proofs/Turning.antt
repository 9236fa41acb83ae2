-- With what is kept so far no call of the reader is refused, and what it left is what the turn is to hand over and to keep. Assumes nothing.
use Prim.Native.Nat.{ℕ, ◌≤◌}
use native.Mathlib.Omega.{arith}
use mathlib.Core.Path.{◌≡◌, refl, ap, subst, sym, ◌∙◌}
use mathlib.Core.List.{List, [], ◌∷◌, ◌++◌, append-nil}
use mathlib.Core.Option.{none}
use lib.ListN.{drop, length, length-append, length-replicate, take}
use Rattle.game.specs.Lists.{concat_map}
use Rattle.game.specs.Calls.{Refusal, gives, refuses}
use Rattle.game.proofs.Members.{concat_map_append}
use Rattle.line_price.specs.Prices.{answer_line}
use Rattle.line_prices.specs.Blocks.{Desk, block_call, cut_from, desk_after, end_call, last_line, unless_desk}
use Rattle.line_prices.specs.Answers.{KeepsDesk}
use Rattle.line_prices.specs.Sessions.{Fits, KeptOf, joined}
use Rattle.line_prices.proofs.Desks.{Keeps}
use Rattle.line_prices.proofs.Sessions.{block_comes, end_comes, kept_keeps, kept_on, kept_room, left, left_passed, passed_not_refused, said_first}
use Rattle.board_reader.specs.Turns.{Sofar, Turns, cut_on, kept_after, nothing_kept, turn_of}
use Rattle.inputs.specs.Reads.{got_of}
use Rattle.inputs.specs.declared.Got.{Got}
use Rattle.inputs.specs.declared.Got.TheVariants as Reads
use Rattle.board_reader.specs.declared.PartLine.{PartLine}
use Rattle.board_reader.specs.declared.Turn.{Turn}

-- nothing is kept before anything has been read
pub nothing_sofar : Sofar nothing_kept
nothing_sofar = record { blocks = []; keeps = record { held_is = refl; count_is = refl } }

-- what a call left: the answers to lines, at the start of what is to be printed, and what is kept
pub record Left (lines : List (List ℕ)) (next : PartLine) (held out : List ℕ) (count written : ℕ) : Type 0 where
  pub inside : written ≤ length out
  pub says : take written out ≡ concat_map answer_line lines
  pub keeps : ◌≡◌ {A = PartLine} (record { bytes = held; count = count }) next

-- a desk with the answers to lines at the start of what is to be printed
desk_left : (lines : List (List ℕ)) (held out held' out' : List ℕ) (n count written : ℕ) → let said = concat_map answer_line lines in
    left held' count out' written ≡ record { held = held; count = n; out = said ++ drop (length said) out; written = length said }
    → Left lines (record { bytes = held; count = n }) held' out' count written
desk_left lines held out held' out' n count written e =
    let said = concat_map answer_line lines in
    let w : written ≡ length said = ap (λ (d : Desk). d.written) e in
    let o : length out' ≡ length (said ++ drop (length said) out) = ap (λ (d : Desk). length d.out) e in
    record {
      inside = omega (arith, w, o, length-append said (drop (length said) out));
      says = ap (λ (d : Desk). take d.written d.out) e ∙ said_first lines out;
      keeps = ap (λ (d : Desk). record { bytes = d.held; count = d.count }) e;
    }

module _ (kept : PartLine) (s : Sofar kept) where
  before_room : 517 ≤ length nothing_kept.bytes
  before_room = omega (arith, length-replicate {A = ℕ} 517 0)

  room : 517 ≤ length kept.bytes
  room = omega (arith, before_room, kept_room (joined s.blocks) nothing_kept.bytes kept.bytes kept.count s.keeps before_room)

  keeps : Keeps (cut_from [] (joined s.blocks)).goes-on kept.bytes kept.count
  keeps = kept_keeps (joined s.blocks) nothing_kept.bytes kept.bytes kept.count s.keeps before_room

  -- one block more
  pub sofar_on : (block : List ℕ) → Sofar (kept_after kept block)
  sofar_on block =
      record {
        blocks = s.blocks ++ block ∷ [];
        keeps =
            subst (λ (input : List ℕ). KeptOf input nothing_kept.bytes (kept_after kept block).bytes (kept_after kept block).count)
            (sym (concat_map_append (λ (b : List ℕ). b) s.blocks (block ∷ []) ∙ ap (λ (l : List ℕ). joined s.blocks ++ l) (append-nil block)))
            (kept_on (joined s.blocks) nothing_kept.bytes kept.bytes kept.count s.keeps before_room block);
      }

  module _ (block out : List ℕ) (fits : Fits out block) where
    came : unless_desk none kept.bytes out (desk_after (cut_on kept block) kept.bytes out) ≡ block_call block kept.bytes kept.count out
    came = block_comes (cut_from [] (joined s.blocks)).goes-on kept.bytes kept.count keeps room block out fits

    pub block_passed : (held' out' : List ℕ) (f : Refusal) → KeepsDesk (block_call block kept.bytes kept.count out) (refuses f) held' out' → ⊥
    block_passed held' out' f k = passed_not_refused kept.bytes out (desk_after (cut_on kept block) kept.bytes out) (block_call block kept.bytes kept.count out) came held' out' f k

    pub block_left : (held' out' : List ℕ) (count written : ℕ) → KeepsDesk (block_call block kept.bytes kept.count out) (gives (count ∷ written ∷ [])) held' out'
        → Left (cut_on kept block).ended (kept_after kept block) held' out' count written
    block_left held' out' count written k =
        let d = desk_after (cut_on kept block) kept.bytes out in
        desk_left (cut_on kept block).ended d.held out held' out' d.count count written (left_passed kept.bytes out d (block_call block kept.bytes kept.count out) came held' out' count written k)

  module _ (out : List ℕ) (fits : 15 ≤ length out) where
    abbrev pub ended : Desk
    ended = desk_after (record { ended = last_line (take kept.count kept.bytes); goes-on = [] }) kept.bytes out

    end_came : unless_desk none kept.bytes out ended ≡ end_call kept.bytes kept.count out
    end_came = end_comes (cut_from [] (joined s.blocks)).goes-on kept.bytes kept.count keeps room out fits

    pub end_passed : (held' out' : List ℕ) (f : Refusal) → KeepsDesk (end_call kept.bytes kept.count out) (refuses f) held' out' → ⊥
    end_passed held' out' f k = passed_not_refused kept.bytes out ended (end_call kept.bytes kept.count out) end_came held' out' f k

    pub end_left : (held' out' : List ℕ) (count written : ℕ) → KeepsDesk (end_call kept.bytes kept.count out) (gives (count ∷ written ∷ [])) held' out'
        → Left (last_line (take kept.count kept.bytes)) (record { bytes = ended.held; count = ended.count }) held' out' count written
    end_left held' out' count written k =
        desk_left (last_line (take kept.count kept.bytes)) ended.held out held' out' ended.count count written (left_passed kept.bytes out ended (end_call kept.bytes kept.count out) end_came held' out' count written k)

-- after a turn too there are blocks such that what is kept is what they come to
pub turn_sofar : (kept : PartLine) → Sofar kept → (block : List ℕ) (turn : Turn) → Turns kept block turn → Sofar turn.kept
turn_sofar kept s block turn t = subst (λ (x : Turn). Sofar x.kept) (sym t.comes) (go (got_of t.got t.error (length block)))
  where
    go : (g : Got) → Sofar (turn_of kept g block t.written).kept
    go (Reads.Bytes n) = sofar_on kept s (take n block)
    go Reads.End = s
    go Reads.Interrupted = s
    go Reads.Failed = s
