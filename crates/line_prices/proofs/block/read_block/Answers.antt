-- `line_prices::block::read_block`: the desk after so many bytes is what they come to. Assumes nothing.
use Prim.Native.Nat.{◌≤◌, ◌<◌}
use native.Mathlib.Omega.{arith}
use mathlib.Core.Path.{ap, refl, sym, ◌∙◌}
use lib.ListN.{get_or, length}
use lib.Seq.{take_all}
use Rattle.line_prices.specs.Blocks.{Desk}
use Rattle.line_prices.specs.Bytes.{block_read, byte_read, desk_at, desk_of}
use Rattle.line_prices.proofs.Bytes.{one_more, read_held, read_out, read_room}
use Rattle.line_prices.proofs.block.read_block.Goals as goal

pub loop-byte-init : goal.loop-byte-init
loop-byte-init c = (omega arith, refl)

pub read_byte-place-requires : goal.read_byte-place-requires
read_byte-place-requires c =
    let l = c.loop-byte in
    let r = read_room c.args.block.now (desk_of c.args.held.now c.args.count c.args.out.now) c.requires l.byte-index l.invariant.0 (desk_at l.held l.place l.out) l.invariant.1 in
    record { held_room = r.held_room; few = r.few; out_room = omega (arith, r.out_room) }

pub loop-byte-preserved : goal.loop-byte-preserved
loop-byte-preserved c =
    let l = c.loop-byte in
    let b = c.args.block.now in
    let more : l.byte-index < length b = omega arith in
    (omega arith, c.read_byte-place.ensures ∙ ap (λ (d : Desk). byte_read d (get_or b l.byte-index 0)) l.invariant.1 ∙ sym (one_more b l.byte-index (desk_of c.args.held.now c.args.count c.args.out.now) more))

pub shape_of-held : goal.shape_of-held
shape_of-held c =
    let l = c.loop-byte in
    read_held c.args.block.now (desk_of c.args.held.now c.args.count c.args.out.now) c.requires l.byte-index l.invariant.0 (desk_at l.held l.place l.out) l.invariant.1

pub shape_of-out : goal.shape_of-out
shape_of-out c =
    let l = c.loop-byte in
    read_out c.args.block.now (desk_of c.args.held.now c.args.count c.args.out.now) c.requires l.byte-index l.invariant.0 (desk_at l.held l.place l.out) l.invariant.1

pub returns : goal.returns
returns c =
    let l = c.loop-byte in
    let all : length c.args.block.now ≤ l.byte-index = omega arith in
    l.invariant.1 ∙ ap (block_read (desk_of c.args.held.now c.args.count c.args.out.now)) (take_all l.byte-index c.args.block.now all)
