-- `inputs::read_beginning`: where reading stops, by what the last read left. Assumes nothing.
use Rattle.std.proofs.Common.{◌+◌, ◌≤◌, ◌≡◌, ℕ, Bool, false, List, length, take, ap, subst, sym, ◌∙◌, arith}
use Rattle.inputs.specs.Beginnings.{ReadOn, line_ends, room_for}
use Rattle.inputs.specs.Reads.{bytes_in}
use Rattle.inputs.specs.declared.Got.{Got}
use Rattle.inputs.proofs.Reading.{bytes_inside}
use Rattle.inputs.proofs.Standings.{stops_there}
use Rattle.inputs.proofs.read_beginning.Goals as goal

-- what a read leaves: what came has room in the run, and the bytes before it are free of a line feed still
record Left (line : Bool) (after : List ℕ) (count : ℕ) (got : Got) : Type 0 where
  pub few : bytes_in got ≤ 512
  pub fits : count + bytes_in got ≤ length after
  pub none : line_ends line (take count after) ≡ false

left_by : (line : Bool) (before after : List ℕ) (count : ℕ) (got : Got) → ReadOn count before after got → length after ≡ length before → count ≤ length before → line_ends line (take count before) ≡ false → Left line after count got
left_by line before after count got came long below none =
    let room = room_for count (length before) in
    let inside : bytes_in got ≤ room_for count (length before) = subst (λ (g : Got). bytes_in g ≤ room_for count (length before)) (sym came.comes) (bytes_inside came.answer came.error (room_for count (length before))) in
    record {
      few = omega arith;
      fits = omega arith;
      none = ap (line_ends line) came.stays ∙ none;
    }

pub returns-in-All : goal.returns-in-All
returns-in-All c =
    let l = c.loop in
    let r = c.read_some-came in
    let d = left_by c.args.line l.held r.new.held l.count r.result r.ensures r.auto.held l.invariant.in_range l.invariant.none in
    stops_there c.args.line r.new.held l.count d.none r.result d.fits d.few c.in-All.n (sym c.standing_of.ensures ∙ c.in-All.is)
