-- `mbf_lines::put_refusal`: the two digits and the line feed stand one after the other. Assumes nothing.
use Rattle.refusals.specs.Names.{named}
use Rattle.mbf_lines.proofs.Outputs.{refusal_there}
use Rattle.mbf_lines.proofs.put_refusal.Goals as goal

pub returns : goal.returns
returns c =
    refusal_there (named c.args.refusal) _ c.args.out.now c.put_byte.new.out c.requires c.number_of-number.ensures c.put_byte.ensures
