use Rattle.std.proofs.Common.{⊎_elim}
use Rattle.anstyle_parse.specs.declared.state.definitions.State.TheVariants.{CsiEntry, CsiParam}
use Rattle.anstyle_parse.proofs.Streams.{CanTake-in}
use Rattle.anstyle_parse.proofs.parser.Parser.step_in_header.Goals as goal

pub step_out_of_line-requires : goal.step_out_of_line-requires
step_out_of_line-requires g c =
    let n = g.C.CharAccumulator in
    ⊎_elim
    (λ entry. CanTake-in n.takes n.taken c.args.self.now CsiEntry c.args.byte entry (λ reaches. reaches))
    (λ param. CanTake-in n.takes n.taken c.args.self.now CsiParam c.args.byte param (λ reaches. reaches))
    c.requires
