use Rattle.anstyle_parse.specs.declared.state.definitions.State.TheVariants.{DcsPassthrough}
use Rattle.anstyle_parse.proofs.Streams.{CanTake-in}
use Rattle.anstyle_parse.proofs.parser.Parser.step_after_puts.Goals as goal

pub step_out_of_line-requires : goal.step_out_of_line-requires
step_out_of_line-requires g c =
    CanTake-in g.C.CharAccumulator.takes g.C.CharAccumulator.taken c.args.self.now DcsPassthrough c.args.byte c.requires (λ reaches. reaches)
