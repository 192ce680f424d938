use Rattle.anstyle_parse.specs.Stream.Bytes.{is_parameter}
use Rattle.anstyle_parse.proofs.chunks.beyond_fields.Goals as goal

pub returns : goal.returns
unfolding is_parameter
returns c = c.outside.ensures
