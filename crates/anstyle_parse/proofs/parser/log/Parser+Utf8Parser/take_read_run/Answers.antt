use Rattle.std.proofs.Common.{sym, ◌∙◌}
use Rattle.anstyle_parse.proofs.parser.log.Parser+Utf8Parser.take_read_run.Goals as goal

pub take_whole_read_run-requires-clause-first : goal.take_whole_read_run-requires-clause-first
take_whole_read_run-requires-clause-first g c = sym c.has.ensures ∙ c.if-not-has.false
