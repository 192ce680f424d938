use Rattle.std.proofs.Common.{inl}
use Rattle.anstyle_parse.proofs.parser.log.Parser+Utf8Parser.step_as_read.Goals as goal

pub take_bytes-requires : goal.take_bytes-requires
take_bytes-requires g c = inl (λ _ _ _. tt)

pub take_bytes-requires-then-is_in_ignored_string : goal.take_bytes-requires-then-is_in_ignored_string
take_bytes-requires-then-is_in_ignored_string g c = inl (λ _ _ _. tt)
