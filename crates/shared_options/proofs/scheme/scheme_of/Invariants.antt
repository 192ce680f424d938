-- The scheme so far is that of the words so far.
use Rattle.std.proofs.Common.{◌≡◌, take, map, string_bytes}
use Rattle.shared_options.specs.Scheme.{scheme_of}
use Rattle.shared_options.proofs.scheme.scheme_of.Given as goal

abbrev pub invariant-loop-word : goal.invariant-loop-word
invariant-loop-word l = record {
  so_far : l.scheme ≡ scheme_of (map string_bytes (take l.word-index l.words));
}
