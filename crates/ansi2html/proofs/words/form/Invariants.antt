-- The form so far is that of the words so far.
use Rattle.std.proofs.Common.{◌≡◌, take, map, string_bytes}
use Rattle.ansi2html.specs.Words.{form_of}
use Rattle.ansi2html.proofs.words.form.Given as goal

abbrev pub invariant-loop-word : goal.invariant-loop-word
invariant-loop-word l = record {
  so_far : l.form ≡ form_of (map string_bytes (take l.word-index l.words));
}
