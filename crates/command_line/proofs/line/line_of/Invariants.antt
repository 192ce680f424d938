-- What the words so far gave, with what the others will give, is what all give.
use Rattle.std.proofs.Common.{◌≡◌, ◌++◌, map, string_bytes, drop}
use Rattle.std.specs.Str.{IsUtf8}
use Rattle.command_line.specs.declared.line.Place.TheVariants.{Words}
use Rattle.command_line.specs.Options.{texts}
use Rattle.command_line.specs.Line.{options_in, options_from, files_in}
use Rattle.command_line.proofs.line.line_of.Given as goal

abbrev pub invariant-loop-word : goal.invariant-loop-word
invariant-loop-word l = record {
  text : IsUtf8 l.before;
  options : map string_bytes l.line.options.items ++ options_from (texts l.options) l.place l.before (map string_bytes (drop l.word-index l.words))
      ≡ options_in (texts l.options) Words (map string_bytes l.words);
  files : map string_bytes l.line.files.items ++ files_in (texts l.options) l.place (map string_bytes (drop l.word-index l.words))
      ≡ files_in (texts l.options) Words (map string_bytes l.words);
}
