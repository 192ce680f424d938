-- What strip_suffix answers is what stands before the =.
use Rattle.std.proofs.Common.{◌∙◌, arith}
use Rattle.std.specs.Prelude.{None, Some}
use Rattle.std.proofs.lemmas.Str.Pattern.{strip_suffix_char}
use Rattle.command_line.proofs.WordLemmas.{valued-some, valued-none}
use Rattle.command_line.proofs.options.is_valued.Goals as goal

pub returns-in-Some : goal.returns-in-Some
returns-in-Some c =
    let name = c.in-Some.name in
    c.eq.ensures
    ∙ valued-some c.args.word.now c.args.option.now name.now (strip_suffix_char 0x3D c.args.option.now (Some name) c.in-Some.ensures.cases (omega arith))

pub returns-in-None : goal.returns-in-None
returns-in-None c =
    valued-none c.args.word.now c.args.option.now (strip_suffix_char 0x3D c.args.option.now None c.in-None.ensures.cases (omega arith))
