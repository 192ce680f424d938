-- One number more is written, after its separator.
use Rattle.std.proofs.Common.{◌∷◌, [], take, map, get_or, subst, sym}
use Rattle.std.specs.Prelude.{decimal}
use Rattle.anstyle_parse.specs.Stream.Bytes.{semicolon}
use Rattle.anstyle_parse.specs.Io.Output.{Adds}
use Rattle.anstyle_parse.proofs.Written.Output.{Adds-append3}
use Rattle.ansi_style.specs.Codes.{one, more_text}
use Rattle.ansi_style.proofs.CodesLemmas.{more_text-number}
use Rattle.ansi_answers.proofs.rendition.put_numbers.Goals as goal

pub loop-number-preserved : goal.loop-number-preserved
loop-number-preserved g c =
    let numbers = c.args.numbers.now in
    let i = c.loop-number.number-index in
    subst (λ text. Adds g.W.Sink text c.args.output.now c.put_decimal.new.self)
    (sym (more_text-number numbers i c.loop-number-test.true))
    (Adds-append3 g.W.Sink (more_text (map one (take i numbers))) (semicolon ∷ []) (decimal (get_or numbers i 0))
    c.args.output.now c.loop-number.output c.put_byte.new.self c.put_decimal.new.self c.loop-number.invariant c.put_byte.ensures c.put_decimal.ensures)
