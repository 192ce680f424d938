use Rattle.std.proofs.Common.{◌++◌, List, ℕ, [], ◌∷◌, ap, ◌∙◌, subst}
use Rattle.anstyle_parse.specs.Io.Output.{Adds}
use Rattle.anstyle_parse.proofs.Written.Output.{Adds-append}
use Rattle.parselog.specs.Lines.{hex_list, end_text, newline}
use Rattle.parselog.proofs.LineLemmas.{end_text-digits}
use Rattle.parselog.proofs.log.put_end.Goals as goal

pub returns : goal.returns
returns g c =
    let Q : List ℕ → Type 0 = λ t. Adds g.W.Sink t c.args.output.now c.put-2.new.self in
    let append = Adds-append g.W.Sink in
    let digits : List ℕ = 32 ∷ c.digit.result ∷ c.digit-2.result ∷ newline ∷ [] in
    subst Q
    (ap (λ t. hex_list c.args.intermediates.now ++ 32 ∷ (t ++ digits)) c.truth_text.ensures
    ∙ end_text-digits c.args.intermediates.now c.args.ignore c.from-n.result c.digit.result c.digit-2.result c.digit.ensures c.digit-2.ensures
    ∙ ap (λ n. end_text c.args.intermediates.now c.args.ignore n ++ newline ∷ []) c.from-n.ensures)
    (append _ _ c.args.output.now c.put_hex.new.output c.put-2.new.self c.put_hex.ensures
    (append _ _ c.put_hex.new.output c.put_byte.new.self c.put-2.new.self c.put_byte.ensures
    (append _ _ c.put_byte.new.self c.put.new.self c.put-2.new.self c.put.ensures c.put-2.ensures)))
