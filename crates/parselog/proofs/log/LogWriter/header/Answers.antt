use Rattle.std.proofs.Common.{List, ℕ, [], ◌∷◌, sym, subst}
use Rattle.anstyle_parse.specs.Stream.Groups.{groups_text}
use Rattle.anstyle_parse.specs.Views.Params.{groups_shown}
use Rattle.anstyle_parse.specs.Io.Output.{Adds}
use Rattle.anstyle_parse.proofs.Written.Output.{Adds-append}
use Rattle.parselog.specs.Lines.{end_text, newline}
use Rattle.parselog.specs.Log.{output_of}
use Rattle.parselog.proofs.LineLemmas.{line_end}
use Rattle.parselog.proofs.log.LogWriter.header.Goals as goal

pub returns : goal.returns
returns g c =
    let old = output_of c.args.self.now in
    let last = c.put_end.new.output in
    let Q : List ℕ → Type 0 = λ t. Adds g.W.Sink t old last in
    let append = Adds-append g.W.Sink in
    subst Q
    (sym (line_end c.args.name.now 91 (groups_text (groups_shown c.args.params.now)) (93 ∷ 32 ∷ end_text c.args.intermediates.now c.args.ignore c.args.action) (newline ∷ [])))
    (append _ _ old c.put.new.self last c.put.ensures
    (append _ _ c.put.new.self c.put_byte.new.self last c.put_byte.ensures
    (append _ _ c.put_byte.new.self c.put_groups.new.self last c.put_groups.ensures
    (append _ _ c.put_groups.new.self c.put-2.new.self last c.put-2.ensures c.put_end.ensures))))
