use Rattle.std.proofs.Common.{◌++◌, [], List, refl, subst, arith}
use Rattle.std.specs.List.{flat_map}
use Rattle.anstyle_parse.specs.Io.Output.{Adds}
use Rattle.anstyle_parse.proofs.Written.Output.{Adds-nil}
use Rattle.ansi_html.specs.declared.class.Class.{Class}
use Rattle.ansi_html.specs.Stylesheet.{rule, texts_at}
use Rattle.ansi_html.proofs.StylesheetLemmas.{rules_added, left_more, left_none}
use Rattle.ansi_html.proofs.stylesheet.put_texts.Goals as goal

pub loop-number-init : goal.loop-number-init
loop-number-init g c = record { done = []; whole = refl; added = Adds-nil g.W.Sink c.args.output.now }

pub loop-number-preserved : goal.loop-number-preserved
loop-number-preserved g c =
    let number = c.loop-number.number in
    let before = c.loop-number.invariant in
    record {
      done = before.done ++ texts_at number;
      whole = left_more texts_at 0 256 256 number before.done (omega arith) before.whole;
      added = rules_added g.W.Sink c.args.scheme before.done (texts_at number) c.args.output.now c.loop-number.output c.put_texts_at.new.output before.added c.put_texts_at.ensures;
    }

pub returns : goal.returns
returns g c =
    let before = c.loop-number.invariant in
    subst (λ (classes : List Class). Adds g.W.Sink (flat_map (rule c.args.scheme) classes) c.args.output.now c.loop-number.output)
    (left_none texts_at 0 256 256 c.loop-number.number before.done (omega arith) before.whole) before.added
