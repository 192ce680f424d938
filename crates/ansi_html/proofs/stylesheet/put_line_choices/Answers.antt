use Rattle.std.proofs.Common.{◌++◌, [], List, refl, subst, arith}
use Rattle.std.specs.List.{flat_map}
use Rattle.anstyle_parse.specs.Io.Output.{Adds}
use Rattle.anstyle_parse.proofs.Written.Output.{Adds-nil}
use Rattle.ansi_html.specs.declared.class.Class.{Class}
use Rattle.ansi_html.specs.Stylesheet.{rule, lines_at}
use Rattle.ansi_html.proofs.StylesheetLemmas.{rules_added, left_more, left_none}
use Rattle.ansi_html.proofs.stylesheet.put_line_choices.Goals as goal

pub loop-choice-init : goal.loop-choice-init
loop-choice-init g c = record { done = []; whole = refl; added = Adds-nil g.W.Sink c.args.output.now }

pub loop-choice-preserved : goal.loop-choice-preserved
loop-choice-preserved g c =
    let number = c.loop-choice.choice in
    let before = c.loop-choice.invariant in
    record {
      done = before.done ++ lines_at number;
      whole = left_more lines_at 1 15 16 number before.done (omega arith) before.whole;
      added = rules_added g.W.Sink c.args.scheme before.done (lines_at number) c.args.output.now c.loop-choice.output c.put_rules.new.output before.added
          (subst (λ (classes : List Class). Adds g.W.Sink (flat_map (rule c.args.scheme) classes) c.loop-choice.output c.put_rules.new.output) c.lines_at.ensures c.put_rules.ensures);
    }

pub returns : goal.returns
returns g c =
    let before = c.loop-choice.invariant in
    subst (λ (classes : List Class). Adds g.W.Sink (flat_map (rule c.args.scheme) classes) c.args.output.now c.loop-choice.output)
    (left_none lines_at 1 15 16 c.loop-choice.choice before.done (omega arith) before.whole) before.added
