use Rattle.std.proofs.Common.{◌++◌, ◌+◌, [], List, ℕ, get_or, drop, refl, sym, ap, ◌∙◌, subst, append_assoc, append-nil}
use Rattle.std.specs.List.{flat_map}
use Rattle.std.proofs.lemmas.List.{at_drop_more, drop_all}
use Rattle.anstyle_parse.specs.Io.Output.{Adds}
use Rattle.anstyle_parse.proofs.Written.Output.{Adds-nil, Adds-append}
use Rattle.ansi_html.specs.declared.class.Class.{Class}
use Rattle.ansi_html.specs.declared.class.Class.TheVariants.{Link}
use Rattle.ansi_html.specs.Stylesheet.{rule}
use Rattle.ansi_html.proofs.stylesheet.put_rules.Goals as goal

pub loop-class-init : goal.loop-class-init
loop-class-init g c = record { done = []; whole = refl; added = Adds-nil g.W.Sink c.args.output.now }

pub loop-class-preserved : goal.loop-class-preserved
loop-class-preserved g c =
    let classes = c.args.classes.now in
    let i = c.loop-class.class-index in
    let before = c.loop-class.invariant in
    let rules : List Class → List ℕ = λ cs. flat_map (rule c.args.scheme) cs in
    let text = rule c.args.scheme (get_or classes i Link) in
    record {
      done = before.done ++ text;
      whole = append_assoc before.done text (rules (drop (i + 1) classes))
          ∙ ap (λ l. before.done ++ l) (sym (at_drop_more rules classes i Link c.loop-class-test.true)) ∙ before.whole;
      added = Adds-append g.W.Sink before.done text c.args.output.now c.loop-class.output c.put_rule.new.output before.added c.put_rule.ensures;
    }

pub returns : goal.returns
returns g c =
    let classes = c.args.classes.now in
    let before = c.loop-class.invariant in
    let rules : List Class → List ℕ = λ cs. flat_map (rule c.args.scheme) cs in
    subst (λ (t : List ℕ). Adds g.W.Sink t c.args.output.now c.loop-class.output)
    (sym (append-nil before.done) ∙ ap (λ cs. before.done ++ rules cs) (sym (drop_all c.loop-class.class-index classes c.loop-class-test.false)) ∙ before.whole) before.added
