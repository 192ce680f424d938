use Rattle.std.proofs.Common.{◌++◌, [], ◌∷◌}
use Rattle.std.specs.List.{flat_map, range_with_len}
use Rattle.ansi_html.specs.declared.class.Class.TheVariants.{Reversed, Bold, Italic}
use Rattle.ansi_html.specs.Stylesheet.{texts_at, ground_at, lines_at, first_classes, last_classes, vocabulary, stylesheet}
use Rattle.ansi_html.proofs.StylesheetLemmas.{rules_added}
use Rattle.ansi_html.proofs.stylesheet.put_all.Goals as goal

pub returns : goal.returns
unfolding vocabulary stylesheet
returns g c =
    let add = rules_added g.W.Sink c.args.scheme in
    let end = c.put_rules-4.new.output in
    let choices = flat_map lines_at (range_with_len 1 15) in
    let grounds = flat_map ground_at (range_with_len 0 256) in
    let behind_choices = choices ++ last_classes in
    let behind_grounds = Bold ∷ Italic ∷ behind_choices in
    let behind_reversed = grounds ++ behind_grounds in
    let behind_texts = Reversed ∷ behind_reversed in
    add first_classes (flat_map texts_at (range_with_len 0 256) ++ behind_texts) c.args.output.now c.put_rules.new.output end c.put_rules.ensures
    (add (flat_map texts_at (range_with_len 0 256)) behind_texts c.put_rules.new.output c.put_texts.new.output end c.put_texts.ensures
    (add (Reversed ∷ []) behind_reversed c.put_texts.new.output c.put_rules-2.new.output end c.put_rules-2.ensures
    (add grounds behind_grounds c.put_rules-2.new.output c.put_grounds.new.output end c.put_grounds.ensures
    (add (Bold ∷ Italic ∷ []) behind_choices c.put_grounds.new.output c.put_rules-3.new.output end c.put_rules-3.ensures
    (add choices last_classes c.put_rules-3.new.output c.put_line_choices.new.output end c.put_line_choices.ensures c.put_rules-4.ensures)))))
