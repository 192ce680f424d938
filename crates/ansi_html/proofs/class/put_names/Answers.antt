-- The name of one class more is done, with the space before it.
use Rattle.std.proofs.Common.{◌≡◌, ◌++◌, ◌+◌, [], ◌∷◌, List, ℕ, Bool, true, false, codes, get_or, drop, map, refl, sym, ap, ◌∙◌, subst}
use Rattle.std.specs.Prelude.{not, Option, None, option_to_list, if◌then◌else◌}
use Rattle.std.specs.List.{flat_map}
use Rattle.std.proofs.lemmas.List.{at_drop_more}
use Rattle.anstyle_parse.specs.declared.io.output.Output.{Output}
use Rattle.anstyle_parse.specs.Io.Output.{Adds}
use Rattle.anstyle_parse.proofs.Lists.Joins.{joined_rest, joined_rest-more}
use Rattle.anstyle_parse.proofs.Written.Output.{Adds-nil, Adds-append3}
use Rattle.ansi_html.specs.declared.class.Class.{Class}
use Rattle.ansi_html.specs.Css.{text_if}
use Rattle.ansi_html.specs.Classes.{class_name, class_names}
use Rattle.ansi_html.proofs.class.put_names.Goals as goal
use Rattle.ansi_html.proofs.class.put_names.Goals.{in-Some, in_default}

separator : (is_first : Bool) → text_if (not is_first) (codes " ") ≡ (if is_first then [] else 0x20 ∷ [])
separator true = refl
separator false = refl

pub loop-class-init : goal.loop-class-init
loop-class-init g c = record { done = []; whole = refl; added = Adds-nil g.W.Sink c.args.output.now }

pub loop-class-preserved : goal.loop-class-preserved
loop-class-preserved g c =
    let classes = c.args.classes.now in
    let i = c.loop-class.class-index in
    let before = c.loop-class.invariant in
    let is_first = c.loop-class.is_first in
    let there : List (Option Class) → List Class = λ cs. flat_map option_to_list cs in
    let left = there (drop i classes) in
    let rest = there (drop (i + 1) classes) in
    let next : left ≡ option_to_list (get_or classes i None) ++ rest = at_drop_more there classes i None c.loop-class-test.true in
    elim c.match-class.branch [
      | in-Some w ↦
          (let name = class_name w.in-Some.class in
          let done = (before.done ++ (if is_first then [] else 0x20 ∷ [])) ++ name in
          record {
            done = done;
            whole = ap (λ (first : Bool). done ++ joined_rest first 0x20 (map class_name rest)) w.is_first-is
                ∙ joined_rest-more before.done (class_names (there classes)) is_first 0x20 name (map class_name left) (map class_name rest)
                (ap (map class_name) (next ∙ ap (λ (it : Option Class). option_to_list it ++ rest) w.in-Some.is)) before.whole;
            added = subst (λ (output : Output g.row.W.Denot). Adds g.W.Sink done c.args.output.now output) (sym w.output-is)
                (Adds-append3 g.W.Sink before.done (if is_first then [] else 0x20 ∷ []) name
                c.args.output.now c.loop-class.output w.put_if.new.output w.put_name.new.output before.added
                (subst (λ (t : List ℕ). Adds g.W.Sink t c.loop-class.output w.put_if.new.output) (separator is_first) w.put_if.ensures) w.put_name.ensures);
          })
      | in_default w ↦
          record {
            done = before.done;
            whole = ap (λ (first : Bool). before.done ++ joined_rest first 0x20 (map class_name rest)) w.is_first-is
                ∙ ap (λ l. before.done ++ joined_rest is_first 0x20 (map class_name l)) (sym (next ∙ ap (λ (it : Option Class). option_to_list it ++ rest) w.in_default.is))
                ∙ before.whole;
            added = subst (λ (output : Output g.row.W.Denot). Adds g.W.Sink before.done c.args.output.now output) (sym w.output-is) before.added;
          }
    ]
