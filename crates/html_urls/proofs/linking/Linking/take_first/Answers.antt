-- An address begins, or the character is handed on.
use Rattle.std.proofs.Common.{Bool, ℕ, List, [], ◌∷◌, sym, ap, ◌∙◌, subst}
use Rattle.std.specs.Prelude.{if◌then◌else◌}
use Rattle.anstyle_parse.specs.Stream.Call.{print}
use Rattle.html_urls.specs.Linked.{standing}
use Rattle.html_urls.specs.Linker.{performer_in, standing_of}
use Rattle.html_urls.proofs.linking.Linking.take_first.Goals as goal

pub returns-then-begins : goal.returns-then-begins
returns-then-begins g c =
    let it = c.args.self.now in
    let b = c.args.c in
    let starts = sym c.begins.ensures ∙ c.if-begins.true in
    record {
      standing = ap (λ (held : List ℕ). standing held it.is_within it.is_linked)
          (c.begin.ensures ∙ sym (ap (λ (t : Bool). if t then b ∷ [] else (standing_of it).held) starts));
      received = subst (λ (t : Bool). g.P.PerformText.receives (performer_in it) (if t then [] else print b ∷ []) (performer_in it)) (sym starts)
          (g.met.P.PerformText.follows.none (performer_in it));
    }

pub returns-else-begins : goal.returns-else-begins
returns-else-begins g c =
    let it = c.args.self.now in
    let b = c.args.c in
    let starts = sym c.begins.ensures ∙ c.if-begins.false in
    record {
      standing = sym (ap (λ (t : Bool). standing (if t then b ∷ [] else (standing_of it).held) it.is_within it.is_linked) starts);
      received = subst (λ (t : Bool). g.P.PerformText.receives (performer_in it) (if t then [] else print b ∷ []) c.print.new.self) (sym starts)
          (g.met.P.PerformText.follows.one (performer_in it) (print b) c.print.new.self c.print.ensures);
    }
