-- Nothing, or a text that is handed on at once.
use Rattle.std.proofs.Common.{Bool, List, ℕ, sym, ap, ◌∙◌, subst}
use Rattle.std.proofs.lemmas.List.{nil_from_length}
use Rattle.std.proofs.lemmas.Str.{chars-nil}
use Rattle.html_urls.specs.Addresses.{is_of_word}
use Rattle.html_urls.specs.Linked.{prints, standing}
use Rattle.html_urls.specs.Linker.{standing_of, Takes}
use Rattle.html_urls.specs.LinkerProof.{Takes-none}
use Rattle.std.specs.Str.{chars}
use Rattle.html_urls.proofs.ClearLemmas.{front-taken}
use Rattle.html_urls.proofs.linking.Linking.take_front.Goals as goal

pub returns-in-Some : goal.returns-in-Some
returns-in-Some g c =
    let it = c.args.self.now in
    let last = c.in-Some.last.now in
    front-taken g.P.PerformText.receives it _ c.args.front.now c.in-Some.field-0-1.now last c.utf8.front (sym c.as_bytes.ensures.value ∙ c.in-Some.ensures.cases.0)
    c.requires.ends c.requires.clear c.requires.empty c.requires.unlinked
    (ap (λ (within : Bool). standing (standing_of it).held within it.is_linked) (c.is_of_word-self.ensures ∙ ap is_of_word c.from.ensures)) c.print_text.ensures

pub returns-in_default : goal.returns-in_default
returns-in_default g c =
    let it = c.args.self.now in
    let none = sym c.as_bytes.ensures.value ∙ nil_from_length c.as_bytes.result.now c.in_default.ensures.cases in
    subst (λ (cs : List ℕ). Takes g.P.PerformText.receives it (prints cs) it) (sym (ap chars none ∙ chars-nil))
    (Takes-none g.P.PerformText.receives g.met.P.PerformText.follows.none it)
