-- The front, and then the rest, character by character.
use Rattle.std.proofs.Common.{List, length, eqb-true, sym, ap, ◌∙◌, subst}
use Rattle.std.proofs.lemmas.List.{nil_from_length}
use Rattle.anstyle_parse.specs.Stream.Call.{Call}
use Rattle.anstyle_parse.specs.Stream.Items.{EachIs}
use Rattle.anstyle_parse.specs.Stream.Texts.{text_calls}
use Rattle.anstyle_parse.proofs.Bytes.Passing.{EachIs-parts}
use Rattle.html_urls.specs.Colon.{is_no_colon}
use Rattle.html_urls.specs.Linker.{Takes}
use Rattle.html_urls.specs.LinkerProof.{Takes-more}
use Rattle.html_urls.proofs.ClearLemmas.{text_calls-append}
use Rattle.html_urls.proofs.linking.Linking.take_piece.Goals as goal

pub take_front-requires-clause-empty : goal.take_front-requires-clause-empty
take_front-requires-clause-empty g c =
    sym c.as_slice.ensures ∙ nil_from_length c.as_slice.result.now (eqb-true (length c.as_slice.result.now) 0 (sym c.is_empty.ensures ∙ c.if-not-is_empty.false))

pub take_front-requires-clause-clear : goal.take_front-requires-clause-clear
take_front-requires-clause-clear g c =
    (EachIs-parts is_no_colon c.split_at_scheme.result.0.now c.split_at_scheme.result.1.now (subst (EachIs is_no_colon) c.split_at_scheme.ensures.joined c.requires.clear)).0

pub returns : goal.returns
returns g c =
    let front = c.split_at_scheme.result.0.now in
    let rest = c.split_at_scheme.result.1.now in
    let r = g.P.PerformText.receives in
    subst (λ (calls : List Call). Takes r c.args.self.now calls c.take_each-2.new.self)
    (sym (ap text_calls c.split_at_scheme.ensures.joined ∙ text_calls-append front rest c.split_at_scheme.ensures.utf8))
    (Takes-more r g.met.P.PerformText.follows.more c.args.self.now c.take_front.new.self c.take_each-2.new.self (text_calls front) (text_calls rest)
    c.take_front.ensures c.take_each-2.ensures)
