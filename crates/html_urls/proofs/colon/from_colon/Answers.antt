-- Each byte that is passed is no colon.
use Rattle.std.proofs.Common.{◌++◌, ◌∷◌, [], ap, sym, ◌∙◌, append_assoc}
use Rattle.std.proofs.lemmas.Bool.{ne_eqb, not_from_false}
use Rattle.std.specs.Prelude.{◌==◌}
use Rattle.anstyle_parse.proofs.Bytes.Passing.{EachIs-push}
use Rattle.html_urls.specs.Colon.{is_no_colon}
use Rattle.html_urls.proofs.colon.from_colon.Goals as goal

pub bytes-preserved : goal.bytes-preserved
bytes-preserved c =
    let first = c.in-Some.first.now in
    let (passed, joined, before) = c.bytes.invariant in (
      passed ++ first ∷ [],
      joined ∙ ap (λ l. passed ++ l) c.in-Some.ensures.cases.0 ∙ sym (append_assoc passed (first ∷ []) c.in-Some.behind.now),
      EachIs-push is_no_colon passed first before (not_from_false (first == 0x3A) (ne_eqb first 0x3A c.if-first-eq-COLON.false)),
    )
