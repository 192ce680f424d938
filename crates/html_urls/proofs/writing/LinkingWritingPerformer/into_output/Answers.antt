-- What is held, and then the ending.
use Rattle.std.proofs.Common.{◌≡◌, ℕ, List, [], ap, ◌∙◌, subst, append-nil}
use Rattle.anstyle_parse.specs.Io.Output.{Adds}
use Rattle.anstyle_parse.proofs.Written.Output.{Adds-append}
use Rattle.html_urls.specs.Linked.{released}
use Rattle.html_urls.specs.Linker.{performer_in, standing_of}
use Rattle.html_urls.proofs.writing.LinkingWritingPerformer.into_output.Goals as goal

pub returns : goal.returns
returns g c =
    let m = g.met.P in
    let writes = g.P.WritingPerformer in
    let it = performer_in c.args.self in
    let then = performer_in c.release.new.self in
    let made = released (standing_of c.args.self).held in
    let received = c.release.ensures.received in
    let end = c.into_output.result in
    let text : writes.text_from it made ≡ g.P.Resumable.text_after it [] made = m.Resumable.goes_on.same_text it [] it (m.PerformText.follows.none it) made in
    let ending : writes.ending_from then [] ≡ writes.ending_from it made =
    m.Resumable.goes_on.same_ending it made then received [] ∙ ap (λ l. writes.ending_from it l) (append-nil made) in
    Adds-append g.W.Sink (g.P.Resumable.text_after it [] made) (writes.ending_from it made) (writes.output_in it) (writes.output_in then) end
    (subst (λ (t : List ℕ). Adds g.W.Sink t (writes.output_in it) (writes.output_in then)) text (m.WritingPerformer.adds it made then received))
    (subst (λ (t : List ℕ). Adds g.W.Sink t (writes.output_in then) end) ending c.into_output.ensures)
