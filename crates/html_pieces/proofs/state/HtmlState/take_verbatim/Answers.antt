-- What goes to the room as it is, is its own HTML.
use Rattle.std.proofs.Common.{take, sym, ◌∙◌, subst, arith}
use Rattle.std.proofs.lemmas.Bool.{OnTrue_at}
use Rattle.std.proofs.lemmas.List.{length-take-le}
use Rattle.anstyle_parse.specs.Stream.Items.{EachIs}
use Rattle.anstyle_parse.proofs.Machine.Lanes.{EachIs-prefix, prefix_len-le}
use Rattle.ansi_html.specs.Verbatim.{is_verbatim}
use Rattle.html_pieces.specs.Feed.{Takes}
use Rattle.html_pieces.proofs.VerbatimLemmas.{Takes-verbatim}
use Rattle.html_pieces.proofs.state.HtmlState.take_verbatim.Goals as goal

pub returns-clause-taken : goal.returns-clause-taken
returns-clause-taken c =
    let state = c.args.self.now in
    let piece = c.args.piece.now in
    let room = c.args.room.now in
    let after = c.put_at_start.new.room in
    let taken = c.verbatim_length-taken.result in
    let within = prefix_len-le is_verbatim piece in
    let long = length-take-le taken piece (omega (arith, c.verbatim_length-taken.ensures, within)) in
    let verbatim = subst (λ n. EachIs is_verbatim (take n piece)) (sym c.verbatim_length-taken.ensures) (EachIs-prefix is_verbatim piece) in
    let takes = Takes-verbatim state (OnTrue_at c.if-not-is_in_text.false c.is_in_text.ensures) (take taken piece) verbatim room after
    (omega (arith, long, c.verbatim_length-taken.ensures, within, c.requires)) c.put_at_start.ensures.written in
    subst (λ n. Takes state state (take n piece) room after n) (sym (c.put_at_start.ensures.length ∙ long))
    (subst (λ n. Takes state state (take taken piece) room after n) long takes)
