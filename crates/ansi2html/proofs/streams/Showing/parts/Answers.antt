-- The size is that of the whole stream.
use Rattle.std.proofs.Common.{sym, ap, ◌∙◌}
use Rattle.screen_text.specs.Recording.{screen_for}
use Rattle.ansi2html.specs.Streams.{size_of}
use Rattle.ansi2html.proofs.streams.Showing.parts.Goals as goal

pub returns : goal.returns
returns c = λ given begins.
    let (rest, read, enough) = begins in
    c.in_ok-screen.ensures rest enough ∙ ap (λ bytes. screen_for (size_of c.args.self.now) bytes) (sym read)
