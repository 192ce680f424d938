-- What the makers of performers write.
use Rattle.std.specs.Prelude.{ℕ, Bool, List}
use Rattle.anstyle_parse.specs.Stream.Call.{Call}
use Rattle.ansi_html.specs.declared.scheme.Styling.{Styling}
use Rattle.ansi_html.specs.declared.performer.HtmlWriter.{HtmlWriter}
use Rattle.ansi_html.specs.declared.lines.LinesWriter.{LinesWriter}
use Rattle.ansi_html.specs.Writer as writer
use Rattle.ansi_html.specs.Liner as liner
use Rattle.ansi_html.specs.declared.blocks.BlocksWriter.{BlocksWriter}
use Rattle.ansi_html.specs.Blocker as blocker
use Rattle.html_urls.specs.declared.linking.Linking.{Linking}
use Rattle.html_urls.specs.Linker.{text_from, ending_from}
use Rattle.html_urls.specs.Resumed.{html_after, lined_after, blocked_after}
use Rattle.screen_text.specs.declared.recording.ShownSize.{ShownSize}
use Rattle.ansi2html.specs.declared.streams.Blocking.{Blocking}
use Rattle.ansi2html.specs.declared.streams.BlockingUrls.{BlockingUrls}
use Rattle.ansi2html.specs.declared.streams.Converting.{Converting}
use Rattle.ansi2html.specs.declared.streams.ConvertingUrls.{ConvertingUrls}
use Rattle.ansi2html.specs.declared.streams.Lining.{Lining}
use Rattle.ansi2html.specs.declared.streams.LiningUrls.{LiningUrls}
use Rattle.ansi2html.specs.declared.streams.Showing.{Showing}

-- how styles are said
abbrev pub said_as : Converting → Styling
said_as converting = converting.styling

abbrev pub lined_as : Lining → Styling
lined_as lining = lining.styling

abbrev pub urls_said_as : ConvertingUrls → Styling
urls_said_as converting = converting.styling

abbrev pub urls_lined_as : LiningUrls → Styling
urls_lined_as lining = lining.styling

abbrev pub blocked_as : Blocking → Styling
blocked_as blocking = blocking.styling

abbrev pub urls_blocked_as : BlockingUrls → Styling
urls_blocked_as blocking = blocking.styling

abbrev pub shown_as : Showing → Styling
shown_as showing = showing.styling

-- whether lines are numbered
abbrev pub has_numbers : Blocking → Bool
has_numbers blocking = blocking.has_numbers

abbrev pub urls_have_numbers : BlockingUrls → Bool
urls_have_numbers blocking = blocking.has_numbers

-- which size the screens have
abbrev pub size_of : Showing → ShownSize
size_of showing = showing.size

-- what writers of HTML write by calls in which addresses are links, and then still
abbrev pub text_with_urls : {W : Type 0} → Linking (HtmlWriter W) → List Call → List ℕ
text_with_urls linking calls = text_from writer.text_from linking calls

abbrev pub ending_with_urls : {W : Type 0} → Linking (HtmlWriter W) → List Call → List ℕ
ending_with_urls linking calls = ending_from html_after writer.ending_from linking calls

abbrev pub lines_with_urls : {W : Type 0} → Linking (LinesWriter W) → List Call → List ℕ
lines_with_urls linking calls = text_from liner.text_from linking calls

abbrev pub lines_ending_with_urls : {W : Type 0} → Linking (LinesWriter W) → List Call → List ℕ
lines_ending_with_urls linking calls = ending_from lined_after liner.ending_from linking calls

abbrev pub blocks_with_urls : {W : Type 0} → Linking (BlocksWriter W) → List Call → List ℕ
blocks_with_urls linking calls = text_from blocker.text_from linking calls

abbrev pub blocks_ending_with_urls : {W : Type 0} → Linking (BlocksWriter W) → List Call → List ℕ
blocks_ending_with_urls linking calls = ending_from blocked_after blocker.ending_from linking calls
