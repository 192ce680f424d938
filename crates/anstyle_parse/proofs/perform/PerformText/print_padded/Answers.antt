use Rattle.std.proofs.Common.{sym, ◌∙◌, subst}
use Rattle.anstyle_parse.specs.Stream.Items.{EachIs}
use Rattle.anstyle_parse.specs.Stream.Texts.{layout_calls}
use Rattle.anstyle_parse.specs.Views.Texts.{is_text_byte}
use Rattle.anstyle_parse.proofs.Characters.Layout.{IsUtf8-text_bytes}
use Rattle.anstyle_parse.proofs.perform.PerformText.print_padded.Goals as goal

pub from_utf8_unchecked-requires : goal.from_utf8_unchecked-requires
from_utf8_unchecked-requires g c =
    IsUtf8-text_bytes c.as_bytes.result.now (subst (EachIs is_text_byte) (sym c.as_bytes.ensures) c.requires.text)

pub returns : goal.returns
returns g c =
    subst (λ text. g.Self.PerformText.receives c.args.self.now (layout_calls text) c.print_with_layout.new.self)
    (c.from_utf8_unchecked.ensures ∙ c.as_bytes.ensures) c.print_with_layout.ensures
