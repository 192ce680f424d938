use Rattle.std.proofs.Common.{List, sym, subst}
use Rattle.std.specs.Str.{IsUtf8}
use Rattle.anstyle_parse.proofs.Characters.Layout.{IsUtf8-text_bytes}
use Rattle.anstyle_parse.specs.Stream.Call.{Call}
use Rattle.ansi_strip.specs.Passing.{performer_in}
use Rattle.ansi_strip.proofs.DrivingLemmas.{inert-whole}
use Rattle.ansi_strip.proofs.inert.InertPerformText.print_padded.Goals as goal

pub returns-then-is_clear_padded : goal.returns-then-is_clear_padded
returns-then-is_clear_padded g c =
    let text = c.args.text.now in
    subst (λ (l : List Call). g.P.PerformText.receives (performer_in c.args.self.now) l c.print_padded.new.self)
    (sym (inert-whole text (IsUtf8-text_bytes text c.requires.text) (c.is_clear_padded.ensures c.if-is_clear_padded.true))) c.print_padded.ensures

pub print_bytes-requires : goal.print_bytes-requires
print_bytes-requires g c = subst IsUtf8 (sym c.as_bytes.ensures) (IsUtf8-text_bytes c.args.text.now c.requires.text)
