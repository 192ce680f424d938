use Rattle.std.proofs.Common.{List, sym, subst}
use Rattle.anstyle_parse.specs.Stream.Call.{Call}
use Rattle.anstyle_parse.specs.Stream.Items.{EachIs}
use Rattle.ansi_strip.specs.Driving.{is_clear}
use Rattle.ansi_strip.specs.Passing.{performer_in}
use Rattle.ansi_strip.proofs.DrivingLemmas.{inert-whole}
use Rattle.ansi_strip.proofs.inert.InertPerformText.print_with_layout.Goals as goal

pub returns-then-is_clear : goal.returns-then-is_clear
returns-then-is_clear g c =
    let text = c.args.text.now in
    let clear = subst (EachIs is_clear) c.as_bytes.ensures.value (c.is_clear.ensures c.if-is_clear.true) in
    subst (λ (l : List Call). g.P.PerformText.receives (performer_in c.args.self.now) l c.print_with_layout.new.self)
    (sym (inert-whole text c.utf8.text clear)) c.print_with_layout.ensures
