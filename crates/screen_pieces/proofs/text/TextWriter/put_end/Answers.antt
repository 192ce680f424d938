-- A line feed, or nothing.
use Rattle.std.proofs.Common.{Bool, sym, subst}
use Rattle.screen_text.specs.Lines.{closing}
use Rattle.screen_pieces.specs.Text.{Puts}
use Rattle.screen_pieces.proofs.TextLemmas.{Puts-nil}
use Rattle.screen_pieces.proofs.text.TextWriter.put_end.Goals as goal

pub returns-then-is_open : goal.returns-then-is_open
returns-then-is_open c =
    subst (λ (on : Bool). Puts (closing on) c.args.self.now c.put_byte.new.self) (sym c.if-is_open.true) c.put_byte.ensures

pub returns-else-is_open : goal.returns-else-is_open
returns-else-is_open c =
    subst (λ (on : Bool). Puts (closing on) c.args.self.now c.args.self.now) (sym c.if-is_open.false) (Puts-nil c.args.self.now)
