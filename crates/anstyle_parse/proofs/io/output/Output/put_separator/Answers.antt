use Rattle.std.proofs.Common.{Bool, [], ◌∷◌, sym, subst}
use Rattle.std.specs.Prelude.{if◌then◌else◌}
use Rattle.anstyle_parse.specs.Io.Output.{Adds}
use Rattle.anstyle_parse.proofs.Written.Output.{Adds-nil}
use Rattle.anstyle_parse.proofs.io.output.Output.put_separator.Goals as goal

pub returns-else-not-is_first : goal.returns-else-not-is_first
returns-else-not-is_first g c =
    let Q : Bool → Type 0 = λ b. Adds g.W.Sink (if b then [] else c.args.separator ∷ []) c.args.self.now c.args.self.now in
    subst Q (sym c.if-not-is_first.false) (Adds-nil g.W.Sink c.args.self.now)

pub returns-then-not-is_first : goal.returns-then-not-is_first
returns-then-not-is_first g c =
    let Q : Bool → Type 0 = λ b. Adds g.W.Sink (if b then [] else c.args.separator ∷ []) c.args.self.now c.put_byte.new.self in
    subst Q (sym c.if-not-is_first.true) c.put_byte.ensures
