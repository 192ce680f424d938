-- A byte that is none of the six is written as it is.
use Rattle.std.proofs.Common.{ℕ, List, sym, subst, arith}
use Rattle.anstyle_parse.specs.Io.Output.{Adds}
use Rattle.ansi_html.proofs.HtmlLemmas.{is_special-other, escaped-clear}
use Rattle.ansi_html.proofs.performer.put_reference.Goals as goal

pub returns-in_default-byte : goal.returns-in_default-byte
returns-in_default-byte g c =
    let clear = is_special-other c.args.byte (omega arith) (omega arith) (omega arith) (omega arith) (omega arith) (omega arith) in
    subst (λ (text : List ℕ). Adds g.W.Sink text c.args.output.now c.put_byte.new.self) (sym (escaped-clear c.args.byte clear)) c.put_byte.ensures

pub returns-in_default-byte-2 : goal.returns-in_default-byte-2
returns-in_default-byte-2 g c =
    let clear = is_special-other c.args.byte (omega arith) (omega arith) (omega arith) (omega arith) (omega arith) (omega arith) in
    subst (λ (text : List ℕ). Adds g.W.Sink text c.args.output.now c.put_byte-in_default-byte-2.new.self) (sym (escaped-clear c.args.byte clear)) c.put_byte-in_default-byte-2.ensures

pub returns-in_default-byte-3 : goal.returns-in_default-byte-3
returns-in_default-byte-3 g c =
    let clear = is_special-other c.args.byte (omega arith) (omega arith) (omega arith) (omega arith) (omega arith) (omega arith) in
    subst (λ (text : List ℕ). Adds g.W.Sink text c.args.output.now c.put_byte-in_default-byte-3.new.self) (sym (escaped-clear c.args.byte clear)) c.put_byte-in_default-byte-3.ensures
