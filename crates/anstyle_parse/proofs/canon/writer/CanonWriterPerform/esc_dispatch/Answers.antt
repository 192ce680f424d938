-- The parts of the sequence are written one after another.
use Rattle.std.proofs.Common.{List, ℕ, [], ◌∷◌, subst}
use Rattle.anstyle_parse.specs.Stream.Bytes.{escape_byte}
use Rattle.anstyle_parse.specs.Views.CanonWriter.{output_of}
use Rattle.anstyle_parse.specs.Io.Output.{Adds}
use Rattle.anstyle_parse.proofs.Written.Output.{Adds-append, Adds-append3}
use Rattle.anstyle_parse.proofs.Canonical.Written.{escape_text-parts}
use Rattle.anstyle_parse.proofs.canon.writer.CanonWriterPerform.esc_dispatch.Goals as goal

pub returns : goal.returns
returns g c =
    let sink = g.W.Sink in
    let old = output_of c.args.self.now in
    let begun = Adds-append3 sink _ _ _ old c.put_byte.new.self c.put.new.self c.put-2.new.self c.put_byte.ensures c.put.ensures c.put-2.ensures in
    let all = Adds-append sink _ _ old c.put-2.new.self c.put_byte-2.new.self begun c.put_byte-2.ensures in
    let Q : List ℕ → Type 0 = λ t. Adds sink t old c.put_byte-2.new.self in
    subst Q (escape_text-parts c.args.intermediates.now c.args.ignore (escape_byte ∷ []) _ (c.args.byte ∷ []) c.text_if.ensures) all
