-- The parts of the command are written one after another.
use Rattle.std.proofs.Common.{List, ℕ, ◌∷◌, ◌++◌, map, ap, subst}
use Rattle.std.specs.List.{join_with_byte}
use Rattle.anstyle_parse.specs.Stream.Bytes.{escape_byte, semicolon}
use Rattle.anstyle_parse.specs.Views.CanonWriter.{output_of}
use Rattle.anstyle_parse.specs.Io.Output.{Adds}
use Rattle.anstyle_parse.proofs.Written.Output.{Adds-append3}
use Rattle.anstyle_parse.proofs.canon.writer.CanonWriterPerform.osc_dispatch.Goals as goal

pub returns : goal.returns
returns g c =
    let sink = g.W.Sink in
    let old = output_of c.args.self.now in
    let all = Adds-append3 sink _ _ _ old c.put.new.self c.put_parts.new.output c.put-2.new.self c.put.ensures c.put_parts.ensures c.put-2.ensures in
    let Q : List ℕ → Type 0 = λ t. Adds sink t old c.put-2.new.self in
    subst Q (ap (λ l. escape_byte ∷ 0x5D ∷ (join_with_byte semicolon (map (λ part. part.now) c.args.params.now) ++ l)) c.end_of_command.ensures) all
