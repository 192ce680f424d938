-- The parts of the header are written one after another.
use Rattle.std.proofs.Common.{List, ℕ, [], ◌∷◌, subst}
use Rattle.anstyle_parse.specs.Stream.Bytes.{escape_byte}
use Rattle.anstyle_parse.specs.Views.CanonWriter.{output_of}
use Rattle.anstyle_parse.specs.Io.Output.{Adds}
use Rattle.anstyle_parse.specs.Views.Params.{groups_shown}
use Rattle.anstyle_parse.proofs.Written.Output.{Adds-append3}
use Rattle.anstyle_parse.proofs.Canonical.Written.{header_text-parts}
use Rattle.anstyle_parse.proofs.canon.writer.CanonWriter.header.Goals as goal

pub returns : goal.returns
returns g c =
    let sink = g.W.Sink in
    let old = output_of c.args.self.now in
    let begun = Adds-append3 sink _ _ _ old c.put.new.self c.put-2.new.self c.put_groups.new.self c.put.ensures c.put-2.ensures c.put_groups.ensures in
    let others = Adds-append3 sink _ _ _ old c.put_groups.new.self c.put-3.new.self c.put-4.new.self begun c.put-3.ensures c.put-4.ensures in
    let all = Adds-append3 sink _ _ _ old c.put-4.new.self c.put-5.new.self c.put_byte.new.self others c.put-5.ensures c.put_byte.ensures in
    let Q : List ℕ → Type 0 = λ t. Adds sink t old c.put_byte.new.self in
    subst Q
    (header_text-parts (groups_shown c.args.params.now) c.args.intermediates.now c.args.ignore (escape_byte ∷ c.args.introducer ∷ []) _ _ _ _ (c.args.action ∷ [])
    c.split_marker.ensures.marker c.more_fields.ensures c.split_marker.ensures.others c.more_intermediates.ensures)
    all
