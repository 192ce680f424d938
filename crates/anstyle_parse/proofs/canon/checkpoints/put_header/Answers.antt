-- The parts of the header are puted one after another.
use Rattle.std.proofs.Common.{ℕ, List, [], ◌∷◌, ◌∙◌, sym, ap, subst}
use Rattle.std.specs.Prelude.{if◌then◌else◌}
use Rattle.std.proofs.lemmas.Bool.{false≢true}
use Rattle.anstyle_parse.specs.Stream.Arguments.{after_marker}
use Rattle.anstyle_parse.specs.Stream.Bytes.{semicolon}
use Rattle.anstyle_parse.specs.Stream.Canon.{leading_marker}
use Rattle.anstyle_parse.specs.Views.Params.{closed_groups_of, open_group_of}
use Rattle.anstyle_parse.specs.Views.Parser.{machine_of}
use Rattle.anstyle_parse.specs.Io.Output.{Adds}
use Rattle.anstyle_parse.proofs.Written.Output.{Adds-append, Adds-append3}
use Rattle.anstyle_parse.proofs.Resume.Written.{header_so_far-full, header_so_far-room}
use Rattle.anstyle_parse.proofs.canon.checkpoints.put_header.Goals as goal

pub returns-then-is_full : goal.returns-then-is_full
returns-then-is_full g c =
    let sink = g.W.Sink in
    let m = machine_of c.args.parser.now in
    let params = c.params-params.result.now in
    let begun = Adds-append3 sink _ _ _ c.args.output.now c.put.new.self c.put_groups.new.self c.put-2.new.self c.put.ensures c.put_groups.ensures c.put-2.ensures in
    let all = Adds-append3 sink _ _ _ c.args.output.now c.put-2.new.self c.put-then-is_full.new.self c.put-then-is_full-2.new.self begun c.put-then-is_full.ensures c.put-then-is_full-2.ensures in
    let Q : List ℕ → Type 0 = λ t. Adds sink t c.args.output.now c.put-then-is_full-2.new.self in
    subst Q
    (header_so_far-full m (closed_groups_of params) (open_group_of params) c.split_marker.result.0.now c.separator_after.result.now c.split_marker.result.1.now c.params-params.ensures.closed c.params-params.ensures.open
    (c.split_marker.ensures.marker ∙ ap leading_marker c.collected.ensures) c.separator_after.ensures (c.split_marker.ensures.others ∙ ap after_marker c.collected.ensures)
    c.text_if.result.now (c.is_full.ensures.full.0 c.if-is_full.true)
    (c.text_if.ensures ∙ ap (λ b. if b then semicolon ∷ [] else []) c.is_ignoring.ensures))
    all

pub returns-else-is_full : goal.returns-else-is_full
returns-else-is_full g c =
    let sink = g.W.Sink in
    let m = machine_of c.args.parser.now in
    let params = c.params-params.result.now in
    let begun = Adds-append3 sink _ _ _ c.args.output.now c.put.new.self c.put_groups.new.self c.put-2.new.self c.put.ensures c.put_groups.ensures c.put-2.ensures in
    let more = Adds-append3 sink _ _ _ c.args.output.now c.put-2.new.self c.put_decimal.new.self c.put-else-is_full.new.self begun c.put_decimal.ensures c.put-else-is_full.ensures in
    let all = Adds-append sink _ _ c.args.output.now c.put-else-is_full.new.self c.put-else-is_full-2.new.self more c.put-else-is_full-2.ensures in
    let Q : List ℕ → Type 0 = λ t. Adds sink t c.args.output.now c.put-else-is_full-2.new.self in
    subst Q
    (header_so_far-room m (closed_groups_of params) (open_group_of params) c.split_marker.result.0.now c.separator_after.result.now c.split_marker.result.1.now c.params-params.ensures.closed c.params-params.ensures.open
    (c.split_marker.ensures.marker ∙ ap leading_marker c.collected.ensures) c.separator_after.ensures (c.split_marker.ensures.others ∙ ap after_marker c.collected.ensures)
    c.number.result c.text_if-else-is_full.result.now (λ full. false≢true (sym c.if-is_full.false ∙ c.is_full.ensures.full.1 full)) c.number.ensures
    (c.text_if-else-is_full.ensures ∙ ap (λ b. if b then 0x20 ∷ [] else []) c.is_ignoring-else-is_full.ensures))
    all
