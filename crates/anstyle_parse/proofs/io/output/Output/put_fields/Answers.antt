-- One field more is done, with the separator before it.
use Rattle.std.proofs.Common.{◌++◌, ◌+◌, [], ◌∷◌, get_or, drop, map, decimal, refl}
use Rattle.std.specs.Prelude.{if◌then◌else◌}
use Rattle.std.proofs.lemmas.List.{at_drop_more}
use Rattle.anstyle_parse.specs.Stream.Bytes.{colon}
use Rattle.anstyle_parse.specs.Stream.Groups.{fields_text}
use Rattle.anstyle_parse.proofs.Lists.Joins.{joined_rest-more}
use Rattle.anstyle_parse.proofs.Written.Output.{Adds-nil, Adds-append3}
use Rattle.anstyle_parse.proofs.io.output.Output.put_fields.Goals as goal

pub loop-field-init : goal.loop-field-init
loop-field-init g c = record { done = []; whole = refl; added = Adds-nil g.W.Sink c.args.self.now }

pub loop-field-preserved : goal.loop-field-preserved
loop-field-preserved g c =
    let fields = c.args.fields.now in
    let i = c.loop-field.field-index in
    let before = c.loop-field.invariant in
    let is_first = c.loop-field.is_first in
    let separator = if is_first then [] else colon ∷ [] in
    let text = decimal (get_or fields i 0) in
    record {
      done = (before.done ++ separator) ++ text;
      whole = joined_rest-more before.done (fields_text fields) is_first colon text (map decimal (drop i fields)) (map decimal (drop (i + 1) fields))
          (at_drop_more (λ fs. map decimal fs) fields i 0 c.loop-field-test.true) before.whole;
      added = Adds-append3 g.W.Sink before.done separator text
          c.args.self.now c.loop-field.self c.put_separator.new.self c.put_decimal.new.self before.added c.put_separator.ensures c.put_decimal.ensures;
    }
