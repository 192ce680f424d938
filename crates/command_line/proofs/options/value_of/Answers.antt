-- One word more.
use Rattle.std.proofs.Common.{◌∙◌, sym, ap, ap₂, take, map, string_bytes, ◌++◌, ◌∷◌, []}
use Rattle.std.specs.Prelude.{option_copied}
use Rattle.std.specs.Option.{option_or}
use Rattle.std.proofs.lemmas.List.{take_more, map-append}
use Rattle.command_line.specs.Options.{after_option, last_value}
use Rattle.command_line.proofs.WordLemmas.{option_copied-or, last_value-push}
use Rattle.command_line.proofs.options.value_of.Goals as goal

pub loop-word-preserved : goal.loop-word-preserved
loop-word-preserved c =
    let option = c.args.option.now in
    let words = c.args.words.now in
    let i = c.loop-word.word-index in
    let word = c.word-item.result in
    let before = map string_bytes (take i words) in
    let is_next = take_more words i word c.loop-word-test.true ∙ ap (λ w. take i words ++ w ∷ []) (sym c.word-item.is) in
    let grown = ap (map string_bytes) is_next ∙ map-append string_bytes (take i words) (word ∷ []) in
    record {
      so_far =
          ap option_copied c.or-value.ensures
          ∙ option_copied-or c.after.result c.loop-word.value
          ∙ ap₂ option_or (c.after.ensures ∙ ap (after_option option) c.as_str.ensures.value) c.loop-word.invariant.so_far
          ∙ sym (last_value-push option before (string_bytes word))
          ∙ ap (last_value option) (sym grown);
    }
