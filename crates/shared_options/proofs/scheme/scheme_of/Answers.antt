-- One word more.
use Rattle.std.proofs.Common.{◌∙◌, sym, ap, ap₂, take, map, string_bytes, ◌++◌, ◌∷◌, []}
use Rattle.std.proofs.lemmas.List.{take_more, map-append}
use Rattle.ansi_html.specs.declared.scheme.Scheme.TheVariants.{Both}
use Rattle.shared_options.specs.Scheme.{scheme_after, scheme_of}
use Rattle.shared_options.proofs.WordLemmas.{scheme_from-push}
use Rattle.shared_options.proofs.scheme.scheme_of.Goals as goal

pub loop-word-preserved : goal.loop-word-preserved
loop-word-preserved c =
    let words = c.args.words.now in
    let i = c.loop-word.word-index in
    let word = c.word-item.result in
    let before = map string_bytes (take i words) in
    let is_next = take_more words i word c.loop-word-test.true ∙ ap (λ w. take i words ++ w ∷ []) (sym c.word-item.is) in
    let grown = ap (map string_bytes) is_next ∙ map-append string_bytes (take i words) (word ∷ []) in
    record {
      so_far =
          c.scheme_after-scheme.ensures
          ∙ ap₂ scheme_after c.loop-word.invariant.so_far c.as_str.ensures.value
          ∙ sym (scheme_from-push Both before (string_bytes word))
          ∙ ap scheme_of (sym grown);
    }
