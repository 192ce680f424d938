-- What is written without hidden text as rows leave, and then at the end, is the text of all that was shown.
use Rattle.std.proofs.Common.{◌≡◌, ℕ, List, [], ◌++◌, length, drop, sym, ap, ◌∙◌, append_assoc, append-nil}
use Rattle.std.specs.Str.{encode_utf8_all}
use Rattle.std.proofs.Math.Seq.{drop-append_seam}
use Rattle.std.proofs.lemmas.Str.{encodes-append}
use Rattle.anstyle_parse.specs.Stream.Call.{Call}
use Rattle.ansi_strip.specs.Inert.{inert_text}
use Rattle.ansi_strip.proofs.InertLemmas.{inert_text-append}
use Rattle.ansi_style.specs.Style.{plain}
use Rattle.each_source.specs.Each.{Given}
use Rattle.safe_text.specs.Decided.{decided_from, waiting, last_from}
use Rattle.safe_text.specs.Marks.{nothing_hidden, marked_from, hiding_from, closing, decided_marked, undecided_marked}
use Rattle.safe_text.specs.MarkingProof.{marked-append}
use Rattle.safe_text.specs.TakingProof.{decided_from-append}
use Rattle.safe_text.proofs.WholeLemmas.{encoded-then-safe}
use Rattle.screen_calls.specs.Calls.{left_calls, ending_calls}
use Rattle.screen_text.specs.declared.recording.ShownSize.{ShownSize}
use Rattle.screen_text.specs.Recording.{screen_for}
use Rattle.without_hidden.specs.Hidden.{without_hidden, style_from}
use Rattle.without_hidden.specs.PassingProof.{without-append}
use Rattle.ansi2text.specs.Streams.{visible_calls, visible_text, visible_safe}

-- what is written first, and then the rest of all, is all
whole-by : (first rest all ending : List ℕ) → all ≡ first ++ rest → first ++ drop (length first) (all ++ ending) ≡ all ++ ending
whole-by first rest all ending is =
    ap (λ l. first ++ drop (length first) l) (ap (λ l. l ++ ending) is ∙ append_assoc first rest ending)
    ∙ ap (λ l. first ++ l) (drop-append_seam first (rest ++ ending))
    ∙ sym (append_assoc first rest ending)
    ∙ ap (λ l. l ++ ending) (sym is)

module _ (size : ShownSize) (given : Given) where
  -- what stays of the calls of the rows that left, and of those that still show
  abbrev left : List Call
  left = without_hidden plain (left_calls (screen_for size given.read) given.calls)

  abbrev still : List Call
  still = without_hidden (style_from plain (left_calls (screen_for size given.read) given.calls)) (ending_calls (screen_for size given.read) given.calls)

  both : visible_calls size given ≡ left ++ still
  both = without-append plain (left_calls (screen_for size given.read) given.calls) (ending_calls (screen_for size given.read) given.calls)

  text-whole : inert_text left ++ drop (length (inert_text left)) (visible_text size given ++ []) ≡ visible_text size given
  text-whole =
      whole-by (inert_text left) (inert_text still) (visible_text size given) [] (ap inert_text both ∙ inert_text-append left still)
      ∙ append-nil (visible_text size given)

  safe-whole : decided_marked left ++ drop (length (decided_marked left)) (decided_marked (visible_calls size given) ++ undecided_marked (visible_calls size given))
      ≡ visible_safe size given
  safe-whole =
      let all = visible_calls size given in
      let cs = marked_from nothing_hidden left in
      let more = marked_from (hiding_from nothing_hidden left) still in
      let rest = decided_from (last_from 0 cs) (waiting cs ++ more) in
      whole-by (decided_marked left) (encode_utf8_all rest) (decided_marked all) (undecided_marked all)
      (ap decided_marked both
      ∙ ap (λ l. encode_utf8_all (decided_from 0 l)) (marked-append nothing_hidden left still)
      ∙ ap encode_utf8_all (decided_from-append 0 cs more)
      ∙ encodes-append (decided_from 0 cs) rest)
      ∙ encoded-then-safe 0 (marked_from nothing_hidden all) (closing (hiding_from nothing_hidden all))

-- the same of screens whose size is this one
pub text-written : (it size : ShownSize) → it ≡ size → (given : Given)
    → inert_text (left it given) ++ drop (length (inert_text (left it given))) (visible_text it given ++ []) ≡ visible_text size given
text-written it size is given = text-whole it given ∙ ap (λ (s : ShownSize). visible_text s given) is

pub safe-written : (it size : ShownSize) → it ≡ size → (given : Given)
    → decided_marked (left it given) ++ drop (length (decided_marked (left it given))) (decided_marked (visible_calls it given) ++ undecided_marked (visible_calls it given))
    ≡ visible_safe size given
safe-written it size is given = safe-whole it given ∙ ap (λ (s : ShownSize). visible_safe s given) is
