-- Parts of texts: plain text, and what stands between.
use Rattle.std.proofs.Common.{◌≡◌, ℕ, List, ◌++◌, ap, sym, ◌∙◌, append_assoc}
use Rattle.std.specs.Str.{IsUtf8, chars}
use Rattle.std.proofs.lemmas.Str.{chars-append, chars-IsAscii}
use Rattle.anstyle_parse.specs.Stream.Items.{EachIs}
use Rattle.lanes.proofs.TextLemmas.{run-ascii, run-utf8}
use Rattle.safe_text.specs.Plain.{is_plain}
use Rattle.safe_text.specs.TakingProof.{plain-low}

-- plain text is its characters
pub chars-plain : (text : List ℕ) → EachIs is_plain text → chars text ≡ text
chars-plain text are = chars-IsAscii text (run-ascii is_plain plain-low text are)

-- the characters of parts, one after another
pub chars-more : (passed run others : List ℕ) → IsUtf8 passed → EachIs is_plain run → chars (passed ++ (run ++ others)) ≡ (chars passed ++ run) ++ chars others
chars-more passed run others utf8 are =
    chars-append passed (run ++ others) utf8
    ∙ (ap (λ l. chars passed ++ l) (chars-append run others (run-utf8 is_plain plain-low run are) ∙ ap (λ l. l ++ chars others) (chars-plain run are))
    ∙ sym (append_assoc (chars passed) run (chars others)))

pub chars-run : (passed run : List ℕ) → IsUtf8 passed → EachIs is_plain run → chars (passed ++ run) ≡ chars passed ++ run
chars-run passed run utf8 are = chars-append passed run utf8 ∙ ap (λ l. chars passed ++ l) (chars-plain run are)
