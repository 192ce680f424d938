-- Parts of texts: printed ASCII, and what stands between.
use Rattle.std.proofs.Common.{◌≡◌, ℕ, List, [], ◌∷◌, ◌++◌, take, drop, map, refl, ap, sym, ◌∙◌, subst, append_assoc, take-append-drop}
use Rattle.std.specs.Str.{IsUtf8, chars}
use Rattle.std.proofs.lemmas.List.{map-append, append-nil}
use Rattle.std.proofs.lemmas.Str.{chars-append, chars-IsAscii, IsUtf8-append}
use Rattle.anstyle_parse.specs.Stream.Call.{Call, print}
use Rattle.anstyle_parse.specs.Stream.Items.{EachIs}
use Rattle.anstyle_parse.specs.Stream.Texts.{text_calls}
use Rattle.ansi_screen.specs.Laws.{printing}
use Rattle.lanes.proofs.TextLemmas.{run-ascii, run-utf8}
use Rattle.ansi_screen.specs.Runs.{is_printed_ascii}
use Rattle.ansi_screen.specs.TextsProof.{printed-low}

-- the calls of parts, one after another
pub run-calls : (run : List ℕ) → EachIs is_printed_ascii run → text_calls run ≡ printing run
run-calls run are = ap (map print) (chars-IsAscii run (run-ascii is_printed_ascii printed-low run are))

pub text_calls-append : (a b : List ℕ) → IsUtf8 a → text_calls (a ++ b) ≡ text_calls a ++ text_calls b
text_calls-append a b utf8 = ap (map print) (chars-append a b utf8) ∙ map-append print (chars a) (chars b)

-- what is left of a run after some of it and one more
pub run-parted : (run passed rest behind : List ℕ) (n c : ℕ) → run ≡ passed ++ rest → drop n rest ≡ c ∷ behind
    → run ≡ (passed ++ (take n rest ++ c ∷ [])) ++ behind
run-parted run passed rest behind n c joined is =
    joined
    ∙ (ap (λ l. passed ++ l) (sym (take-append-drop n rest) ∙ (ap (λ l. take n rest ++ l) is ∙ sym (append_assoc (take n rest) (c ∷ []) behind)))
    ∙ sym (append_assoc passed (take n rest ++ c ∷ []) behind))

pub run-whole : (run passed rest : List ℕ) (n : ℕ) → run ≡ passed ++ rest → drop n rest ≡ [] → run ≡ passed ++ take n rest
run-whole run passed rest n joined is =
    joined ∙ ap (λ l. passed ++ l) (sym (take-append-drop n rest) ∙ (ap (λ l. take n rest ++ l) is ∙ append-nil (take n rest)))

module _ {P : Type 0} (receives : P → List Call → P → Type 0)
    (more : (old middle new : P) (calls further : List Call) → receives old calls middle → receives middle further new → receives old (calls ++ further) new) where
  -- some of a run, and one more
  pub run-more : (passed now : List ℕ) (c : ℕ) (first before middle after : P) → receives first (printing passed) before
      → receives before (printing now) middle → receives middle (print c ∷ []) after → receives first (printing (passed ++ (now ++ c ∷ []))) after
  run-more passed now c first before middle after received some one =
      subst (λ calls. receives first calls after)
      (ap (λ calls. printing passed ++ calls) (sym (map-append print now (c ∷ []))) ∙ sym (map-append print passed (now ++ c ∷ [])))
      (more first before after (printing passed) (printing now ++ print c ∷ []) received (more before middle after (printing now) (print c ∷ []) some one))

  pub run-last : (run passed now : List ℕ) (first before after : P) → run ≡ passed ++ now → receives first (printing passed) before
      → receives before (printing now) after → receives first (printing run) after
  run-last run passed now first before after is received some =
      subst (λ calls. receives first calls after) (sym (ap printing is ∙ map-append print passed now))
      (more first before after (printing passed) (printing now) received some)

  -- a text, a run and what stands after it
  pub text-run : (text passed run : List ℕ) (first before after : P) → text ≡ passed ++ run → IsUtf8 passed → EachIs is_printed_ascii run
      → receives first (text_calls passed) before → receives before (printing run) after → receives first (text_calls text) after
  text-run text passed run first before after is utf8 are received some =
      subst (λ calls. receives first calls after)
      (sym (ap text_calls is ∙ (text_calls-append passed run utf8 ∙ ap (λ calls. text_calls passed ++ calls) (run-calls run are))))
      (more first before after (text_calls passed) (printing run) received some)

  pub text-more : (passed run others : List ℕ) (first before middle after : P) → IsUtf8 passed → EachIs is_printed_ascii run
      → receives first (text_calls passed) before → receives before (printing run) middle → receives middle (text_calls others) after
      → receives first (text_calls (passed ++ (run ++ others))) after
  text-more passed run others first before middle after utf8 are received some further =
      subst (λ calls. receives first calls after)
      (sym (ap text_calls (sym (append_assoc passed run others)) ∙ text_calls-append (passed ++ run) others (IsUtf8-append passed run utf8 (run-utf8 is_printed_ascii printed-low run are))))
      (more first middle after (text_calls (passed ++ run)) (text_calls others)
      (text-run (passed ++ run) passed run first before middle refl utf8 are received some) further)
