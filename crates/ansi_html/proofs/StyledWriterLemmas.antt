-- Texts that have styles are written one after another.
use Rattle.std.proofs.Common.{◌≡◌, ◌<◌, ℕ, false, List, [], ◌∷◌, ◌++◌, length, refl, sym, ap, ap₂, ◌∙◌, subst, append_assoc, append-nil, arith}
use Rattle.anstyle_parse.specs.declared.io.devices.Sink.{Ghosts as SinkOf}
use Rattle.anstyle_parse.specs.Io.Output.{Adds}
use Rattle.anstyle_parse.proofs.Written.Output.{Adds-nil, Adds-append}
use Rattle.ansi_style.specs.declared.style.Style.{Style}
use Rattle.ansi_html.specs.declared.scheme.Styling.{Styling}
use Rattle.ansi_html.specs.declared.styled.StyledWriter.{StyledWriter}
use Rattle.ansi_html.specs.Html.{Element, element, escaped, escaped_text, change, text_html}
use Rattle.ansi_html.specs.Styled.{Styled, styled, each_styled, element_of, before, styled_html, shown_after, output_of, styling_of, shown_in, WritesStyled}
use Rattle.ansi_html.proofs.HtmlLemmas.{text_html-some, after_text-some, change-same}
use Rattle.ansi_html.proofs.StyledLemmas.{styled_html-append, shown_after-append}

-- a text that is not empty, alone
styled_html-one : (styling : Styling) (shown : Element) (it : Styled) → 0 < length it.text
    → styled_html styling shown (it ∷ []) ≡ change styling shown (element_of it) ++ escaped_text it.text
styled_html-one styling shown it some =
    append-nil (text_html styling (before shown it) false it.text)
    ∙ text_html-some styling (before shown it) false it.text some
    ∙ ap (λ l. l ++ escaped_text it.text) (append-nil (change styling shown (element_of it)))

-- Bytes that are each a text of their own, of one style and one link, are written as one text.
module _ (styling : Styling) (style : Style) (link : List ℕ) where
  each-behind : (bytes : List ℕ) → styled_html styling (element style link) (each_styled style link bytes) ≡ escaped_text bytes
  unfolding text_html
  each-behind [] = refl
  each-behind (b ∷ bytes) =
      ap₂ (λ changed text. ((changed ++ []) ++ escaped_text (b ∷ [])) ++ text) (change-same styling (element style link)) (each-behind bytes)
      ∙ ap (λ l. l ++ escaped_text bytes) (append-nil (escaped b))

  styled_html-each : (shown : Element) (bytes : List ℕ) → 0 < length bytes
      → styled_html styling shown (each_styled style link bytes) ≡ styled_html styling shown (styled style link bytes ∷ [])
  unfolding text_html
  styled_html-each shown [] some = absurd (omega (arith, some))
  styled_html-each shown (b ∷ bytes) some =
      let begun = change styling shown (element style link) ++ [] in
      ap (λ l. (begun ++ escaped_text (b ∷ [])) ++ l) (each-behind bytes)
      ∙ append_assoc begun (escaped_text (b ∷ [])) (escaped_text bytes)
      ∙ ap (λ l. begun ++ (l ++ escaped_text bytes)) (append-nil (escaped b))
      ∙ sym (append-nil (begun ++ escaped_text (b ∷ bytes)))

-- The element behind them is that of one text, too.
shown_after-each : (style : Style) (link bytes : List ℕ) → shown_after (element style link) (each_styled style link bytes) ≡ element style link
shown_after-each style link [] = refl
shown_after-each style link (b ∷ bytes) = shown_after-each style link bytes

shown_after-some : (shown : Element) (style : Style) (link bytes : List ℕ) → 0 < length bytes
    → shown_after shown (each_styled style link bytes) ≡ shown_after shown (styled style link bytes ∷ [])
shown_after-some shown style link [] some = absurd (omega (arith, some))
shown_after-some shown style link (b ∷ bytes) some = shown_after-each style link bytes

module _ {W : Type 0} (sink : SinkOf W) where
  pub WritesStyled-none : (writer : StyledWriter W) → WritesStyled sink writer [] writer
  WritesStyled-none writer = record { styling = refl; shown = refl; added = Adds-nil sink (output_of writer) }

  -- an empty text
  pub WritesStyled-empty : (writer : StyledWriter W) (it : Styled) → it.text ≡ [] → WritesStyled sink writer (it ∷ []) writer
  unfolding text_html
  WritesStyled-empty writer it none = rw none (record { styling = refl; shown = refl; added = Adds-nil sink (output_of writer) })

  -- its style is selected, and its bytes are written
  pub WritesStyled-text : (old middle new : StyledWriter W) (it : Styled) → 0 < length it.text
      → styling_of middle ≡ styling_of old → shown_in middle ≡ element_of it
      → Adds sink (change (styling_of old) (shown_in old) (element_of it)) (output_of old) (output_of middle)
      → styling_of new ≡ styling_of middle → shown_in new ≡ shown_in middle
      → Adds sink (escaped_text it.text) (output_of middle) (output_of new) → WritesStyled sink old (it ∷ []) new
  WritesStyled-text old middle new it some styling shown selected styling_then shown_then written = record {
    styling = styling_then ∙ styling;
    shown = shown_then ∙ shown ∙ sym (after_text-some (shown_in old) (element_of it) it.text some);
    added = subst (λ t. Adds sink t (output_of old) (output_of new)) (sym (styled_html-one (styling_of old) (shown_in old) it some))
        (Adds-append sink (change (styling_of old) (shown_in old) (element_of it)) (escaped_text it.text) (output_of old) (output_of middle) (output_of new) selected written);
  }

  -- bytes of one style and one link that are written as one text
  pub WritesStyled-each : (old new : StyledWriter W) (style : Style) (link bytes : List ℕ) → 0 < length bytes
      → WritesStyled sink old (styled style link bytes ∷ []) new → WritesStyled sink old (each_styled style link bytes) new
  WritesStyled-each old new style link bytes some written = record {
    styling = written.styling;
    shown = written.shown ∙ sym (shown_after-some (shown_in old) style link bytes some);
    added = subst (λ t. Adds sink t (output_of old) (output_of new))
        (sym (styled_html-each (styling_of old) style link (shown_in old) bytes some)) written.added;
  }

  pub WritesStyled-append : (old middle new : StyledWriter W) (texts more : List Styled) → WritesStyled sink old texts middle
      → WritesStyled sink middle more new → WritesStyled sink old (texts ++ more) new
  WritesStyled-append old middle new texts more first second =
      let styling = styling_of old in
      let shown = shown_in old in
      record {
        styling = second.styling ∙ first.styling;
        shown = second.shown ∙ ap (λ at. shown_after at more) first.shown ∙ sym (shown_after-append shown texts more);
        added = subst (λ t. Adds sink t (output_of old) (output_of new))
            (ap₂ (λ it at. styled_html styling shown texts ++ styled_html it at more) first.styling first.shown ∙ sym (styled_html-append styling shown texts more))
            (Adds-append sink (styled_html styling shown texts) (styled_html (styling_of middle) (shown_in middle) more) (output_of old) (output_of middle) (output_of new)
            first.added second.added);
      }
