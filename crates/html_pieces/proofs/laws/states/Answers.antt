-- Nothing is held.
use Rattle.std.proofs.Common.{◌≡◌, ℕ, List, [], take, refl, ap, ap₂, sym, ◌∙◌, subst}
use Rattle.anstyle_parse.specs.Machine.AsRead.{as_read}
use Rattle.stream_state.proofs.LogLemmas.{AreCalls-log_begins}
use Rattle.anstyle_parse.proofs.Division.Only.{AreCalls-only}
use Rattle.anstyle_parse.specs.Machine.Decoder.{decoded}
use Rattle.anstyle_parse.specs.Machine.Step.{new_machine, machine_after}
use Rattle.anstyle_parse.specs.Machine.Stands.{StandsAfter}
use Rattle.ansi_html.specs.Html.{Element, element, at_start, standing_at_end, no_element}
use Rattle.ansi_html.specs.Writer.{kept}
use Rattle.html_pieces.specs.declared.state.ElementBytes.{ElementBytes}
use Rattle.ansi_style.specs.declared.bytes.StyleBytes.{StyleBytes}
use Rattle.ansi_style.specs.Bytes.{is_set, style_of}
use Rattle.html_pieces.specs.State.{held_element, zero_style, styling_numbered}
use Rattle.html_pieces.proofs.StateLemmas.{kept-start}
use Rattle.html_pieces.proofs.laws.states.Goals as goal

zero_element : (bytes : ElementBytes) → bytes.style ≡ zero_style → bytes.length ≡ 0 → held_element bytes ≡ no_element
zero_element bytes style length = ap₂ (λ (s : StyleBytes) n. element (style_of s) (take n bytes.link)) style length

pub returns-clause-begins : goal.returns-clause-begins
unfolding as_read
returns-clause-begins c = λ state zero. record {
  stream = subst (λ (l : List ℕ). StandsAfter (machine_after decoded l (new_machine [])) (as_read [])) (sym (ap (λ n. take n state.stream.pending) zero.stream)) refl;
  standing = λ calls are.
      ap₂ (λ (shown selected : Element). kept (record { shown = shown; selected = selected; returned = is_set state.returned }))
      (zero_element state.shown zero.shown_style zero.shown_link) (zero_element state.selected zero.selected_style zero.selected_link)
      ∙ ap (λ n. kept (record { shown = no_element; selected = no_element; returned = is_set n })) zero.returned
      ∙ kept-start ∙ ap (λ l. standing_at_end at_start l) (AreCalls-only (as_read []) [] calls AreCalls-log_begins are);
}

pub returns-clause-styling : goal.returns-clause-styling
returns-clause-styling c = λ state zero. ap styling_numbered zero.styling
