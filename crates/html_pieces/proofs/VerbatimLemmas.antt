-- Verbatim text in the midst of text is taken as it is, and leaves the state as it is.
use Rattle.std.proofs.Common.{◌≡◌, ◌≤◌, ℕ, false, List, [], ◌++◌, length, map, take, drop, refl, sym, ap, ap₂, ◌∙◌, subst, arith, length-append, length-drop, append-nil, IsTrue, ◌<◌}
use Rattle.std.specs.Prelude.{nat_lt}
use Rattle.std.proofs.lemmas.Bool.{and_parts, ltb-true, false≢true}
use Rattle.std.proofs.Math.Seq.{take-append_seam, drop-append_seam}
use Rattle.anstyle_parse.specs.Stream.Call.{Call}
use Rattle.anstyle_parse.specs.Stream.Calls.{AreCalls, Continues}
use Rattle.anstyle_parse.specs.Stream.Items.{EachIs}
use Rattle.anstyle_parse.specs.Stream.Texts.{layout_call}
use Rattle.anstyle_parse.specs.Machine.Decoder.{decoded}
use Rattle.anstyle_parse.specs.Machine.Step.{Machine, new_machine, machine_after}
use Rattle.anstyle_parse.specs.Machine.Stands.{StandsAfter}
use Rattle.anstyle_parse.proofs.Agreement.Whole.{StandsAfter-machine, Continues-machine}
use Rattle.anstyle_parse.proofs.Machine.AsRead.{AreReadAsTheyAre, as_they_are-plain, read_from-append}
use Rattle.anstyle_parse.specs.Machine.AsRead.{read_from, as_read}
use Rattle.stream_state.specs.Log.{StandsForLog, ContinuesLog}
use Rattle.stream_state.specs.State.{StandsFor as StreamStandsFor}
use Rattle.ansi_html.specs.Grammar.{is_text_byte}
use Rattle.ansi_html.specs.Verbatim.{is_verbatim}
use Rattle.ansi_html.specs.Html.{Element, element, html_from, standing_at_end}
use Rattle.ansi_html.specs.Links.{kept_link}
use Rattle.ansi_html.specs.Writer.{in_element}
use Rattle.ansi_html.proofs.VerbatimLemmas.{machine-verbatim, html_from-verbatim, standing_at_end-verbatim}
use Rattle.html_pieces.specs.declared.state.HtmlState.{HtmlState}
use Rattle.html_pieces.specs.State.{styling_in, standing_of}
use Rattle.html_pieces.specs.Verbatim.{IsInText}
use Rattle.html_pieces.specs.Feed.{Takes}

-- a byte of verbatim text is read as it is, wherever it stands
verbatim-plain : (b : ℕ) → IsTrue (is_verbatim b) → (b < 0x80) × (b ≡ 7 → ⊥)
unfolding is_verbatim is_text_byte
verbatim-plain b verbatim =
    let both = and_parts (nat_lt b 0x80) (is_text_byte b) verbatim in
    (ltb-true b 0x80 both.0, λ seven. false≢true (sym (ap is_text_byte seven) ∙ both.1))

module _ (state : HtmlState) (in_text : IsInText state) (bytes : List ℕ) (verbatim : EachIs is_verbatim bytes) where
  -- the element that its text stands in
  abbrev stood : Element
  stood = (standing_of state).selected

  standing-in_text : standing_of state ≡ in_element stood false
  standing-in_text =
      ap₂ (λ (it : Element) returned. record { shown = element it.style (kept_link it.link); selected = stood; returned = returned })
      in_text.same_element in_text.not_returned

  -- a new machine stands where the stream does
  stands-new : (before : List ℕ) → StreamStandsFor state.stream before → StandsAfter (new_machine []) before
  stands-new before stands = subst (λ held. StandsAfter (machine_after decoded held (new_machine [])) before) in_text.nothing_pending stands

  continues-as_they_are : (before : List ℕ) → StreamStandsFor state.stream before → Continues before bytes (map layout_call bytes)
  continues-as_they_are before stands =
      subst (λ (calls : List Call). Continues before bytes calls) (machine-verbatim bytes verbatim).1 (Continues-machine (new_machine []) before bytes (stands-new before stands))

  stands-as_they_are : (before : List ℕ) → StreamStandsFor state.stream before → StreamStandsFor state.stream (before ++ bytes)
  stands-as_they_are before stands =
      subst (λ held. StandsAfter (machine_after decoded held (new_machine [])) (before ++ bytes)) (sym in_text.nothing_pending)
      (subst (λ (m : Machine (List ℕ)). StandsAfter m (before ++ bytes)) (machine-verbatim bytes verbatim).0 (StandsAfter-machine (new_machine []) before bytes (stands-new before stands)))

  -- and reads these bytes as they are
  read-verbatim : (before : List ℕ) → as_read (before ++ bytes) ≡ as_read before ++ bytes
  unfolding as_read AreReadAsTheyAre
  read-verbatim before =
      let m = machine_after decoded (as_read before) (new_machine []) in
      let as_they_are = as_they_are-plain decoded is_verbatim verbatim-plain m bytes verbatim [] in
      read_from-append decoded (new_machine []) before bytes
      ∙ ap (λ l. as_read before ++ l) (ap (read_from decoded m) (sym (append-nil bytes)) ∙ as_they_are ∙ append-nil bytes)

  continues-verbatim : (before : List ℕ) → StandsForLog state.stream before → ContinuesLog before bytes (map layout_call bytes)
  continues-verbatim before stands own are =
      subst (λ l. AreCalls l (own ++ map layout_call bytes)) (sym (read-verbatim before))
      (continues-as_they_are (as_read before) stands own are)

  stands-verbatim : (before : List ℕ) → StandsForLog state.stream before → StandsForLog state.stream (before ++ bytes)
  stands-verbatim before stands = subst (StreamStandsFor state.stream) (sym (read-verbatim before)) (stands-as_they_are (as_read before) stands)

  pub Takes-verbatim : (room room_after : List ℕ) → length bytes ≤ length room → room_after ≡ bytes ++ drop (length bytes) room
      → Takes state state bytes room room_after (length bytes)
  Takes-verbatim room room_after fits is =
      let calls = map layout_call bytes in
      let rest = drop (length bytes) room in
      record {
        calls = calls;
        continues = continues-verbatim;
        stream = stands-verbatim;
        styling = refl;
        standing = standing-in_text ∙ sym (standing_at_end-verbatim (styling_in state) stood bytes verbatim) ∙ ap (λ at. standing_at_end at calls) (sym standing-in_text);
        same_length = omega (arith, fits, ap length is, length-append bytes rest, length-drop (length bytes) room);
        written_fits = fits;
        html = ap (take (length bytes)) is ∙ take-append_seam bytes rest
            ∙ sym (html_from-verbatim (styling_in state) stood bytes verbatim) ∙ ap (λ at. html_from (styling_in state) at calls) (sym standing-in_text);
        untouched = ap (drop (length bytes)) is ∙ drop-append_seam bytes rest;
      }
