-- A state is fed where a piece was taken.
use Rattle.std.proofs.Common.{◌≡◌, ◌<◌, ◌≤◌, ◌*◌, ◌/◌, ◌+◌, ℕ, List, [], ◌++◌, length, take, min, refl, sym, ap, ◌∙◌, subst, arith, length-take}
use Rattle.std.specs.Prelude.{IsUtf8}
use Rattle.std.proofs.lemmas.List.{take-take, length-take-le}
use Rattle.anstyle_parse.specs.Machine.AsRead.{as_read}
use Rattle.anstyle_parse.specs.Machine.Decoder.{decoded}
use Rattle.anstyle_parse.specs.Machine.Step.{Machine, new_machine, machine_after, machine_calls}
use Rattle.anstyle_parse.specs.Laws.Checkpoint.{max_checkpoint, checkpoint_text}
use Rattle.anstyle_parse.proofs.Resume.Whole.{checkpoint_stands, length-checkpoint}
use Rattle.anstyle_parse.proofs.Division.Only.{AreCalls-only}
use Rattle.anstyle_parse.proofs.Agreement.Whole.{AreCalls-machine}
use Rattle.ansi_strip.proofs.Showable.{AreShowable-later}
use Rattle.stream_state.specs.Log.{StandsForLog}
use Rattle.stream_state.specs.State.{pending_of}
use Rattle.stream_state.proofs.LogLemmas.{any_log, lawful-log}
use Rattle.stream_state.proofs.LogQuoted.{IsBeside, quoted-log}
use Rattle.ansi_html.specs.Html.{Standing, at_start, html_from, standing_at_end}
use Rattle.ansi_html.specs.AddingProof.{standing_at_end-append}
use Rattle.ansi_html.proofs.TextLemmas.{IsUtf8-html_from}
use Rattle.ansi_html.specs.Html.{html_of_a_byte}
use Rattle.ansi_html.proofs.PieceLemmas.{length-html_continued}
use Rattle.ansi_html.proofs.BoundLemmas.{times-less, length-together}
use Rattle.html_pieces.specs.declared.state.HtmlState.{HtmlState}
use Rattle.html_pieces.specs.Sizes.{most_html, most_together, least_room, most_taken, capacity}
use Rattle.html_pieces.specs.State.{styling_in, standing_of, StandsFor}
use Rattle.html_pieces.specs.Feed.{Takes, Feeds}
use Rattle.html_pieces.proofs.LighterLemmas.{html-lighter}
use Rattle.html_pieces.proofs.StateLemmas.{AreSound-kept}

module _ (old new : HtmlState) (piece room room_after : List ℕ) (written : ℕ) (takes : Takes old new piece room room_after written) where
  -- where the HTML stands after these bytes too
  StandsFor-taken : (before : List ℕ) → StandsFor old before → StandsFor new (before ++ piece)
  StandsFor-taken before is =
      let own = machine_calls decoded (as_read before) (new_machine []) in
      let are = AreCalls-machine (as_read before) in
      record {
        stream = takes.stream before is.stream;
        standing = λ calls these.
            takes.standing ∙ ap (λ (at : Standing). standing_at_end at takes.calls) (is.standing own are)
            ∙ sym (standing_at_end-append own takes.calls at_start)
            ∙ ap (λ l. standing_at_end at_start l) (AreCalls-only (as_read (before ++ piece)) (own ++ takes.calls) calls (takes.continues before is.stream own are) these);
      }

  abbrev held : List ℕ
  held = pending_of old.stream

  -- a log for which the stream stands, and bytes that lead to as much or more
  log : (before : List ℕ) × StandsForLog old.stream before
  log = any_log held

  beside : IsBeside log.0 piece takes.calls
  beside = quoted-log log.0 piece takes.calls (takes.continues log.0 log.1)

  utf8-taken : IsUtf8 (take written room_after)
  utf8-taken =
      let own = machine_calls decoded (as_read log.0) (new_machine []) in
      let shown = AreShowable-later own takes.calls (lawful-log log.0 piece takes.calls (takes.continues log.0 log.1)) in
      subst IsUtf8 (sym takes.html) (IsUtf8-html_from (styling_in old) (standing_of old) takes.calls (AreSound-kept _) shown)

  bounded-taken : written ≤ 6534 * length piece
  bounded-taken =
      omega (
        arith,
        length-take written room_after,
        takes.same_length,
        takes.written_fits,
        ap length takes.html,
        length-html_continued (styling_in old) held beside.raw beside.others (standing_of old) (AreSound-kept _) (beside.continues held (sym log.1)),
        html-lighter (styling_in old) (standing_of old) takes.calls beside.others beside.lighter,
        beside.as_long,
      )

  -- the machine after what is held
  abbrev stood : Machine (List ℕ)
  stood = machine_after decoded held (new_machine [])

  together-taken : written ≤ most_together (styling_in old) (length piece)
  together-taken =
      let short = checkpoint_text stood in
      let rate = html_of_a_byte (styling_in old) in
      omega (
        arith,
        length-take written room_after,
        takes.same_length,
        takes.written_fits,
        ap length takes.html,
        length-together (styling_in old) short beside.raw beside.others (standing_of old) (AreSound-kept _) (beside.continues short (sym log.1 ∙ checkpoint_stands held stood refl)),
        html-lighter (styling_in old) (standing_of old) takes.calls beside.others beside.lighter,
        beside.as_long,
        ap (λ n. rate * (length short + n)) beside.as_long,
        times-less rate (length short + length piece) (max_checkpoint + length piece) (omega (arith, length-checkpoint held stood refl)),
      )

pub Feeds-taken : (old new : HtmlState) (piece room room_after : List ℕ) (taken written : ℕ)
    → (0 < length piece → least_room ≤ length room) → taken ≤ length piece → (0 < length piece → 0 < taken)
    → (most_html (length piece) ≤ length room → most_html (length piece) ≤ capacity → taken ≡ length piece) → taken ≤ most_taken → written ≤ capacity
    → Takes old new (take taken piece) room room_after written → Feeds old new piece room room_after taken written
Feeds-taken old new piece room room_after taken written enough fits some at_once few_taken few_written takes =
    let bytes = take taken piece in
    record {
      enough_room = enough;
      taken_fits = fits;
      written_fits = takes.written_fits;
      takes = takes;
      stands = StandsFor-taken old new bytes room room_after written takes;
      html = λ before is. (takes.calls, takes.continues before is.stream, λ own are. takes.html ∙ ap (λ at. html_from (styling_in old) at takes.calls) (is.standing own are));
      utf8 = utf8-taken old new bytes room room_after written takes;
      some_taken = some;
      taken_at_once = at_once;
      few_taken = few_taken;
      few_written = few_written;
      bounded = omega (arith, bounded-taken old new bytes room room_after written takes, length-take taken piece);
      bounded_together =
          omega (
            arith,
            together-taken old new bytes room room_after written takes,
            times-less (html_of_a_byte (styling_in old)) (max_checkpoint + length bytes) (max_checkpoint + taken) (omega (arith, length-take taken piece)),
          );
    }

-- the same of the front of a piece, as long as one call takes at most
pub Feeds-front : (old new : HtmlState) (piece room room_after : List ℕ) (size count taken written : ℕ) → size ≡ min (length room) capacity → count ≡ min (length piece) (min size most_taken)
    → (0 < length piece → least_room ≤ length room) → taken ≤ length (take count piece) → (0 < length (take count piece) → 0 < taken)
    → (length (take count piece) ≤ size / least_room → taken ≡ length (take count piece)) → written ≤ capacity
    → Takes old new (take taken (take count piece)) room room_after written → Feeds old new piece room room_after taken written
Feeds-front old new piece room room_after size count taken written sized counted enough fits some sure few takes =
    let long : length (take count piece) ≡ count = length-take-le count piece (omega (arith, counted)) in
    let within : taken ≤ count = omega (arith, fits, long) in
    Feeds-taken old new piece room room_after taken written enough (omega (arith, within, counted)) (λ bytes. some (omega (arith, bytes, enough bytes, long, counted, sized)))
    (λ roomy small.
    let all : count ≡ length piece = omega (arith, counted, sized, roomy, small) in
    sure (omega (arith, long, all, sized, roomy, small)) ∙ long ∙ all)
    (omega (arith, within, counted)) few
    (subst (λ bytes. Takes old new bytes room room_after written) (take-take taken count piece within) takes)

-- the front of a piece
pub few-front : (count : ℕ) (piece : List ℕ) → length (take count piece) ≤ count
few-front count piece = omega (arith, length-take count piece)
