-- The last record stands for what the room has from its start on.
use Rattle.std.proofs.Common.{◌≡◌, ◌-◌, ◌++◌, ◌∷◌, true, false, refl, sym, ap, ◌∙◌, arith}
use Rattle.std.proofs.lemmas.Bool.{true≢false}
use Rattle.event_pieces.specs.Event.{with_length}
use Rattle.event_pieces.proofs.RoomLemmas.{get-last, set-last}
use Rattle.event_pieces.proofs.writer.EventWriter.note_text.Goals as goal

pub returns-then-ends_with_text : goal.returns-then-ends_with_text
returns-then-ends_with_text c =
    let old = c.args.self.now in record {
      same_reference = refl;
      same_room = refl;
      same_used = refl;
      few = omega arith;
      first = λ none. absurd (omega (arith, none, c.if-ends_with_text.ensures.some));
      behind = λ events last rest whole at other.
          let both : true ≡ false = sym c.if-ends_with_text.true ∙ c.ends_with_text.ensures.text events last rest whole at ∙ other in
          absurd (true≢false both);
      longer = λ events last rest whole at is. (
        refl,
        set-last old.events.now events last _ rest old.written whole at c.saturating_sub.result
            ∙ ap (λ n. events ++ with_length last n ∷ rest)
            (c.saturating_sub.ensures ∙ ap (λ event. old.used - event.start) (get-last old.events.now events last _ rest old.written whole at)),
      );
    }
