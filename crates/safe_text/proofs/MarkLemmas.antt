-- Marks where hidden text begins and ends, and what a writer with marks does by calls.
use Rattle.std.proofs.Common.{◌≡◌, ℕ, Bool, true, false, List, [], ◌∷◌, ◌++◌, map, length, refl, sym, ap, ap₂, ◌∙◌, subst, append_assoc, append-nil}
use Rattle.std.specs.Bool.{beq}
use Rattle.std.specs.Prelude.{◌==◌, ◌||◌, not, if◌then◌else◌}
use Rattle.std.specs.Str.{encode_utf8_all, chars, IsUtf8}
use Rattle.std.proofs.lemmas.Str.{chars-encodes}
use Rattle.anstyle_parse.specs.declared.io.devices.Sink.{Ghosts as SinkOf}
use Rattle.anstyle_parse.specs.declared.io.output.Output.{Output}
use Rattle.anstyle_parse.specs.Io.Output.{Adds}
use Rattle.anstyle_parse.specs.Io.AddingProof.{Adds-append}
use Rattle.anstyle_parse.specs.Stream.Call.{Call, print, execute}
use Rattle.anstyle_parse.specs.Stream.Texts.{is_layout, layout_call}
use Rattle.ansi_style.specs.declared.style.Style.{Style}
use Rattle.safe_text.specs.declared.performer.SafeWriter.{SafeWriter}
use Rattle.safe_text.specs.declared.marking.MarkingWriter.{MarkingWriter}
use Rattle.safe_text.specs.Safe.{characters_of, characters, safe_from}
use Rattle.safe_text.specs.Decided.{decided_from, waiting, last_from, undecided_from}
use Rattle.safe_text.specs.Unseen.{is_unseen}
use Rattle.safe_text.specs.Marks.{Hiding, open_after, hiding_after, mark_of, mark_between, marked_of, marked_from, hiding_from, closing}
use Rattle.safe_text.specs.Writer.{output_of, before_in, held_in, text_by, ending_from, Takes}
use Rattle.safe_text.specs.TakingProof.{held-waits, Takes-none, Takes-append}
use Rattle.safe_text.specs.MarkingProof.{ends-marked}
use Rattle.safe_text.specs.MarkingWriter.{writer_in, style_in, open_in, hiding_in, output_in, ending_from as marked_ending_from, TakesMarked}
use Rattle.safe_text.proofs.CallLemmas.{characters-prints, characters-layout}
use Rattle.safe_text.proofs.WholeLemmas.{whole-encoded, encoded-then-safe}

-- what is hidden or not as another
pub flag-same : (a b : Bool) → not (beq a b) ≡ false → a ≡ b
flag-same true true same = refl
flag-same false false same = refl
flag-same true false same = absurd (cc same)
flag-same false true same = absurd (cc same)

-- neither of two holds
pub neither : (a b : Bool) → (a || b) ≡ false → (a ≡ false) × (b ≡ false)
neither false false none = (refl, refl)
neither false true none = absurd (cc none)
neither true b none = absurd (cc none)

abbrev pub hiding : Style → Bool → Hiding
hiding style on = record { style = style; is_open = on }

pub hiding-same : (s t : Style) (o p : Bool) → s ≡ t → o ≡ p → hiding s o ≡ hiding t p
hiding-same s t o p style on = ap₂ hiding style on

-- a mark, or none
pub between-same : (on : Bool) → mark_between on on ≡ []
between-same true = refl
between-same false = refl

pub between-other : (on next : Bool) → (next ≡ on → ⊥) → mark_between on next ≡ mark_of next ∷ []
between-other true true other = absurd (other refl)
between-other false false other = absurd (other refl)
between-other true false other = refl
between-other false true other = refl

module _ {W : Type 0} (sink : SinkOf W) where
  -- a mark between what is hidden or not and the same is none
  pub takes-same : (old new : SafeWriter W) (on next : Bool) → next ≡ on → new ≡ old → Takes sink old (mark_between on next) new
  takes-same old new on next same stays =
      rw (same, stays) (subst (λ cs. Takes sink old cs old) (sym (between-same on)) (Takes-none sink old))

  pub takes-other : (old new : SafeWriter W) (on next : Bool) → (next ≡ on → ⊥) → Takes sink old (mark_of next ∷ []) new → Takes sink old (mark_between on next) new
  takes-other old new on next other taken = subst (λ cs. Takes sink old cs new) (sym (between-other on next other)) taken

  -- one call: its mark, and its character
  pub one-marked : (old new : MarkingWriter W) (between : SafeWriter W) (call : Call)
      → Takes sink (writer_in old) (mark_between (open_in old) (open_after call (hiding_in old))) between → Takes sink between (characters_of call) (writer_in new)
      → hiding_in new ≡ hiding_after call (hiding_in old) → TakesMarked sink old (call ∷ []) new
  one-marked old new between call first second hiding =
      let at : Hiding = hiding_in old in
      record {
        taken = subst (λ cs. Takes sink (writer_in old) cs (writer_in new)) (sym (append-nil (marked_of call at)))
            (Takes-append sink (writer_in old) between (writer_in new) (mark_between at.is_open (open_after call at)) (characters_of call) first second);
        hiding = hiding;
      }

  -- and one of which nothing is taken
  pub none-marked : (old new : MarkingWriter W) (call : Call) → characters_of call ≡ [] → open_after call (hiding_in old) ≡ open_in old
      → writer_in new ≡ writer_in old → hiding_in new ≡ hiding_after call (hiding_in old) → TakesMarked sink old (call ∷ []) new
  none-marked old new call none same stays hiding =
      one-marked old new (writer_in old) call (takes-same (writer_in old) (writer_in old) (open_in old) (open_after call (hiding_in old)) same refl)
      (rw (none, stays) (Takes-none sink (writer_in old))) hiding

  -- What comes at the end is taken, and then what waits is written.
  pub adds-behind : (behind : List ℕ) (a b : SafeWriter W) (end : Output W) → Takes sink a behind b → Adds sink (ending_from b []) (output_of b) end
      → Adds sink (encode_utf8_all (safe_from (before_in a) (held_in a ++ behind))) (output_of a) end
  adds-behind behind a b end taken ended =
      let l : List ℕ = held_in a ++ behind in
      let at = held-waits b.held (before_in b) in
      let left : ending_from b [] ≡ encode_utf8_all (undecided_from (before_in a) l) =
      ap (λ t. encode_utf8_all (undecided_from (before_in b) t)) (append-nil (held_in b))
      ∙ ap₂ (λ x y. encode_utf8_all (safe_from x y)) at.2 at.1
      ∙ ap₂ (λ x y. encode_utf8_all (safe_from x y)) taken.before taken.held in
      subst (λ t. Adds sink t (output_of a) end) (whole-encoded (before_in a) l)
      (Adds-append sink (text_by a behind) (encode_utf8_all (undecided_from (before_in a) l)) (output_of a) (output_of b) end taken.added
      (subst (λ t. Adds sink t (output_of b) end) left ended))

  pub adds-closing : (old : MarkingWriter W) (b : SafeWriter W) (end : Output W) → Takes sink (writer_in old) (mark_between (open_in old) false) b
      → Adds sink (ending_from b []) (output_of b) end → Adds sink (marked_ending_from old []) (output_in old) end
  adds-closing old b end taken ended =
      let writer = writer_in old in
      let at = held-waits writer.held (before_in writer) in
      subst (λ t. Adds sink t (output_in old) end)
      (sym (ap (λ l. encode_utf8_all (safe_from (last_from (before_in writer) l) (waiting l ++ closing (hiding_in old)))) (append-nil (held_in writer))
      ∙ ap₂ (λ x h. encode_utf8_all (safe_from x (h ++ closing (hiding_in old)))) at.2 at.1))
      (adds-behind (closing (hiding_in old)) writer b end taken ended)

  -- Calls are taken, and then all ends: that is the rest of the safe text.
  pub adds-ended : (old new : MarkingWriter W) (calls : List Call) (end : Output W) → TakesMarked sink old calls new
      → Adds sink (marked_ending_from new []) (output_in new) end
      → Adds sink
      (encode_utf8_all (safe_from (before_in (writer_in old)) (held_in (writer_in old) ++ (marked_from (hiding_in old) calls ++ closing (hiding_from (hiding_in old) calls)))))
      (output_in old) end
  adds-ended old new calls end taken ended =
      let before = before_in (writer_in old) in
      let all = held_in (writer_in old) ++ marked_from (hiding_in old) calls in
      let close = closing (hiding_from (hiding_in old) calls) in
      subst (λ t. Adds sink t (output_in old) end)
      (encoded-then-safe before all close
      ∙ ap (λ l. encode_utf8_all (safe_from before l)) (append_assoc (held_in (writer_in old)) (marked_from (hiding_in old) calls) close))
      (Adds-append sink (encode_utf8_all (decided_from before all)) (encode_utf8_all (safe_from (last_from before all) (waiting all ++ close))) (output_in old) (output_in new) end
      taken.taken.added (subst (λ t. Adds sink t (output_in new) end) (ends-marked sink old calls new taken) ended))

-- Characters that are printed: a mark before the first at most.
prints-after : (style : Style) (cs : List ℕ)
    → (marked_from (hiding style (is_unseen style)) (map print cs) ≡ cs)
    × (hiding_from (hiding style (is_unseen style)) (map print cs) ≡ hiding style (is_unseen style))
prints-after style [] = (refl, refl)
prints-after style (c ∷ cs) =
    let rest = prints-after style cs in
    (ap (λ l. (l ++ c ∷ []) ++ marked_from (hiding style (is_unseen style)) (map print cs)) (between-same (is_unseen style)) ∙ ap (λ l. c ∷ l) rest.0, rest.1)

pub prints-marked : (at : Hiding) (cs : List ℕ) → (cs ≡ [] → ⊥)
    → (marked_from at (map print cs) ≡ mark_between at.is_open (is_unseen at.style) ++ cs) × (hiding_from at (map print cs) ≡ hiding at.style (is_unseen at.style))
prints-marked at [] some = absurd (some refl)
prints-marked at (c ∷ cs) some =
    let rest = prints-after at.style cs in
    let mark = mark_between at.is_open (is_unseen at.style) in
    (append_assoc mark (c ∷ []) _ ∙ ap (λ l. mark ++ c ∷ l) rest.0, rest.1)

-- a text of some bytes has characters
pub some-characters : (text : List ℕ) → IsUtf8 text → (length text == 0) ≡ false → chars text ≡ [] → ⊥
some-characters text utf8 some none =
    let (cs, (scalars, encoded)) = utf8 in
    let no_chars : cs ≡ [] = sym (chars-encodes cs scalars) ∙ (ap chars encoded ∙ none) in
    let empty : text ≡ [] = sym encoded ∙ ap encode_utf8_all no_chars in
    absurd (cc (sym (ap (λ (t : List ℕ). length t == 0) empty) ∙ some))

-- Where nothing is hidden, a text with layout has no marks.
module _ (style : Style) (seen : is_unseen style ≡ false) where
  abbrev PlainText : List ℕ → List Call → Type 0
  PlainText cs calls = (marked_from (hiding style false) calls ≡ cs) × (hiding_from (hiding style false) calls ≡ hiding style false)

  plain-printed : (c : ℕ) (cs : List ℕ) (calls : List Call) → PlainText cs calls → PlainText (c ∷ cs) (print c ∷ calls)
  plain-printed c cs calls rest = (
    ap (λ t. (mark_between false t ++ c ∷ []) ++ marked_from (hiding style t) calls) seen ∙ ap (λ l. c ∷ l) rest.0,
    ap (λ t. hiding_from (hiding style t) calls) seen ∙ rest.1,
  )

  layout-one : (c : ℕ) (cs : List ℕ) (t : Bool) → PlainText cs (map layout_call cs) → PlainText (c ∷ cs) ((if t then execute c else print c) ∷ map layout_call cs)
  layout-one c cs true rest = (ap (λ l. c ∷ l) rest.0, rest.1)
  layout-one c cs false rest = plain-printed c cs (map layout_call cs) rest

  pub layout-plain : (cs : List ℕ) → PlainText cs (map layout_call cs)
  layout-plain [] = (refl, refl)
  layout-plain (c ∷ cs) = layout-one c cs (is_layout c) (layout-plain cs)

-- So a text is taken: with a mark before it at most, or with layout where nothing is hidden.
module _ {W : Type 0} (sink : SinkOf W) (old new : MarkingWriter W) (cs : List ℕ) where
  pub text-marked : (between : SafeWriter W) → (cs ≡ [] → ⊥)
      → Takes sink (writer_in old) (mark_between (open_in old) (is_unseen (style_in old))) between → Takes sink between (characters (map print cs)) (writer_in new)
      → style_in new ≡ style_in old → open_in new ≡ is_unseen (style_in old) → TakesMarked sink old (map print cs) new
  text-marked between some first second style on =
      let at : Hiding = hiding_in old in
      let is = prints-marked at cs some in
      record {
        taken = subst (λ l. Takes sink (writer_in old) l (writer_in new)) (sym is.0)
            (Takes-append sink (writer_in old) between (writer_in new) (mark_between at.is_open (is_unseen at.style)) cs first
            (subst (λ l. Takes sink between l (writer_in new)) (characters-prints cs) second));
        hiding = hiding-same (style_in new) at.style (open_in new) (is_unseen at.style) style on ∙ sym is.1;
      }

  pub layout-marked : is_unseen (style_in old) ≡ false → open_in old ≡ false → Takes sink (writer_in old) (characters (map layout_call cs)) (writer_in new)
      → style_in new ≡ style_in old → open_in new ≡ open_in old → TakesMarked sink old (map layout_call cs) new
  layout-marked seen closed taken style on =
      let same : hiding_in old ≡ hiding (style_in old) false = ap (hiding (style_in old)) closed in
      let is = layout-plain (style_in old) seen cs in
      record {
        taken = subst (λ l. Takes sink (writer_in old) l (writer_in new))
            (characters-layout cs ∙ sym (ap (λ at. marked_from at (map layout_call cs)) same ∙ is.0)) taken;
        hiding = hiding-same (style_in new) (style_in old) (open_in new) (open_in old) style on
            ∙ same ∙ sym (ap (λ at. hiding_from at (map layout_call cs)) same ∙ is.1);
      }
