-- The marks where text begins and ends that is drawn and not seen (specs/Unseen.antt).
use Rattle.std.specs.Str.{encode_utf8_all}
use Rattle.std.specs.Prelude.{◌≡◌, ℕ, Bool, true, false, ◌||◌, ◌==◌, ⊤, List, [], ◌∷◌, ◌++◌, if◌then◌else◌}
use Rattle.anstyle_parse.specs.Stream.Call.{Call, print, execute}
use Rattle.ansi_style.specs.declared.style.Style.{Style}
use Rattle.ansi_style.specs.Style.{plain}
use Rattle.ansi_style.specs.Rendition.{style_after}
use Rattle.safe_text.specs.Unseen.{is_unseen}
use Rattle.safe_text.specs.Safe.{hides, shows, characters_of, safe_from}
use Rattle.safe_text.specs.Decided.{decided_from, waiting, last_from}

-- The style of the text that comes next; and whether a run of hidden text is open, whose end is not marked yet.
pub record Hiding : Type 0 where
  pub style : Style
  pub is_open : Bool

-- at the start of a stream
abbrev pub nothing_hidden : Hiding
nothing_hidden = record { style = plain; is_open = false }

-- A character that is printed is of such a run where it is not seen. A control is of none: so a run ends in its line.
abbrev pub open_after : Call → Hiding → Bool
open_after (print c) at = is_unseen at.style
open_after (execute byte) at = false
open_after call at = at.is_open

abbrev pub hiding_after : Call → Hiding → Hiding
hiding_after call at = record { style = style_after call at.style; is_open = open_after call at }

-- the mark between what is hidden or not and what comes then
abbrev pub mark_of : (hidden : Bool) → ℕ
mark_of hidden = if hidden then hides else shows

abbrev pub mark_between : (on next : Bool) → List ℕ
mark_between true true = []
mark_between false false = []
mark_between on next = mark_of next ∷ []

-- the characters of calls, with the marks between them
abbrev pub marked_of : Call → Hiding → List ℕ
marked_of call at = mark_between at.is_open (open_after call at) ++ characters_of call

abbrev pub marked_from : Hiding → List Call → List ℕ
marked_from at [] = []
marked_from at (call ∷ calls) = marked_of call at ++ marked_from (hiding_after call at) calls

abbrev pub hiding_from : Hiding → List Call → Hiding
hiding_from at [] = at
hiding_from at (call ∷ calls) = hiding_from (hiding_after call at) calls

-- and the mark at the end, where a run is open
abbrev pub closing : Hiding → List ℕ
closing at = mark_between at.is_open false

abbrev pub marked : List Call → List ℕ
marked calls = marked_from nothing_hidden calls ++ closing (hiding_from nothing_hidden calls)

-- The safe text of calls in which hidden text is marked.
abbrev pub safe_marked : List Call → List ℕ
safe_marked calls = encode_utf8_all (safe_from 0 (marked calls))

-- Its two parts, which `marked` of `laws::whole` joins.
abbrev pub decided_marked : List Call → List ℕ
decided_marked calls = encode_utf8_all (decided_from 0 (marked_from nothing_hidden calls))

abbrev pub undecided_marked : List Call → List ℕ
undecided_marked calls =
    encode_utf8_all (safe_from (last_from 0 (marked_from nothing_hidden calls))
    (waiting (marked_from nothing_hidden calls) ++ closing (hiding_from nothing_hidden calls)))

-- characters without the marks
abbrev pub is_mark : ℕ → Bool
is_mark c = c == hides || c == shows

abbrev pub without_marks : List ℕ → List ℕ
without_marks [] = []
without_marks (c ∷ cs) = if is_mark c then without_marks cs else c ∷ without_marks cs

-- What a stream itself says of its characters, whatever the marks: one that is printed is hidden where the style that is
-- selected there is not seen, and a control is not.
abbrev pub told_by : Style → List Call → List (ℕ × Bool)
told_by style [] = []
told_by style (print c ∷ calls) = (c, is_unseen style) ∷ told_by style calls
told_by style (execute byte ∷ calls) = (byte, false) ∷ told_by style calls
told_by style (call ∷ calls) = told_by (style_after call style) calls

-- the text of each style is seen that calls select, after this one
abbrev pub IsSeenFrom : Style → List Call → Type 0
IsSeenFrom style [] = ⊤
IsSeenFrom style (call ∷ calls) =
    (is_unseen (style_after call style) ≡ false) × IsSeenFrom (style_after call style) calls

-- no call begins to hide text
abbrev pub NeverHides : List Call → Type 0
NeverHides calls = IsSeenFrom plain calls
