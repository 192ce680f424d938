-- What a source gave, shown by a screen.
use Rattle.std.specs.Prelude.{ℕ, Bool, ◌&&◌, List, ◌++◌, length, drop}
use Rattle.each_source.specs.Each.{Given}
use Rattle.screen_text.specs.declared.recording.ShownSize.{ShownSize}
use Rattle.screen_text.specs.Recording.{is_decided, screen_for}
use Rattle.screen_calls.specs.declared.begin.ShowingFirst.{ShowingFirst}
use Rattle.screen_calls.specs.Calls.{left_calls, shown_calls}

-- which size the screens have; what makes the performers to which it is given on
abbrev pub size_of : {B : Type 0} → ShowingFirst B → ShownSize
size_of it = it.size

abbrev pub begin_in : {B : Type 0} → ShowingFirst B → B
begin_in it = it.begin

-- the first bytes of a stream say both
abbrev pub is_enough : ShownSize → (enough : List ℕ → Bool) → (front : List ℕ) → Bool
is_enough size enough front = is_decided size front && enough front

-- the calls of all that was shown in place of those of the source; and those of what left the screen
abbrev pub shown_of : ShownSize → Given → Given
shown_of size given = record given { calls = shown_calls (screen_for size given.read) given.calls }

abbrev pub left_of : ShownSize → Given → Given
left_of size given = record given { calls = left_calls (screen_for size given.read) given.calls }

-- What is still to be written after what left: of all that is written of what was shown, what comes after that.
abbrev pub ending_of : (text ending : Given → List ℕ) → ShownSize → Given → List ℕ
ending_of text ending size given =
    drop (length (text (left_of size given))) (text (shown_of size given) ++ ending (shown_of size given))
