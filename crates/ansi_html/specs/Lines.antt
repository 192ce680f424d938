-- The HTML of a list of calls in lines: each line of its text is one element, which has its number. What a style or a
-- link goes on over stands in each of its lines anew.
use Rattle.std.specs.Prelude.{◌≡◌, ◌≢◌, ℕ, suc, Bool, true, false, not, nat_lt, ◌==◌, List, [], ◌∷◌, ◌++◌, codes, map, decimal, IsTrue, if◌then◌else◌}
use Rattle.std.specs.List.{list_all}
use Rattle.anstyle_parse.specs.Stream.Call.{Call}
use Rattle.ansi_strip.specs.Strip.{stripped_call}
use Rattle.ansi_html.specs.declared.scheme.Styling.{Styling}
use Rattle.ansi_html.specs.declared.scheme.Styling.TheVariants.{Inline, Classes}
use Rattle.ansi_html.specs.Affordable.{earned, earned_by_text, feed_counts, is_paid, left_of}
use Rattle.ansi_html.specs.Html.{element, Standing, at_start, no_element, element_end, after_text, is_executed, call_html, standing_after}
use Rattle.ansi_html.specs.Reader.{byte_of, read}
use Rattle.ansi_html.specs.Grammar.{IsFragment}

-- Lines are numbered from 1; the greatest number stays.
abbrev pub max_number : ℕ
max_number = 18446744073709551615

abbrev pub next_number : ℕ → ℕ
next_number number = if nat_lt number max_number then suc number else number

-- The beginning of a line's element, by which it can be linked to (HTML, 3.2.6 and 7.4.6.4): `id` is `L` and its
-- number. A link of no text, to the line itself, has the number, which a rule of CSS draws: so it is no part of the
-- text.
abbrev pub line_begin : (number : ℕ) → List ℕ
line_begin number =
    codes "<span id=\"L" ++ (decimal number ++ (codes "\"><a href=\"#L" ++ (decimal number ++ (codes "\" data-line=\""
    ++ (decimal number ++ codes "\"></a>")))))

abbrev pub line_end : List ℕ
line_end = codes "</span>"

-- Where HTML in lines stands: where the HTML of a stream does; the number of the last line that began, or 0; whether it
-- is open; and what is spare for links that go on.
pub record Lined : Type 0 where
  pub at : Standing
  pub number : ℕ
  pub is_open : Bool
  pub spare : ℕ

abbrev pub lined : Standing → (number : ℕ) → (is_open : Bool) → (spare : ℕ) → Lined
lined at number is_open spare = record { at = at; number = number; is_open = is_open; spare = spare }

abbrev pub lined_at_start : Lined
lined_at_start = lined at_start 0 false 0

-- A line begins before its first text, where none is open, and ends with its line feed: then nothing is open.
abbrev pub text_number : Lined → ℕ
text_number it = if it.is_open then it.number else next_number it.number

abbrev pub before_text : Lined → List ℕ
before_text it = if it.is_open then [] else line_begin (next_number it.number)

abbrev pub line_opening : Lined → (text : List ℕ) → List ℕ
line_opening it text = after_text [] (before_text it) text

abbrev pub line_closing : Lined → (is_line_feed : Bool) → List ℕ
line_closing it is_line_feed = if is_line_feed then element_end it.at.selected ++ line_end else []

abbrev pub ended : Standing → Standing
ended at = record { shown = no_element; selected = at.selected; returned = at.returned }

-- The link that is selected goes on in the next line where that is paid, and else it is none.
abbrev pub going_on : (paid : Bool) → Standing → Standing
going_on paid at = record {
  shown = at.shown;
  selected = element at.selected.style (if paid then at.selected.link else []);
  returned = at.returned;
}

abbrev pub line_ended : Standing → (number spare : ℕ) → Lined
line_ended at number spare =
    lined (going_on (is_paid spare at.selected.link) (ended at)) number false (left_of spare at.selected.link)

-- what a call writes, and where it leads
abbrev pub lined_call : Styling → Lined → Call → List ℕ
lined_call styling it call =
    line_opening it (stripped_call call) ++ (call_html styling it.at call ++ line_closing it (is_executed 0x0A call))

abbrev pub after_feed : Call → Lined → Lined
after_feed call it = line_ended (standing_after call it.at) (text_number it) (earned feed_counts it.spare)

abbrev pub after_others : Call → Lined → Lined
after_others call it =
    lined (standing_after call it.at) (after_text it.number (text_number it) (stripped_call call))
    (after_text it.is_open true (stripped_call call)) (earned_by_text (stripped_call call) it.spare)

abbrev pub lined_after : Call → Lined → Lined
lined_after call it = if is_executed 0x0A call then after_feed call it else after_others call it

-- the calls, one after another
abbrev pub lined_from : Styling → Lined → List Call → List ℕ
lined_from styling it [] = []
lined_from styling it (call ∷ calls) = lined_call styling it call ++ lined_from styling (lined_after call it) calls

abbrev pub lined_at_end : Lined → List Call → Lined
lined_at_end it [] = it
lined_at_end it (call ∷ calls) = lined_at_end (lined_after call it) calls

-- what ends the elements that are open
abbrev pub lined_end : Lined → List ℕ
lined_end it = element_end it.at.shown ++ (if it.is_open then line_end else [])

-- The HTML of the calls of a stream in lines, as far as it has come; what ends it; and both.
abbrev pub lined_text : Styling → List Call → List ℕ
lined_text styling calls = lined_from styling lined_at_start calls

abbrev pub lined_ending : List Call → List ℕ
lined_ending calls = lined_end (lined_at_end lined_at_start calls)

abbrev pub lined_html : Styling → List Call → List ℕ
lined_html styling calls = lined_text styling calls ++ lined_ending calls

-- Lines, after the one of this number: each is one element with the next number, and its text, as it is read, is one
-- line with the line feed at its end, which the last line need not have.
abbrev pub is_no_feed : ℕ → Bool
is_no_feed b = not (b == 0x0A)

abbrev pub HasNoLineFeed : List ℕ → Type 0
HasNoLineFeed text = IsTrue (list_all is_no_feed text)

abbrev pub text_in : (html : List ℕ) → List ℕ
text_in html = map byte_of (read html)

pub data AreLines (styling : Styling) : (number : ℕ) → List ℕ → Type 0 where
  no_line : (number : ℕ) → AreLines styling number []
  line : (number : ℕ) (inside text rest : List ℕ) → IsFragment styling inside → HasNoLineFeed text
      → text_in inside ≡ text ++ (0x0A ∷ []) → AreLines styling (next_number number) rest
      → AreLines styling number (line_begin (next_number number) ++ (inside ++ (line_end ++ rest)))
  last : (number : ℕ) (inside text : List ℕ) → IsFragment styling inside → HasNoLineFeed text → text ≢ []
      → text_in inside ≡ text
      → AreLines styling number (line_begin (next_number number) ++ (inside ++ line_end))

-- The bytes of HTML in lines at most for each byte of a stream. A line feed alone is a line: that is its tags (103, where
-- its number has twenty digits, and 7), a span (275 and 7, or 119 and 7 by classes), the end of a link (4), the line
-- feed, and the tag of a link that goes on (60), with the 100 bytes that it may have for a line feed; 577 and 421 are
-- what is proved of it.
abbrev pub lined_html_of_a_byte : Styling → ℕ
lined_html_of_a_byte (Inline scheme) = 577
lined_html_of_a_byte Classes = 421
