-- The HTML of a list of calls in blocks of lines: each block is one element, with as many lines as a block has, the
-- last one with what is left. So a browser lays out what shows of a long text alone. In a block stands text, as in HTML
-- without blocks, or numbered lines.
use Rattle.std.specs.Prelude.{◌≡◌, ◌≢◌, ◌<◌, ℕ, zero, suc, Bool, true, false, ◌&&◌, ◌==◌, ◌-◌, List, [], ◌∷◌, ◌++◌, codes, length, filter, if◌then◌else◌}
use Rattle.std.specs.List.{AllByRecursion, flat_map}
use Rattle.anstyle_parse.specs.Stream.Call.{Call}
use Rattle.ansi_strip.specs.Strip.{stripped_call}
use Rattle.ansi_html.specs.declared.scheme.Styling.{Styling}
use Rattle.ansi_html.specs.Affordable.{affordable}
use Rattle.ansi_html.specs.Html.{element_end, after_text, is_executed, call_html, standing_after}
use Rattle.ansi_html.specs.Grammar.{IsFragment}
use Rattle.ansi_html.specs.Lines.{Lined, lined, lined_at_start, ended, lined_call, lined_after, lined_end, next_number, text_in, AreLines}

-- the lines that a block has
abbrev pub lines_a_block : ℕ
lines_a_block = 500

-- A block's element says how many lines it has at most.
abbrev pub block_begin : List ℕ
block_begin = codes "<span data-lines=\"500\">"

abbrev pub block_end : List ℕ
block_end = codes "</span>"

-- What stands in blocks: a call of text or of numbered lines, where it leads, and what ends the elements that are open.
abbrev pub inside_call : (numbered : Bool) → Styling → Lined → Call → List ℕ
inside_call false styling it call = call_html styling it.at call
inside_call true styling it call = lined_call styling it call

abbrev pub inside_after : (numbered : Bool) → Call → Lined → Lined
inside_after false call it = lined (standing_after call it.at) it.number it.is_open it.spare
inside_after true call it = lined_after call it

abbrev pub inside_end : (numbered : Bool) → Lined → List ℕ
inside_end false it = element_end it.at.shown
inside_end true it = lined_end it

-- Where HTML in blocks stands: where what is in them does, and how many lines the block that is open may still take, or
-- 0 where none is.
pub record Blocked : Type 0 where
  pub inside : Lined
  pub left : ℕ

abbrev pub blocked : Lined → (left : ℕ) → Blocked
blocked inside left = record { inside = inside; left = left }

abbrev pub blocked_at_start : Blocked
blocked_at_start = blocked lined_at_start 0

-- A block begins before its first text, where none is open, and ends with the line feed of its last line: then nothing
-- is open.
abbrev pub left_with_text : Blocked → ℕ
left_with_text it = if it.left == 0 then lines_a_block else it.left

abbrev pub block_opening : Blocked → List ℕ
block_opening it = if it.left == 0 then block_begin else []

abbrev pub ends_block : Blocked → Call → Bool
ends_block it call = is_executed 0x0A call && left_with_text it == 1

abbrev pub block_closing : (inside : Lined) → (ends : Bool) → List ℕ
block_closing inside ends = if ends then element_end inside.at.shown ++ block_end else []

-- the lines that are left after a call with text, or none
abbrev pub left_after : Blocked → Call → ℕ
left_after it call =
    if is_executed 0x0A call then left_with_text it - 1 else after_text it.left (left_with_text it) (stripped_call call)

-- what a call writes, and where it leads
abbrev pub blocked_call : (numbered : Bool) → Styling → Blocked → Call → List ℕ
blocked_call numbered styling it call =
    after_text [] (block_opening it) (stripped_call call) ++ (inside_call numbered styling it.inside call
    ++ block_closing (inside_after numbered call it.inside) (ends_block it call))

abbrev pub block_ended : Lined → Blocked
block_ended inside = blocked (lined (ended inside.at) inside.number false inside.spare) 0

abbrev pub blocked_after : (numbered : Bool) → Call → Blocked → Blocked
blocked_after numbered call it =
    if ends_block it call then block_ended (inside_after numbered call it.inside)
    else blocked (inside_after numbered call it.inside) (left_after it call)

-- the calls, one after another
abbrev pub blocked_from : (numbered : Bool) → Styling → Blocked → List Call → List ℕ
blocked_from numbered styling it [] = []
blocked_from numbered styling it (call ∷ calls) =
    blocked_call numbered styling it call ++ blocked_from numbered styling (blocked_after numbered call it) calls

abbrev pub blocked_at_end : (numbered : Bool) → Blocked → List Call → Blocked
blocked_at_end numbered it [] = it
blocked_at_end numbered it (call ∷ calls) = blocked_at_end numbered (blocked_after numbered call it) calls

-- what ends the elements that are open
abbrev pub blocked_end : (numbered : Bool) → Blocked → List ℕ
blocked_end numbered it = inside_end numbered it.inside ++ (if it.left == 0 then [] else block_end)

-- The HTML of the calls of a stream in blocks, as far as it has come; what ends it; and both.
abbrev pub blocked_text : (numbered : Bool) → Styling → List Call → List ℕ
blocked_text numbered styling calls = blocked_from numbered styling blocked_at_start calls

abbrev pub blocked_ending : (numbered : Bool) → List Call → List ℕ
blocked_ending numbered calls = blocked_end numbered (blocked_at_end numbered blocked_at_start calls)

abbrev pub blocked_html : (numbered : Bool) → Styling → List Call → List ℕ
blocked_html numbered styling calls = blocked_text numbered styling calls ++ blocked_ending numbered calls

-- The calls whose HTML a reader sees in blocks: of text those of the stream, and of numbered lines those whose links can
-- pay.
abbrev pub calls_seen : (numbered : Bool) → List Call → List Call
calls_seen false calls = calls
calls_seen true calls = affordable calls

-- HTML in parts, each in the element of a block.
abbrev pub in_blocks : (parts : List (List ℕ)) → List ℕ
in_blocks parts = flat_map (λ part. block_begin ++ (part ++ block_end)) parts

-- HTML in blocks of which nothing but their tags tells it from HTML without: what stands in them, one after another, is
-- that.
pub record AreBlocksOf (inside html : List ℕ) : Type 0 where
  pub parts : List (List ℕ)
  pub blocks : html ≡ in_blocks parts
  pub joined : inside ≡ flat_map (λ part. part) parts

-- In each of such blocks stands a fragment.
pub record AreBlocksOfFragments (styling : Styling) (html : List ℕ) : Type 0 where
  pub parts : List (List ℕ)
  pub blocks : html ≡ in_blocks parts
  pub fragments : AllByRecursion (IsFragment styling) parts

-- So many lines, each with the line feed at its end: the text has as many, and ends with one.
abbrev pub line_feeds : (text : List ℕ) → ℕ
line_feeds text = length (filter (λ b. b == 0x0A) text)

pub record AreWholeLines (count : ℕ) (text : List ℕ) : Type 0 where
  pub before : List ℕ
  pub ends : text ≡ before ++ (0x0A ∷ [])
  pub counted : line_feeds text ≡ count

-- So many lines at most, and some: the last of fewer need not have its line feed.
pub data AreLinesUpTo (count : ℕ) (text : List ℕ) : Type 0 where
  as_many : AreWholeLines count text → AreLinesUpTo count text
  fewer : text ≢ [] → line_feeds text < count → AreLinesUpTo count text

-- What stands in a block, after the line of this number: numbered lines, or text.
abbrev pub StandsInBlock : (numbered : Bool) → Styling → (number : ℕ) → List ℕ → Type 0
StandsInBlock false styling number inside = IsFragment styling inside
StandsInBlock true styling number inside = AreLines styling number inside

-- the number so many lines after the line of this one
unfoldable pub number_after : (count number : ℕ) → ℕ
number_after zero number = number
number_after (suc count) number = number_after count (next_number number)

-- the same after a block; lines of text have none
abbrev pub number_after_block : (numbered : Bool) → (number : ℕ) → ℕ
number_after_block false number = number
number_after_block true number = number_after lines_a_block number

-- Blocks, after the line of this number: the text of each, as it is read, is as many whole lines as a block has, and that
-- of the last one the lines that are left.
pub data AreBlocks (numbered : Bool) (styling : Styling) : (number : ℕ) → List ℕ → Type 0 where
  no_block : (number : ℕ) → AreBlocks numbered styling number []
  block : (number : ℕ) (inside rest : List ℕ) → StandsInBlock numbered styling number inside
      → AreWholeLines lines_a_block (text_in inside)
      → AreBlocks numbered styling (number_after_block numbered number) rest
      → AreBlocks numbered styling number (block_begin ++ (inside ++ (block_end ++ rest)))
  last_block : (number : ℕ) (inside : List ℕ) → StandsInBlock numbered styling number inside
      → AreLinesUpTo lines_a_block (text_in inside)
      → AreBlocks numbered styling number (block_begin ++ (inside ++ block_end))

-- The bytes that blocks take at most for each byte of a stream. Of text, for each of 500 lines its part of the tags of a
-- block (23 and 7), and of the end and the beginning anew of the element in it, with the longest link. Of numbered lines,
-- in which that stands in each line, these tags alone, as if each line had them.
abbrev pub block_of_a_byte : ℕ
block_of_a_byte = 14

abbrev pub block_tags : ℕ
block_tags = 30
