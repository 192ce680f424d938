-- Calls without the text that Select Graphic Rendition hides.
--
-- Source: ECMA-48 (5th edition), 8.3.117 SGR: 8, concealed characters, until 28, revealed characters, or 0.
use Rattle.std.specs.Prelude.{Bool, true, not, List, [], ◌∷◌, ◌++◌, if◌then◌else◌}
use Rattle.anstyle_parse.specs.Stream.Call.{Call, print}
use Rattle.ansi_style.specs.declared.style.Style.{Style}
use Rattle.ansi_style.specs.Rendition.{style_after}

-- A character that is printed stays where the style that is selected does not hide it; any other call stays.
abbrev pub stays : Style → Call → Bool
stays style (print c) = not style.hidden
stays style call = true

abbrev pub without_hidden : Style → List Call → List Call
without_hidden style [] = []
without_hidden style (call ∷ calls) =
    (if stays style call then call ∷ [] else []) ++ without_hidden (style_after call style) calls

-- the style after calls
abbrev pub style_from : Style → List Call → Style
style_from style [] = style
style_from style (call ∷ calls) = style_from (style_after call style) calls
