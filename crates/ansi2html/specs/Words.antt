-- The words of the program.
use Rattle.std.specs.Prelude.{ℕ, Bool, ◌||◌, ◌&&◌, nat_eq, nat_le, nat_lt, List, [], ◌∷◌, length, codes, bytes_eq, Option, None, Some, unwrap_or, if◌then◌else◌}
use Rattle.std.specs.List.{list_all, list_any, starts_with}
use Rattle.command_line.specs.Options.{has_word, last_value}
use Rattle.ansi_html.specs.declared.scheme.Scheme.{Scheme}
use Rattle.ansi_html.specs.declared.scheme.Styling.{Styling}
use Rattle.ansi_html.specs.declared.scheme.Styling.TheVariants.{Inline, Classes}
use Rattle.ansi2html.specs.declared.form.Form.{Form}
use Rattle.ansi2html.specs.declared.form.Form.TheVariants.{Fragment, Page}

-- The form after one word more, and after all: the last of --page, or the word page, and --fragment, and else a page.
abbrev pub form_after : Form → (word : List ℕ) → Form
form_after form word =
    if bytes_eq word (codes "--fragment") then Fragment
    else if bytes_eq word (codes "--page") || bytes_eq word (codes "page") then Page else form

abbrev pub form_from : Form → (words : List (List ℕ)) → Form
form_from form [] = form
form_from form (word ∷ words) = form_from (form_after form word) words

abbrev pub form_of : (words : List (List ℕ)) → Form
form_of words = form_from Page words

-- Words say something of a page: its title, its stylesheet, its language, or that it scrolls. A fragment has none of
-- them.
abbrev pub is_of_a_page : (word : List ℕ) → Bool
is_of_a_page word =
    starts_with nat_eq word (codes "--title=") || (starts_with nat_eq word (codes "--css=")
    || (starts_with nat_eq word (codes "--lang=") || bytes_eq word (codes "--scroll")))

abbrev pub says_of_a_page : (words : List (List ℕ)) → Bool
says_of_a_page words = list_any is_of_a_page words

-- classes where some word is --classes, and else declarations
abbrev pub styling_of : Scheme → (words : List (List ℕ)) → Styling
styling_of scheme words = if has_word (codes "--classes") words then Classes else Inline scheme

-- the stylesheet, in place of HTML
abbrev pub asks_for_stylesheet : (words : List (List ℕ)) → Bool
asks_for_stylesheet words = has_word (codes "--stylesheet") words

-- the title of a page that is given none
abbrev pub default_title : List ℕ
default_title = codes "Terminal output"

-- A tag of a language: letters, digits and hyphens, 64 at most, so that the page's charset, which follows it, stands
-- within the first 1,024 bytes (RFC 5646, 2.1 and 4.4.1, by which no registered tag needs more than 35).
abbrev pub is_tag_byte : ℕ → Bool
is_tag_byte b =
    (nat_le 0x30 b && nat_le b 0x39)
    || ((nat_le 0x41 b && nat_le b 0x5A) || ((nat_le 0x61 b && nat_le b 0x7A) || nat_eq b 0x2D))

abbrev pub is_tag : (text : List ℕ) → Bool
is_tag text = nat_lt 0 (length text) && (nat_le (length text) 64 && list_all is_tag_byte text)

-- the language of a page that is given none
abbrev pub default_language : List ℕ
default_language = codes "en"

-- the language that is given last, where it is a tag
abbrev pub language_of : (words : List (List ℕ)) → Option (List ℕ)
language_of words =
    let tag = unwrap_or (last_value (codes "--lang=") words) default_language in
    if is_tag tag then Some tag else None

-- The text in lines, where some word is --lines; and long lines that are not wrapped, where one is --scroll.
abbrev pub asks_for_lines : (words : List (List ℕ)) → Bool
asks_for_lines words = has_word (codes "--lines") words

abbrev pub asks_to_scroll : (words : List (List ℕ)) → Bool
asks_to_scroll words = has_word (codes "--scroll") words

-- Addresses in the text are links, where some word is --urls.
abbrev pub asks_for_urls : (words : List (List ℕ)) → Bool
asks_for_urls words = has_word (codes "--urls") words

-- Hidden text is left out, where some word is --no-hidden.
abbrev pub asks_for_no_hidden : (words : List (List ℕ)) → Bool
asks_for_no_hidden words = has_word (codes "--no-hidden") words
