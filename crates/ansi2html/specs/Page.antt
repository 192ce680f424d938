-- What stands around the text.
--
-- Sources: the HTML standard, 13.1 (the syntax of a page), 3.2.6.2 (`lang`, by which a page is read aloud),
-- 4.2.5.4 (its charset, within the first 1,024 bytes) and 4.4.3 (`pre`); CSS Color Adjustment, 2.1 (a page
-- that is drawn light or dark, as its reader has it); CSS Text, 3 and 5.5 (long lines are wrapped or not,
-- spaces are kept); CSS Generated Content, 1.2 and 2 (a number that is no text); CSS Viewport, 3 (a phone
-- draws it at its own width); HTML, 4.2.4 (a stylesheet of another file), for which Content Security Policy,
-- 6.1.14, wants no leave for rules of the page's own.
use Rattle.std.specs.Prelude.{ℕ, ◌+◌, Bool, not, ◌&&◌, nat_eq, nat_lt, List, [], ◌∷◌, ◌++◌, length, codes, bytes_eq, Option, None, Some, is_some, option_copied, if◌then◌else◌}
use Rattle.std.specs.List.{flat_map}
use Rattle.ansi_html.specs.declared.scheme.Scheme.{Scheme}
use Rattle.ansi_html.specs.declared.scheme.Scheme.TheVariants.{Light, Dark, Both}
use Rattle.ansi_html.specs.declared.scheme.Styling.{Styling}
use Rattle.ansi_html.specs.declared.scheme.Styling.TheVariants.{Inline, Classes}
use Rattle.ansi_html.specs.Html.{escaped_text}
use Rattle.ansi_html.specs.Stylesheet.{stylesheet}
use Rattle.ansi2html.specs.declared.form.Said.{Said}
use Rattle.ansi2html.specs.Names.{visible}

-- lines, each with the line feed that ends it
abbrev pub lines : List (List ℕ) → List ℕ
lines texts = flat_map (λ text. text ++ 0x0A ∷ []) texts

-- The colours of a page: as its reader has it, or those of the scheme, which a reader that knows no
-- color-scheme draws too. The dark ground is Chromium's.
abbrev pub page_colors : Scheme → List ℕ
page_colors Light = codes ":root { color-scheme: light; color: #000000; background-color: #ffffff; }\n"
page_colors Dark = codes ":root { color-scheme: dark; color: #ffffff; background-color: #121212; }\n"
page_colors Both = codes ":root { color-scheme: light dark; }\n"

-- the same of a page without rules, as its head names the scheme (HTML, 4.2.5.1)
abbrev pub named_scheme : Scheme → List ℕ
named_scheme Light = lines (codes "<meta name=\"color-scheme\" content=\"light\">" ∷ [])
named_scheme Dark = lines (codes "<meta name=\"color-scheme\" content=\"dark\">" ∷ [])
named_scheme Both = lines (codes "<meta name=\"color-scheme\" content=\"light dark\">" ∷ [])

-- The page up to its language, from there to its title, from what says how it looks to its body, and from there to a
-- text. A reader drops the line feed after <pre>.
abbrev pub before_language : List ℕ
before_language = lines (codes "<!DOCTYPE html>" ∷ []) ++ codes "<html lang=\""

abbrev pub before_title : List ℕ
before_title =
    lines
    (codes "\">" ∷
    codes "<head>" ∷
    codes "<meta charset=\"utf-8\">" ∷
    codes "<meta name=\"viewport\" content=\"width=device-width\">" ∷ [])
    ++ codes "<title>"

abbrev pub after_title : List ℕ
after_title = lines (codes "</title>" ∷ [])

abbrev pub after_head : List ℕ
after_head = lines (codes "</head>" ∷ codes "<body>" ∷ [])

-- A page without rules whose long lines are wrapped says so by a class, for which the stylesheet has a rule.
abbrev pub before_text : (wraps : Bool) → List ℕ
before_text wraps = lines ((if wraps then codes "<pre class=\"ansi-wrap\">" else codes "<pre>") ∷ [])

-- the end of a text
abbrev pub after_text : List ℕ
after_text = lines (codes "</pre>" ∷ [])

-- the rules of the classes, where there are any
abbrev pub page_rules : Styling → Scheme → List ℕ
page_rules (Inline inline) scheme = []
page_rules Classes scheme = stylesheet scheme

-- How lines look, of which each is an element in the <pre>: a block that leaves room for its number, with a bar where
-- it is linked to, and the number, which is drawn of an attribute, so that it is no part of the text. Its colour has
-- WCAG's contrast of 4.5:1 on the page's ground. On a narrow page (Media Queries 4, 4.1) there is less room for it.
abbrev pub number_color : Scheme → List ℕ
number_color Light = codes "color: #59636e;"
number_color Dark = codes "color: #9198a1;"
number_color Both = codes "color: #59636e; color: light-dark(#59636e, #9198a1);"

abbrev pub line_rules : Scheme → List ℕ
line_rules scheme =
    lines (codes "pre [id^=L] { display: block; padding-left: 9ch; }" ∷
    codes "pre [id^=L]:target { box-shadow: inset 4px 0 #bf8700; }" ∷ [])
    ++ (codes "[data-line] { float: left; margin-left: -8ch; min-width: 7ch; text-align: right; text-decoration: none; "
    ++ (number_color scheme ++ lines (codes " }" ∷
    codes "[data-line]::before { content: attr(data-line); }" ∷
    codes "@media (max-width: 40em) {" ∷
    codes "pre [id^=L] { padding-left: 6ch; }" ∷
    codes "[data-line] { margin-left: -6ch; min-width: 5ch; }" ∷
    codes "}" ∷ [])))

abbrev pub page_lines : (has_lines : Bool) → Scheme → List ℕ
page_lines has_lines scheme = if has_lines then line_rules scheme else []

-- Long lines are wrapped, or the page scrolls. A block of lines that is out of sight is not laid out before it is
-- scrolled to (CSS Containment, 4); until then it is as high as its lines. Where lines are not wrapped it is as wide as
-- its longest one, which would be cut off otherwise.
abbrev pub text_rules : (scrolls : Bool) → List ℕ
text_rules scrolls =
    if scrolls
    then lines (codes "pre { white-space: pre; }" ∷
    codes "pre > [data-lines] { display: block; width: max-content; min-width: 100%; content-visibility: auto; contain-intrinsic-height: auto 500lh; }" ∷
    [])
    else lines (codes "pre { white-space: pre-wrap; overflow-wrap: anywhere; }" ∷
    codes "pre > [data-lines] { display: block; content-visibility: auto; contain-intrinsic-height: auto 500lh; }" ∷ [])

-- How a page looks, by its own rules: it asks for nothing from elsewhere.
abbrev pub page_style : Styling → Scheme → (has_lines scrolls : Bool) → List ℕ
page_style styling scheme has_lines scrolls =
    lines (codes "<style>" ∷ [])
    ++ (page_colors scheme ++ (page_rules styling scheme
    ++ (page_lines has_lines scheme ++ (text_rules scrolls ++ lines (codes "</style>" ∷ [])))))

-- By the stylesheet at an address, of which the bytes with a meaning in HTML are references.
abbrev pub page_link : Scheme → (address : List ℕ) → List ℕ
page_link scheme address =
    named_scheme scheme
    ++ (codes "<link rel=\"stylesheet\" href=\"" ++ (escaped_text address ++ lines (codes "\">" ∷ [])))

abbrev pub looks_by : Styling → Scheme → Said → (address : Option (List ℕ)) → List ℕ
looks_by styling scheme said None = page_style styling scheme said.has_lines said.scrolls
looks_by styling scheme said (Some address) = page_link scheme address

abbrev pub page_looks : Styling → Scheme → Said → List ℕ
page_looks styling scheme said = looks_by styling scheme said (option_copied said.stylesheet)

-- The text of a page wraps by a class where it has no rules, and does not scroll.
abbrev pub wraps_by_class : Said → Bool
wraps_by_class said = is_some (option_copied said.stylesheet) && not said.scrolls

-- The page as far as its body, with what is said of it, of which the bytes with a meaning in HTML are
-- references.
abbrev pub page_head : Styling → Scheme → Said → List ℕ
page_head styling scheme said =
    before_language ++ (escaped_text said.language.now ++ (before_title
    ++ (escaped_text said.title.now ++ (after_title
    ++ (page_looks styling scheme said ++ after_head)))))

-- the page after its last text
abbrev pub page_tail : List ℕ
page_tail = lines (codes "</pre>" ∷ codes "</body>" ∷ codes "</html>" ∷ [])

-- Where a page has several files, each has a heading (HTML, 4.3.6): its name, of which what shows nothing is written
-- visibly, and the bytes with a meaning in HTML are references. That of standard input is in words.
abbrev pub name_shown : (name : List ℕ) → List ℕ
name_shown name = if bytes_eq name (codes "-") then codes "standard input" else name

abbrev pub heading : (shown : List ℕ) → List ℕ
heading shown = codes "<h2>" ++ (escaped_text shown ++ lines (codes "</h2>" ∷ []))

-- The head of a page stands before its first file alone, and headings where there are several.
abbrev pub head_of : (is_first : Bool) → Styling → Scheme → Said → List ℕ
head_of is_first styling scheme said = if is_first then page_head styling scheme said else []

abbrev pub heading_of : (is_one_of_many : Bool) → (shown : List ℕ) → List ℕ
heading_of is_one_of_many shown = if is_one_of_many then heading shown else []

-- What stands before the text of a file of a page, and after it; files are numbered from 0.
abbrev pub before_part : Styling → Scheme → Said → (count number : ℕ) → (name : List ℕ) → List ℕ
before_part styling scheme said count number name =
    head_of (nat_eq number 0) styling scheme said
    ++ (heading_of (nat_lt 1 count) (visible (name_shown name)) ++ before_text (wraps_by_class said))

abbrev pub after_part : (count number : ℕ) → List ℕ
after_part count number = if nat_eq (number + 1) count then page_tail else after_text

-- what stands before a file, the file, by its name, and what stands after it
abbrev pub Around : Type 0
Around = List ℕ × List (List ℕ) × List ℕ

abbrev pub around_of : Styling → Scheme → Said → (count number : ℕ) → (name : List ℕ) → Around
around_of styling scheme said count number name =
    (before_part styling scheme said count number name, name ∷ [], after_part count number)

-- the same of all files, from a number on
abbrev pub around_from : Styling → Scheme → Said → (count number : ℕ) → (names : List (List ℕ)) → List Around
around_from styling scheme said count number [] = []
around_from styling scheme said count number (name ∷ names) =
    around_of styling scheme said count number name ∷ around_from styling scheme said count (number + 1) names

-- the page of these files
abbrev pub page_around : Styling → Scheme → Said → (names : List (List ℕ)) → List Around
page_around styling scheme said names = around_from styling scheme said (length names) 0 names

-- How pages without rules look, by the stylesheet: as those with rules do.
abbrev pub linked_rules : List ℕ
linked_rules =
    lines (codes ".ansi-wrap { white-space: pre-wrap; overflow-wrap: anywhere; }" ∷
    codes "[data-lines] { display: block; width: max-content; min-width: 100%; content-visibility: auto; contain-intrinsic-height: auto 500lh; }" ∷
    codes ".ansi-wrap > [data-lines] { width: auto; }" ∷ [])

-- The stylesheet of sites: the rules of the classes, those of lines, and those of pages without rules.
abbrev pub site_rules : Scheme → List ℕ
site_rules scheme = stylesheet scheme ++ (line_rules scheme ++ linked_rules)
