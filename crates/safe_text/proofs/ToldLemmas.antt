-- Which characters stand between the marks of hidden text, where it is read back.
use Rattle.std.proofs.Common.{◌≡◌, ℕ, ◌≤◌, Bool, true, false, List, [], ◌∷◌, ◌++◌, map, refl, sym, ap, ap₂, ◌∙◌, arith, append_assoc, ⊎_elim, IsTrue}
use Rattle.std.specs.Prelude.{◌==◌, ◌&&◌}
use Rattle.std.specs.Char.{IsScalar}
use Rattle.std.specs.Str.{chars}
use Rattle.std.proofs.lemmas.Bool.{or_cases, ne_eqb}
use Rattle.anstyle_parse.specs.Stream.Bytes.{is_within}
use Rattle.anstyle_parse.specs.Stream.Call.{Call, print, execute, hook, put, unhook, osc_dispatch, csi_dispatch, esc_dispatch}
use Rattle.anstyle_parse.specs.Laws.Lawful.{is_character, AreLawfulFrom, AreLawful}
use Rattle.anstyle_parse.proofs.Characters.Encoding.{within_parts}
use Rattle.ansi_style.specs.declared.style.Style.{Style}
use Rattle.ansi_style.specs.Style.{plain}
use Rattle.ansi_style.specs.Rendition.{style_after}
use Rattle.safe_text.specs.Unseen.{is_unseen}
use Rattle.safe_text.specs.Safe.{hides, shows, next_of, is_line_end, is_of_line_end}
use Rattle.safe_text.specs.Reading.{read_back, ended_as, with_line_feeds, told_from, told, told_with_line_feeds}
use Rattle.safe_text.specs.Marks.{mark_between, marked_from, hiding_from, closing, marked, safe_marked, told_by}
use Rattle.safe_text.proofs.CallLemmas.{scalars-lawful}
use Rattle.safe_text.proofs.VisibleLemmas.{scalar-character, no-mark}
use Rattle.safe_text.proofs.MarkLemmas.{hiding}
use Rattle.safe_text.proofs.MarkedLemmas.{marked-items, items-below}
use Rattle.safe_text.proofs.ReadLemmas.{read-safe}
use Rattle.safe_text.proofs.WholeLemmas.{items-chars}

-- with its marks it is read back with them
pub read-marked : (calls : List Call) → AreLawful calls → read_back (chars (safe_marked calls)) ≡ with_line_feeds (marked calls)
read-marked calls lawful =
    let items = marked-items calls lawful in
    ap read_back (items-chars 0 (marked calls) items) ∙ read-safe 0 (marked calls) (items-below (marked calls) items)

abbrev IsNoMark : ℕ → Type 0
IsNoMark c = ((c == hides) ≡ false) × ((c == shows) ≡ false)

-- what is told of a character, as it is or as a line feed
told-one : (c : ℕ) (hidden line_end of_line_end : Bool) (more : List ℕ) → IsNoMark c
    → told_from hidden (ended_as line_end of_line_end c ++ more) ≡ map (λ d. (d, hidden)) (ended_as line_end of_line_end c) ++ told_from hidden more
told-one c hidden true u more none = refl
told-one c hidden false true more none = refl
told-one c hidden false false more none = rw (none.0, none.1) refl

told-more : (c : ℕ) (hidden : Bool) (cs : List ℕ) (more : List (ℕ × Bool)) → IsNoMark c
    → is_of_line_end c cs ≡ is_of_line_end c (map (λ next. next.0) more)
    → told_from hidden (with_line_feeds cs) ≡ told_with_line_feeds more
    → told_from hidden (with_line_feeds (c ∷ cs)) ≡ told_with_line_feeds ((c, hidden) ∷ more)
told-more c hidden cs more none same rest =
    told-one c hidden (is_line_end c) (is_of_line_end c cs) (with_line_feeds cs) none
    ∙ ap₂ (λ (u : Bool) (l : List (ℕ × Bool)). map (λ d. (d, hidden)) (ended_as (is_line_end c) u c) ++ l) same rest

-- a mark, or none
told-mark : (on next : Bool) (cs : List ℕ) → told_from on (with_line_feeds (mark_between on next ++ cs)) ≡ told_from next (with_line_feeds cs)
told-mark true true cs = refl
told-mark false false cs = refl
told-mark true false cs = refl
told-mark false true cs = refl

-- A character that is printed is neither CR nor LF.
character-from : (c : ℕ) → IsTrue (is_character c) → 0x20 ≤ c
unfolding is_character
character-from c is =
    ⊎_elim (λ low. let range = within_parts 0x20 0xD7FF c low in range.0)
    (λ high. let range = within_parts 0xE000 0x10FFFF c high in omega (arith, range.0))
    (or_cases (is_within 0x20 0xD7FF c) (is_within 0xE000 0x10FFFF c) is)

no_return : (c : ℕ) → IsTrue (is_character c) → (c == 0x0D) ≡ false
no_return c is = let from = character-from c is in ne_eqb c 0x0D (λ e. omega (arith, e, from))

no_feed : (c : ℕ) → IsTrue (is_character c) → (c == 0x0A) ≡ false
no_feed c is = let from = character-from c is in ne_eqb c 0x0A (λ e. omega (arith, e, from))

-- all that is marked from there
abbrev rest : Style → (on : Bool) → List Call → List ℕ
rest style on calls = marked_from (hiding style on) calls ++ closing (hiding_from (hiding style on) calls)

first-printed : (c : ℕ) (hidden : Bool) (more : List ℕ) → (c == 0x0A) ≡ false
    → (next_of (((mark_between false hidden ++ c ∷ []) ++ more)) == 0x0A) ≡ (c == 0x0A)
first-printed c true more none = sym none
first-printed c false more none = refl

-- After a control a line feed comes first in what is marked where it comes first in the stream.
next-told : (hooked : Bool) (calls : List Call) (style : Style) → AreLawfulFrom hooked calls
    → (next_of (rest style false calls) == 0x0A) ≡ (next_of (map (λ next. next.0) (told_by style calls)) == 0x0A)
next-told hooked [] style lawful = refl
next-told false (print c ∷ calls) style lawful =
    ap (λ (l : List ℕ). next_of l == 0x0A)
    (append_assoc (mark_between false (is_unseen style) ++ c ∷ []) (marked_from (hiding style (is_unseen style)) calls) (closing (hiding_from (hiding style (is_unseen style)) calls)))
    ∙ first-printed c (is_unseen style) (marked_from (hiding style (is_unseen style)) calls ++ closing (hiding_from (hiding style (is_unseen style)) calls)) (no_feed c lawful.0)
next-told false (execute b ∷ calls) style lawful = refl
next-told false (hook gs is ig f ∷ calls) style lawful = next-told true calls style lawful.1
next-told false (osc_dispatch parts bell ∷ calls) style lawful = next-told false calls style lawful.1
next-told false (csi_dispatch gs is ig f ∷ calls) style lawful =
    next-told false calls (style_after (csi_dispatch gs is ig f) style) lawful.1
next-told false (esc_dispatch is ig f ∷ calls) style lawful = next-told false calls style lawful.1
next-told true (put b ∷ calls) style lawful = next-told true calls style lawful.1
next-told true (unhook ∷ calls) style lawful = next-told false calls style lawful
next-told false (put b ∷ calls) style lawful = absurd lawful
next-told false (unhook ∷ calls) style lawful = absurd lawful
next-told true (print c ∷ calls) style lawful = absurd lawful
next-told true (execute b ∷ calls) style lawful = absurd lawful
next-told true (hook gs is ig f ∷ calls) style lawful = absurd lawful
next-told true (osc_dispatch parts bell ∷ calls) style lawful = absurd lawful
next-told true (csi_dispatch gs is ig f ∷ calls) style lawful = absurd lawful
next-told true (esc_dispatch is ig f ∷ calls) style lawful = absurd lawful

-- the mark before a character, the character, and the rest
parted : (mark cs more end : List ℕ) → ((mark ++ cs) ++ more) ++ end ≡ mark ++ (cs ++ (more ++ end))
parted mark cs more end = append_assoc (mark ++ cs) more end ∙ append_assoc mark cs (more ++ end)

scalar-no_mark : (c : ℕ) → IsScalar c → IsNoMark c
scalar-no_mark c scalar = no-mark c (scalar-character c scalar)

-- what a call that has no character leaves open stays so
abbrev Told : (on : Bool) → Style → List Call → Type 0
Told on style calls = told_from on (with_line_feeds (rest style on calls)) ≡ told_with_line_feeds (told_by style calls)

told-end : (on : Bool) → told_from on (with_line_feeds (mark_between on false)) ≡ []
told-end true = refl
told-end false = refl

told-other : (on : Bool) (more end : List ℕ) → told_from on (with_line_feeds (((mark_between on on ++ []) ++ more) ++ end)) ≡ told_from on (with_line_feeds (more ++ end))
told-other true more end = refl
told-other false more end = refl

-- Call by call.
told-from : (hooked : Bool) (calls : List Call) (on : Bool) (style : Style) → AreLawfulFrom hooked calls → Told on style calls
told-from hooked [] on style lawful = told-end on
told-from false (print c ∷ calls) on style lawful =
    let hidden = is_unseen style in
    let more = marked_from (hiding style hidden) calls in
    let end = closing (hiding_from (hiding style hidden) calls) in
    let after = told_by style calls in
    ap (λ (l : List ℕ). told_from on (with_line_feeds l)) (parted (mark_between on hidden) (c ∷ []) more end)
    ∙ told-mark on hidden (c ∷ (more ++ end))
    ∙ told-more c hidden (more ++ end) after (scalar-no_mark c (scalars-lawful false (print c ∷ calls) lawful).0)
    (ap (λ t. t && next_of (more ++ end) == 0x0A) (no_return c lawful.0) ∙ sym (ap (λ t. t && next_of (map (λ next. next.0) after) == 0x0A) (no_return c lawful.0)))
    (told-from false calls hidden style lawful.1)
told-from false (execute b ∷ calls) on style lawful =
    let more = marked_from (hiding style false) calls in
    let end = closing (hiding_from (hiding style false) calls) in
    let after = told_by style calls in
    ap (λ (l : List ℕ). told_from on (with_line_feeds l)) (parted (mark_between on false) (b ∷ []) more end)
    ∙ told-mark on false (b ∷ (more ++ end))
    ∙ told-more b false (more ++ end) after (scalar-no_mark b (scalars-lawful false (execute b ∷ calls) lawful).0)
    (ap (λ t. b == 0x0D && t) (next-told false calls style lawful.1))
    (told-from false calls false style lawful.1)
told-from false (hook gs is ig f ∷ calls) on style lawful =
    told-other on (marked_from (hiding style on) calls) (closing (hiding_from (hiding style on) calls)) ∙ told-from true calls on style lawful.1
told-from false (osc_dispatch parts bell ∷ calls) on style lawful =
    told-other on (marked_from (hiding style on) calls) (closing (hiding_from (hiding style on) calls)) ∙ told-from false calls on style lawful.1
told-from false (csi_dispatch gs is ig f ∷ calls) on style lawful =
    let next = style_after (csi_dispatch gs is ig f) style in
    told-other on (marked_from (hiding next on) calls) (closing (hiding_from (hiding next on) calls)) ∙ told-from false calls on next lawful.1
told-from false (esc_dispatch is ig f ∷ calls) on style lawful =
    told-other on (marked_from (hiding style on) calls) (closing (hiding_from (hiding style on) calls)) ∙ told-from false calls on style lawful.1
told-from true (put b ∷ calls) on style lawful =
    told-other on (marked_from (hiding style on) calls) (closing (hiding_from (hiding style on) calls)) ∙ told-from true calls on style lawful.1
told-from true (unhook ∷ calls) on style lawful =
    told-other on (marked_from (hiding style on) calls) (closing (hiding_from (hiding style on) calls)) ∙ told-from false calls on style lawful
told-from false (put b ∷ calls) on style lawful = absurd lawful
told-from false (unhook ∷ calls) on style lawful = absurd lawful
told-from true (print c ∷ calls) on style lawful = absurd lawful
told-from true (execute b ∷ calls) on style lawful = absurd lawful
told-from true (hook gs is ig f ∷ calls) on style lawful = absurd lawful
told-from true (osc_dispatch parts bell ∷ calls) on style lawful = absurd lawful
told-from true (csi_dispatch gs is ig f ∷ calls) on style lawful = absurd lawful
told-from true (esc_dispatch is ig f ∷ calls) on style lawful = absurd lawful

-- So safe text tells of each character what the stream says of it.
pub told-marked : (calls : List Call) → AreLawful calls → told (read_back (chars (safe_marked calls))) ≡ told_with_line_feeds (told_by plain calls)
told-marked calls lawful = ap told (read-marked calls lawful) ∙ told-from false calls false plain lawful
