-- The HTML of texts that have styles is read back, stands in the grammar, and is bounded.
use Rattle.std.proofs.Common.{◌≡◌, ◌≤◌, ℕ, ◌+◌, ◌*◌, Bool, false, eqb, List, [], ◌∷◌, ◌++◌, length, map, arith, length-append, refl, sym, ap, ap₂, ◌∙◌, subst, append_assoc, append-nil}
use Rattle.std.specs.Prelude.{not, if◌then◌else◌}
use Rattle.std.specs.List.{AllByRecursion, flat_map, list_all}
use Rattle.std.specs.Str.{IsUtf8}
use Rattle.std.proofs.lemmas.Bool.{and_parts}
use Rattle.std.proofs.lemmas.Grind.{flat_map-append}
use Rattle.std.proofs.lemmas.Str.{IsUtf8-append, IsUtf8-nil}
use Rattle.ansi_html.specs.declared.scheme.Styling.{Styling}
use Rattle.ansi_html.specs.Grammar.{IsFragment}
use Rattle.ansi_html.specs.Html.{escaped_text, Element, no_element, element_value, change, text_html, element_end}
use Rattle.ansi_html.specs.Reader.{Attributes, no_attributes, in_force, href_of, attributes_of, byte_of, in_text, Seen, text, seen_from, seen, read_of, read, drawn_of, drawn}
use Rattle.ansi_html.specs.Styled.{Styled, element_of, before, behind, styled_html, shown_after, all_html, shown_of, all_shown, bytes_of, all_bytes}
use Rattle.ansi_html.proofs.HtmlLemmas.{false-from_not}
use Rattle.ansi_html.proofs.ShownLemmas.{AreLinks, AreLinks-append, AreLinks-under, href-by}
use Rattle.ansi_html.proofs.SoundLemmas.{IsSound, IsSound-none, AreSound, either}
use Rattle.ansi_html.proofs.NewlineLemmas.{is_not_return, HasNoReturn, HasNoReturn-append, HasNoReturn-end, HasNoReturn-text, normalized-same}
use Rattle.ansi_html.proofs.ReadLemmas.{read-text, seen_text, open_in, open-none, seen-element_end, seen-text, bytes-under, map-append_bytes}
use Rattle.ansi_html.proofs.LawfulText.{AreTextual}
use Rattle.ansi_html.proofs.GrammarLemmas.{IsInElement, IsFragment-outside, IsInside-nothing, IsInside-text_html}
use Rattle.ansi_html.proofs.TextLemmas.{IsUtf8-end, IsUtf8-text_html}
use Rattle.ansi_html.specs.Links.{IsLink}
use Rattle.ansi_html.proofs.LengthLemmas.{AtMost, AtMost-end, length-change, length-escaped_text}

-- texts, one after another
pub styled_html-append : (styling : Styling) (shown : Element) (texts more : List Styled)
    → styled_html styling shown (texts ++ more) ≡ styled_html styling shown texts ++ styled_html styling (shown_after shown texts) more
styled_html-append styling shown [] more = refl
styled_html-append styling shown (it ∷ texts) more =
    let here = text_html styling (before shown it) false it.text in
    ap (λ l. here ++ l) (styled_html-append styling (behind shown it) texts more)
    ∙ sym (append_assoc here (styled_html styling (behind shown it) texts) (styled_html styling (shown_after (behind shown it) texts) more))

pub shown_after-append : (shown : Element) (texts more : List Styled) → shown_after shown (texts ++ more) ≡ shown_after (shown_after shown texts) more
shown_after-append shown [] more = refl
shown_after-append shown (it ∷ texts) more = shown_after-append (behind shown it) texts more

-- what is seen of them
abbrev pub seen_one : Styling → Styled → List Seen
seen_one styling it = map (text (attributes_of styling (element_of it))) it.text

abbrev pub seen_styled : Styling → List Styled → List Seen
seen_styled styling texts = flat_map (seen_one styling) texts

seen_text-styled : (styling : Styling) (shown : Element) (it : Styled) (bytes : List ℕ)
    → seen_text styling (before shown it) false bytes ≡ map (text (attributes_of styling (element_of it))) bytes
seen_text-styled styling shown it [] = refl
seen_text-styled styling shown it (b ∷ bytes) = refl

-- texts whose links may stand in the HTML
abbrev pub HaveLinks : List Styled → Type 0
HaveLinks texts = AllByRecursion (λ (it : Styled). IsSound it.link) texts

module _ (styling : Styling) where
  pub HasNoReturn-styled : (shown : Element) (texts : List Styled) → HasNoReturn (styled_html styling shown texts)
  HasNoReturn-styled shown [] = refl
  HasNoReturn-styled shown (it ∷ texts) =
      HasNoReturn-append (text_html styling (before shown it) false it.text) (styled_html styling (behind shown it) texts)
      (HasNoReturn-text styling (before shown it) false it.text) (HasNoReturn-styled (behind shown it) texts)

  -- also in the element of a block, which says nothing, and with what follows
  pub seen-styled_html : (outer : List Attributes) → in_force outer ≡ no_attributes → (shown : Element) (texts : List Styled) (rest : List ℕ)
      → seen_from (in_text (open_in outer styling shown)) (styled_html styling shown texts ++ rest)
      ≡ seen_styled styling texts ++ seen_from (in_text (open_in outer styling (shown_after shown texts))) rest
  seen-styled_html outer nothing shown [] rest = refl
  seen-styled_html outer nothing shown (it ∷ texts) rest =
      let here = text_html styling (before shown it) false it.text in
      let next = behind shown it in
      ap (seen_from (in_text (open_in outer styling shown))) (append_assoc here (styled_html styling next texts) rest)
      ∙ seen-text styling outer nothing (before shown it) false it.text (styled_html styling next texts ++ rest)
      ∙ ap₂ (λ a b. a ++ b) (seen_text-styled styling shown it it.text) (seen-styled_html outer nothing next texts rest)
      ∙ sym (append_assoc (seen_one styling it) (seen_styled styling texts) (seen_from (in_text (open_in outer styling (shown_after next texts))) rest))

  seen-styled : (shown : Element) (texts : List Styled)
      → seen_from (in_text (open_in [] styling shown)) (styled_html styling shown texts ++ element_end (shown_after shown texts)) ≡ seen_styled styling texts
  seen-styled shown texts =
      let last = shown_after shown texts in
      seen-styled_html [] refl shown texts (element_end last)
      ∙ ap (λ l. seen_styled styling texts ++ l)
      (ap (seen_from (in_text (open_in [] styling last))) (sym (append-nil (element_end last))) ∙ seen-element_end [] [] styling last)
      ∙ append-nil (seen_styled styling texts)

  seen-all : (texts : List Styled) → seen (all_html styling texts) ≡ seen_styled styling texts
  seen-all texts =
      ap (seen_from (in_text [])) (normalized-same (all_html styling texts)
      (HasNoReturn-append (styled_html styling no_element texts) (element_end (shown_after no_element texts))
      (HasNoReturn-styled no_element texts) (HasNoReturn-end (shown_after no_element texts))))
      ∙ ap (λ opened. seen_from (in_text opened) (all_html styling texts)) (sym (open-none styling [])) ∙ seen-styled no_element texts

  read-seen_styled : (texts : List Styled) → flat_map read_of (seen_styled styling texts) ≡ all_shown styling texts
  read-seen_styled [] = refl
  read-seen_styled (it ∷ texts) =
      flat_map-append read_of (seen_one styling it) (seen_styled styling texts)
      ∙ ap₂ (λ a b. a ++ b) (read-text (attributes_of styling (element_of it)) it.text) (read-seen_styled texts)

  -- Reading the HTML gives what the texts show,
  pub read-styled : (texts : List Styled) → read (all_html styling texts) ≡ all_shown styling texts
  read-styled texts = ap (flat_map read_of) (seen-all texts) ∙ read-seen_styled texts

  bytes-all_shown : (texts : List Styled) → map byte_of (all_shown styling texts) ≡ all_bytes texts
  bytes-all_shown [] = refl
  bytes-all_shown (it ∷ texts) =
      map-append_bytes (shown_of styling it) (all_shown styling texts)
      ∙ ap₂ (λ a b. a ++ b) (bytes-under (attributes_of styling (element_of it)) it.text) (bytes-all_shown texts)

  -- and so their bytes.
  pub text-styled : (texts : List Styled) → map byte_of (read (all_html styling texts)) ≡ all_bytes texts
  text-styled texts = ap (map byte_of) (read-styled texts) ∙ bytes-all_shown texts

  -- bytes without 0D are drawn as they are
  drawn-bytes : (attributes : Attributes) (bytes : List ℕ) → HasNoReturn bytes → flat_map drawn_of (map (text attributes) bytes) ≡ bytes
  unfolding is_not_return
  drawn-bytes attributes [] clear = refl
  drawn-bytes attributes (b ∷ bytes) clear =
      let parts = and_parts (not (eqb b 0x0D)) (list_all (λ x. not (eqb x 0x0D)) bytes) clear in
      ap₂ (λ (is : Bool) l. (if is then [] else b ∷ []) ++ l) (false-from_not (eqb b 0x0D) parts.0) (drawn-bytes attributes bytes parts.1)

  drawn-seen_styled : (texts : List Styled) → AllByRecursion (λ it. HasNoReturn (bytes_of it)) texts → flat_map drawn_of (seen_styled styling texts) ≡ all_bytes texts
  drawn-seen_styled [] clear = refl
  drawn-seen_styled (it ∷ texts) clear =
      flat_map-append drawn_of (seen_one styling it) (seen_styled styling texts)
      ∙ ap₂ (λ a b. a ++ b) (drawn-bytes (attributes_of styling (element_of it)) it.text clear.0) (drawn-seen_styled texts clear.1)

  -- They are drawn as they are.
  pub drawn-styled : (texts : List Styled) → AllByRecursion (λ it. HasNoReturn (bytes_of it)) texts → drawn (all_html styling texts) ≡ all_bytes texts
  drawn-styled texts clear = ap (flat_map drawn_of) (seen-all texts) ∙ drawn-seen_styled texts clear

  sound-before : (shown : Element) (it : Styled) → IsSound shown.link → IsSound it.link → AreSound (before shown it)
  sound-before shown it sound its = record { shown = sound; selected = its }

  -- what follows texts follows in the element of the last one
  pub IsSound-shown_after : (shown : Element) (texts : List Styled) → IsSound shown.link → HaveLinks texts → IsSound (shown_after shown texts).link
  IsSound-shown_after shown [] sound links = sound
  IsSound-shown_after shown (it ∷ texts) sound links = IsSound-shown_after (behind shown it) texts (either shown (element_of it) it.text sound links.0) links.1

  pub IsInside-styled : (shown : Element) (texts : List Styled) (rest : List ℕ) → IsSound shown.link → HaveLinks texts → AllByRecursion (λ it. AreTextual (bytes_of it)) texts
      → IsInElement styling (shown_after shown texts) rest → IsInElement styling shown (styled_html styling shown texts ++ rest)
  IsInside-styled shown [] rest sound links are more = more
  IsInside-styled shown (it ∷ texts) rest sound links are more =
      let next = behind shown it in
      subst (IsInElement styling shown) (sym (append_assoc (text_html styling (before shown it) false it.text) (styled_html styling next texts) rest))
      (IsInside-text_html styling (before shown it) false it.text (styled_html styling next texts ++ rest) (sound-before shown it sound links.0) are.0
      (IsInside-styled next texts rest (either shown (element_of it) it.text sound links.0) links.1 are.1 more))

  -- The HTML of text is a fragment,
  pub IsFragment-styled : (texts : List Styled) → HaveLinks texts → AllByRecursion (λ it. AreTextual (bytes_of it)) texts → IsFragment styling (all_html styling texts)
  IsFragment-styled texts links are = IsFragment-outside styling (all_html styling texts) (IsInside-styled no_element texts (element_end (shown_after no_element texts)) IsSound-none links are (IsInside-nothing styling (shown_after no_element texts)))

  pub IsUtf8-styled_html : (shown : Element) (texts : List Styled) → IsSound shown.link → HaveLinks texts → AllByRecursion (λ it. IsUtf8 (escaped_text (bytes_of it))) texts
      → IsUtf8 (styled_html styling shown texts)
  IsUtf8-styled_html shown [] sound links are = IsUtf8-nil
  IsUtf8-styled_html shown (it ∷ texts) sound links are =
      IsUtf8-append (text_html styling (before shown it) false it.text) (styled_html styling (behind shown it) texts)
      (IsUtf8-text_html styling (before shown it) false it.text (sound-before shown it sound links.0) are.0)
      (IsUtf8-styled_html (behind shown it) texts (either shown (element_of it) it.text sound links.0) links.1 are.1)

  -- and UTF-8 where the texts are.
  pub IsUtf8-styled : (texts : List Styled) → HaveLinks texts → AllByRecursion (λ it. IsUtf8 (escaped_text (bytes_of it))) texts → IsUtf8 (all_html styling texts)
  IsUtf8-styled texts links are =
      let last = shown_after no_element texts in
      IsUtf8-append (styled_html styling no_element texts) (element_end last) (IsUtf8-styled_html no_element texts IsSound-none links are) (IsUtf8-end last)

  -- 6521 for the change, and 6 for each byte
  length-text : (shown : Element) (it : Styled) (bytes : List ℕ) → IsSound it.link → length (text_html styling (before shown it) false bytes) ≤ 6527 * length bytes
  unfolding text_html AtMost
  length-text shown it [] sound = omega arith
  length-text shown it (b ∷ bytes) sound =
      let changed = change styling shown (element_of it) in
      omega (
        arith,
        length-append (changed ++ []) (escaped_text (b ∷ bytes)),
        length-append changed [],
        length-change styling shown (element_of it) sound,
        length-escaped_text (b ∷ bytes),
      )

  length-styled_html : (shown : Element) (texts : List Styled) → HaveLinks texts → length (styled_html styling shown texts) ≤ 6527 * length (all_bytes texts)
  length-styled_html shown [] links = omega arith
  length-styled_html shown (it ∷ texts) links =
      omega (
        arith,
        length-append (text_html styling (before shown it) false it.text) (styled_html styling (behind shown it) texts),
        length-append it.text (all_bytes texts),
        length-text shown it it.text links.0,
        length-styled_html (behind shown it) texts links.1,
      )

  -- The HTML is bounded by its text.
  pub length-styled : (texts : List Styled) → HaveLinks texts → length (all_html styling texts) ≤ 6527 * length (all_bytes texts) + 11
  unfolding AtMost
  length-styled texts links =
      omega (
        arith,
        length-append (styled_html styling no_element texts) (element_end (shown_after no_element texts)),
        length-styled_html no_element texts links,
        AtMost-end (shown_after no_element texts),
      )

  -- Each byte has the link of its text.
  hrefs-shown : (texts : List Styled) → HaveLinks texts → AreLinks (all_shown styling texts)
  unfolding AreLinks
  hrefs-shown [] links = tt
  hrefs-shown (it ∷ texts) links =
      AreLinks-append (shown_of styling it) (all_shown styling texts)
      (AreLinks-under (attributes_of styling (element_of it)) it.text (subst IsLink (href-by styling (element_value styling (element_of it)) it.link) links.0.is_link)) (hrefs-shown texts links.1)

  pub links-styled : (texts : List Styled) → HaveLinks texts → AllByRecursion IsLink (map href_of (read (all_html styling texts)))
  unfolding AreLinks
  links-styled texts links = subst (λ l. AllByRecursion IsLink (map href_of l)) (sym (read-styled texts)) (hrefs-shown texts links)
