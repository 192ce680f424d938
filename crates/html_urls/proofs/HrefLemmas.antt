-- What a reader sees as links: in an address its own text, and elsewhere the link of the stream.
use Rattle.std.proofs.Common.{◌≡◌, ℕ, Bool, true, false, ◌&&◌, List, [], ◌∷◌, ◌++◌, codes, length, map, take, drop, refl, sym, ap, ap₂, ◌∙◌, subst, append_assoc, take-append-drop, eqb-true}
use Rattle.std.specs.Prelude.{not, nat_lt, if◌then◌else◌, encode_utf8}
use Rattle.std.specs.List.{flat_map}
use Rattle.std.proofs.lemmas.Bool.{and_parts, not-false}
use Rattle.std.proofs.lemmas.List.{map-append, nil_from_length}
use Rattle.anstyle_parse.specs.Stream.Items.{EachIs}
use Rattle.anstyle_parse.proofs.Bytes.Passing.{EachIs-parts}
use Rattle.anstyle_parse.specs.Stream.Call.{Call, print, execute, hook, put, unhook, osc_dispatch, csi_dispatch, esc_dispatch}
use Rattle.ansi_strip.specs.Strip.{stripped_call, stripped}
use Rattle.ansi_html.specs.declared.scheme.Styling.{Styling}
use Rattle.ansi_html.specs.declared.scheme.Styling.TheVariants.{Inline, Classes}
use Rattle.ansi_html.specs.Links.{is_linkable, is_none, is_link_command, is_whole, uri_of, link_of, link_after}
use Rattle.ansi_html.specs.Html.{Element, element, no_element, element_value, element_after, is_executed, html}
use Rattle.ansi_html.specs.Affordable.{feed_counts, earned, is_paid, spare_after, link_kept, end_of_link, end_unpaid, affordable_from, affordable}
use Rattle.ansi_html.specs.Lines.{lined_html}
use Rattle.ansi_html.specs.Blocks.{blocked_html, calls_seen}
use Rattle.ansi_html.specs.Reader.{Shown, href_of, under, attributes_by, attributes_of, read, shown_from}
use Rattle.ansi_html.proofs.ReadLemmas.{read-html}
use Rattle.ansi_html.proofs.LineLemmas.{read-lined_html}
use Rattle.ansi_html.proofs.BlockLemmas.{read-blocked_html}
use Rattle.html_urls.specs.Addresses.{is_of_address, says_scheme, begins_scheme, max_held, address_of, address_length, behind_address, is_address, target_of, fits, joins_after, is_link}
use Rattle.html_urls.specs.Linked.{link_command, prints, released, released_as, linked_after, linked}
use Rattle.html_urls.specs.Found.{Part, as_is, in_run, joins_call, AreFound, AreParts, with_link, hrefs_of, hrefs, spare_with, hrefs_paid, hrefs_in_blocks}
use Rattle.html_urls.proofs.TargetLemmas.{parts, target-visible, target-scheme, link-selected}
use Rattle.html_urls.proofs.TextLemmas.{printed-append}
use Rattle.html_urls.proofs.FoundLemmas.{found-linked}
use Rattle.html_urls.proofs.OnlyLemmas.{parts-only}

-- the link under which bytes stand
href-by : (styling : Styling) (value link : List ℕ) → (attributes_by styling value link).href ≡ link
href-by (Inline scheme) value link = refl
href-by Classes value link = refl

hrefs-under : (styling : Styling) (it : Element) (bytes : List ℕ) → map href_of (map (under (attributes_of styling it)) bytes) ≡ map (λ b. it.link) bytes
hrefs-under styling it [] = refl
hrefs-under styling it (b ∷ bytes) = ap₂ (λ (l : List ℕ) (more : List (List ℕ)). l ∷ more) (href-by styling (element_value styling it) it.link) (hrefs-under styling it bytes)

abbrev none_at : ℕ → List ℕ
none_at b = []

abbrev unlinked : List ℕ → List (List ℕ)
unlinked bytes = map none_at bytes

-- of text that is printed, and then of calls
seen-prints : (styling : Styling) (it : Element) (text : List ℕ) (more : List Call)
    → map href_of (shown_from styling it (prints text ++ more)) ≡ hrefs_of it.link text ++ map href_of (shown_from styling it more)
seen-prints styling it [] more = refl
seen-prints styling it (c ∷ text) more =
    let here : List Shown = map (under (attributes_of styling it)) (encode_utf8 c) in
    let rest : List (List ℕ) = map href_of (shown_from styling it more) in
    let own : ℕ → List ℕ = λ b. it.link in
    map-append href_of here (shown_from styling it (prints text ++ more))
    ∙ ap₂ (λ (l m : List (List ℕ)). l ++ m) (hrefs-under styling it (encode_utf8 c)) (seen-prints styling it text more)
    ∙ sym (append_assoc (map own (encode_utf8 c)) (hrefs_of it.link text) rest)
    ∙ ap (λ (l : List (List ℕ)). l ++ rest) (sym (map-append own (encode_utf8 c) (stripped (prints text))))

-- the command of an address selects its link, and the one of none ends it
run-selected : (run : List ℕ) → EachIs is_of_address run → is_link run ≡ true → link_of (codes "8" ∷ [] ∷ parts (target_of (address_of run))) ≡ target_of (address_of run)
unfolding is_address
run-selected run each is =
    let address = address_of run in
    let n = address_length (length run) run in
    let whole = and_parts (nat_lt (length run) max_held) (is_address address && fits (target_of address)) is in
    let room = and_parts (is_address address) (fits (target_of address)) whole.1 in
    let says = (and_parts (says_scheme address) (not (begins_scheme address)) room.0).0 in
    let front = (EachIs-parts is_of_address (take n run) (drop n run) (subst (EachIs is_of_address) (sym (take-append-drop n run)) each)).0 in
    link-selected (target_of address) (target-scheme address says) (target-visible address front) room.1

none-either : (t : Bool) (link : List ℕ) → link ≡ [] → (if t then link else []) ≡ []
none-either true link none = none
none-either false link none = refl

link-ended : link_of (codes "8" ∷ [] ∷ [] ∷ []) ≡ []
unfolding link_of
link-ended = none-either (is_whole (codes "8" ∷ [] ∷ [] ∷ []) && is_linkable []) [] refl

-- where no link of the stream's own is open, it has none
unlinked-osc : (parts : List (List ℕ)) (is_linked : Bool) (link : List ℕ) → (is_linked ≡ false → link ≡ [])
    → (if is_link_command parts then not (is_none (uri_of parts)) else is_linked) ≡ false → (if is_link_command parts then link_of parts else link) ≡ []
unfolding link_of
unlinked-osc parts is_linked link none = by (is_link_command parts)
  where
    by : (t : Bool) → (if t then not (is_none (uri_of parts)) else is_linked) ≡ false → (if t then (if is_whole parts && is_linkable (uri_of parts) then uri_of parts else []) else link) ≡ []
    by true is =
        none-either (is_whole parts && is_linkable (uri_of parts)) (uri_of parts)
        (nil_from_length (uri_of parts) (eqb-true (length (uri_of parts)) 0 (not-false (is_none (uri_of parts)) is)))
    by false is = none is

unlinked-after : (call : Call) (is_linked : Bool) (link : List ℕ) → (is_linked ≡ false → link ≡ []) → linked_after call is_linked ≡ false → link_after call link ≡ []
unlinked-after (print c) is_linked link none is = none is
unlinked-after (execute b) is_linked link none is = none is
unlinked-after (hook groups intermediates ignore final) is_linked link none is = none is
unlinked-after (put b) is_linked link none is = none is
unlinked-after unhook is_linked link none is = none is
unlinked-after (osc_dispatch parts bell) is_linked link none is = unlinked-osc parts is_linked link none is
unlinked-after (csi_dispatch groups intermediates ignore final) is_linked link none is = none is
unlinked-after (esc_dispatch intermediates ignore final) is_linked link none is = none is

-- of a run, and then of calls
module _ (styling : Styling) (it : Element) (run : List ℕ) (more : List Call) where
  abbrev Seen : (made : List Call) (link : List ℕ) → Type 0
  Seen made link =
      map href_of (shown_from styling (element it.style []) (made ++ more))
      ≡ hrefs_of link (address_of run) ++ (hrefs_of [] (behind_address run) ++ map href_of (shown_from styling (element it.style []) more))

  seen-link : EachIs is_of_address run → is_link run ≡ true → Seen (released_as true (address_of run) (behind_address run) run) (target_of (address_of run))
  seen-link each is =
      let address = address_of run in
      let target = target_of address in
      let behind = behind_address run in
      let end = prints behind ++ more in
      ap (λ (l : List Call). map href_of (shown_from styling (element it.style (link_of (codes "8" ∷ [] ∷ parts target))) l)) (append_assoc (prints address) (link_command [] ∷ prints behind) more)
      ∙ ap (λ (link : List ℕ). map href_of (shown_from styling (element it.style link) (prints address ++ (link_command [] ∷ end)))) (run-selected run each is)
      ∙ seen-prints styling (element it.style target) address (link_command [] ∷ end)
      ∙ ap (λ (l : List (List ℕ)). hrefs_of target address ++ l)
      (ap (λ (link : List ℕ). map href_of (shown_from styling (element it.style link) end)) link-ended ∙ seen-prints styling (element it.style []) behind more)

  seen-text : Seen (prints run) []
  seen-text =
      let address = address_of run in
      let behind = behind_address run in
      let rest = map href_of (shown_from styling (element it.style []) more) in
      seen-prints styling (element it.style []) run more
      ∙ ap (λ (l : List (List ℕ)). l ++ rest)
      (ap unlinked (ap (λ (l : List ℕ). stripped (prints l)) (sym (take-append-drop (address_length (length run) run) run)) ∙ printed-append address behind)
      ∙ map-append none_at (stripped (prints address)) (stripped (prints behind)))
      ∙ append_assoc (hrefs_of [] address) (hrefs_of [] behind) rest

  seen-run : EachIs is_of_address run → Seen (released run) (if is_link run then target_of (address_of run) else [])
  seen-run each = by (is_link run) refl
    where
      by : (t : Bool) → is_link run ≡ t → Seen (released_as t (address_of run) (behind_address run) run) (if t then target_of (address_of run) else [])
      by true is = seen-link each is
      by false is = seen-text

-- part by part
seen-parts : (styling : Styling) (parts : List Part) (joins is_linked : Bool) (calls : List Call) (it : Element) → AreFound joins is_linked calls parts
    → (is_linked ≡ false → it.link ≡ []) → map href_of (shown_from styling it (flat_map with_link parts)) ≡ hrefs it.link parts
seen-parts styling [] joins is_linked calls it are none = refl
seen-parts styling (as_is call ∷ parts) joins is_linked calls it are none =
    map-append href_of (map (under (attributes_of styling it)) (stripped_call call)) (shown_from styling (element_after call it) (flat_map with_link parts))
    ∙ ap₂ (λ (l m : List (List ℕ)). l ++ m) (hrefs-under styling it (stripped_call call))
    (seen-parts styling parts (joins_call call) (linked_after call is_linked) are.0 (element_after call it) are.3 (unlinked-after call is_linked it.link none))
seen-parts styling (in_run run ∷ parts) joins is_linked calls it are none =
    let more = flat_map with_link parts in
    ap (λ (l : List ℕ). map href_of (shown_from styling (element it.style l) (released run ++ more))) (none are.2)
    ∙ seen-run styling it run more are.4.each
    ∙ ap (λ (l : List (List ℕ)). hrefs_of (if is_link run then target_of (address_of run) else []) (address_of run) ++ (hrefs_of [] (behind_address run) ++ l))
    (seen-parts styling parts (joins_after joins run) false are.0 (element it.style []) are.5 (λ _. refl))

-- In lines: characters that are printed end no link, nor does an address.
affordable-prints : (spare : ℕ) (link text : List ℕ) (more : List Call)
    → affordable_from spare link (prints text ++ more) ≡ prints text ++ affordable_from (spare_with text spare) link more
affordable-prints spare link [] more = refl
affordable-prints spare link (c ∷ text) more =
    ap (λ (l : List Call). print c ∷ l) (affordable-prints (spare_after (print c) spare []) link text more)

spare-append : (text more : List ℕ) (spare : ℕ) → spare_with more (spare_with text spare) ≡ spare_with (text ++ more) spare
spare-append [] more spare = refl
spare-append (c ∷ text) more spare = spare-append text more (spare_after (print c) spare [])

affordable-link : (spare : ℕ) (target address behind : List ℕ) (more : List Call)
    → affordable_from spare [] ((link_command target ∷ prints address ++ (link_command [] ∷ prints behind)) ++ more)
    ≡ (link_command target ∷ prints address ++ (link_command [] ∷ prints behind)) ++ affordable_from (spare_with (address ++ behind) spare) [] more
affordable-link spare target address behind more =
    let selected = link_of (codes "8" ∷ [] ∷ parts target) in
    let after = spare_with address spare in
    ap (λ (l : List Call). link_command target ∷ affordable_from spare selected l) (append_assoc (prints address) (link_command [] ∷ prints behind) more)
    ∙ ap (λ (l : List Call). link_command target ∷ l) (affordable-prints spare selected address (link_command [] ∷ (prints behind ++ more)))
    ∙ ap (λ (link : List ℕ). link_command target ∷ (prints address ++ (link_command [] ∷ affordable_from after link (prints behind ++ more)))) link-ended
    ∙ ap (λ (l : List Call). link_command target ∷ (prints address ++ (link_command [] ∷ l))) (affordable-prints after [] behind more)
    ∙ ap (λ (left : ℕ). link_command target ∷ (prints address ++ (link_command [] ∷ (prints behind ++ affordable_from left [] more)))) (spare-append address behind spare)
    ∙ ap (λ (l : List Call). link_command target ∷ l)
    (sym (append_assoc (prints address) (link_command [] ∷ prints behind) (affordable_from (spare_with (address ++ behind) spare) [] more)))

affordable-run : (spare : ℕ) (run : List ℕ) (more : List Call)
    → affordable_from spare [] (released run ++ more) ≡ released run ++ affordable_from (spare_with run spare) [] more
affordable-run spare run more = by (is_link run)
  where
    address : List ℕ
    address = address_of run

    behind : List ℕ
    behind = behind_address run

    by : (is : Bool) → affordable_from spare [] (released_as is address behind run ++ more) ≡ released_as is address behind run ++ affordable_from (spare_with run spare) [] more
    by true =
        affordable-link spare (target_of address) address behind more
        ∙ ap (λ (text : List ℕ). released_as true address behind run ++ affordable_from (spare_with text spare) [] more) (take-append-drop (address_length (length run) run) run)
    by false = affordable-prints spare [] run more

-- what a reader sees after a call, where its link can't pay
module _ (styling : Styling) (call : Call) (it : Element) (spare : ℕ) where
  abbrev next : Element
  next = element_after call it

  kept-either : (feed paid : Bool) (more : List Call)
      → shown_from styling next ((if feed && not paid then end_of_link ∷ [] else []) ++ more)
      ≡ shown_from styling (element next.style (if feed then (if paid then next.link else []) else next.link)) more
  kept-either false paid more = refl
  kept-either true true more = refl
  kept-either true false more = ap (λ (link : List ℕ). shown_from styling (element next.style link) more) link-ended

  seen-kept : (more : List Call)
      → shown_from styling next (end_unpaid call spare it.link ++ more) ≡ shown_from styling (element next.style (link_kept call spare it.link)) more
  seen-kept more = kept-either (is_executed 0x0A call) (is_paid (earned feed_counts spare) (link_after call it.link)) more

  kept-none : link_after call it.link ≡ [] → link_kept call spare it.link ≡ []
  kept-none none = by (is_executed 0x0A call)
    where
      by : (feed : Bool) → (if feed then (if is_paid (earned feed_counts spare) (link_after call it.link) then link_after call it.link else []) else link_after call it.link) ≡ []
      by true = none-either (is_paid (earned feed_counts spare) (link_after call it.link)) (link_after call it.link) none
      by false = none

seen-paid : (styling : Styling) (parts : List Part) (joins is_linked : Bool) (calls : List Call) (it : Element) (spare : ℕ) → AreFound joins is_linked calls parts
    → (is_linked ≡ false → it.link ≡ []) → map href_of (shown_from styling it (affordable_from spare it.link (flat_map with_link parts))) ≡ hrefs_paid spare it.link parts
seen-paid styling [] joins is_linked calls it spare are none = refl
seen-paid styling (as_is call ∷ parts) joins is_linked calls it spare are none =
    let next = element_after call it in
    let left = spare_after call spare it.link in
    let kept = link_kept call spare it.link in
    let more = affordable_from left kept (flat_map with_link parts) in
    map-append href_of (map (under (attributes_of styling it)) (stripped_call call)) (shown_from styling next (end_unpaid call spare it.link ++ more))
    ∙ ap₂ (λ (l m : List (List ℕ)). l ++ m) (hrefs-under styling it (stripped_call call))
    (ap (map href_of) (seen-kept styling call it spare more)
    ∙ seen-paid styling parts (joins_call call) (linked_after call is_linked) are.0 (element next.style kept) left are.3
    (λ is. kept-none styling call it spare (unlinked-after call is_linked it.link none is)))
seen-paid styling (in_run run ∷ parts) joins is_linked calls it spare are none =
    let others = flat_map with_link parts in
    let left = spare_with run spare in
    let more = affordable_from left [] others in
    ap (λ (l : List ℕ). map href_of (shown_from styling (element it.style l) (affordable_from spare l (released run ++ others)))) (none are.2)
    ∙ ap (λ (l : List Call). map href_of (shown_from styling (element it.style []) l)) (affordable-run spare run others)
    ∙ seen-run styling it run more are.4.each
    ∙ ap (λ (l : List (List ℕ)). hrefs_of (if is_link run then target_of (address_of run) else []) (address_of run) ++ (hrefs_of [] (behind_address run) ++ l))
    (seen-paid styling parts (joins_after joins run) false are.0 (element it.style []) left are.5 (λ _. refl))

-- So a reader sees these links.
module _ (styling : Styling) (calls : List Call) (parts : List Part) (are : AreParts calls parts) where
  shown-hrefs : map href_of (shown_from styling no_element (linked calls)) ≡ hrefs [] parts
  shown-hrefs =
      let (found, found_are, same) = found-linked calls in
      ap (λ (l : List Call). map href_of (shown_from styling no_element l)) same
      ∙ seen-parts styling found false false calls no_element found_are (λ _. refl)
      ∙ ap (hrefs []) (parts-only calls found parts found_are are)

  pub html-hrefs : map href_of (read (html styling (linked calls))) ≡ hrefs [] parts
  html-hrefs = ap (map href_of) (read-html styling (linked calls)) ∙ shown-hrefs

  paid-hrefs : map href_of (shown_from styling no_element (affordable (linked calls))) ≡ hrefs_paid 0 [] parts
  paid-hrefs =
      let (found, found_are, same) = found-linked calls in
      ap (λ (l : List Call). map href_of (shown_from styling no_element (affordable l))) same
      ∙ seen-paid styling found false false calls no_element 0 found_are (λ _. refl)
      ∙ ap (hrefs_paid 0 []) (parts-only calls found parts found_are are)

  pub lined-hrefs : map href_of (read (lined_html styling (linked calls))) ≡ hrefs_paid 0 [] parts
  lined-hrefs = ap (map href_of) (read-lined_html styling (linked calls)) ∙ paid-hrefs

  pub blocked-hrefs : (numbered : Bool) → map href_of (read (blocked_html numbered styling (linked calls))) ≡ hrefs_in_blocks numbered parts
  blocked-hrefs numbered = ap (map href_of) (read-blocked_html numbered styling (linked calls)) ∙ by numbered
    where
      by : (is : Bool) → map href_of (shown_from styling no_element (calls_seen is (linked calls))) ≡ hrefs_in_blocks is parts
      by true = paid-hrefs
      by false = shown-hrefs
