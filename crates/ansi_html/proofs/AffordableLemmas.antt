-- What is spare for links, and the calls whose links can pay: they have the text of the stream, and its links where these
-- are short.
use Rattle.std.proofs.Common.{◌≡◌, ◌≤◌, inl, inr, ℕ, ◌+◌, ◌*◌, ◌-◌, min, Bool, true, false, ◌&&◌, List, [], ◌∷◌, ◌++◌, codes, length, refl, sym, ap, ◌∙◌, arith}
use Rattle.std.specs.Prelude.{not, nat_lt, if◌then◌else◌}
use Rattle.std.proofs.lemmas.Bool.{ltb-true, ltb-false, le-leb, cases_lt}
use Rattle.std.proofs.lemmas.Str.{length-encode, len_utf8_bounds}
use Rattle.anstyle_parse.specs.Stream.Call.{Call, print, execute, hook, put, unhook, osc_dispatch, csi_dispatch, esc_dispatch}
use Rattle.ansi_strip.specs.Strip.{is_layout, stripped_call, stripped}
use Rattle.ansi_html.specs.Links.{is_whole, is_linkable, is_link_command, link_of, link_after}
use Rattle.ansi_html.specs.Html.{is_executed}
use Rattle.ansi_html.specs.Affordable.{byte_earns, feed_counts, max_spare, earned, earned_by_text, link_cost, is_paid, link_paid, left_of, spare_after, link_kept, end_of_link, affordable_from, affordable, HasShortLinks}
use Rattle.ansi_html.proofs.ColorLemmas.{choose}
use Rattle.ansi_html.proofs.BoundLemmas.{units}

-- the command that ends a link selects none
none-either : (is : Bool) (link : List ℕ) → link ≡ [] → (if is then link else []) ≡ []
none-either true link none = none
none-either false link none = refl

pub link-ended : link_of (codes "8" ∷ [] ∷ [] ∷ []) ≡ []
unfolding link_of
link-ended = none-either (is_whole (codes "8" ∷ [] ∷ [] ∷ []) && is_linkable []) [] refl

-- What is earned at once is what is earned one after another.
earned-twice : (m n spare : ℕ) → earned n (earned m spare) ≡ earned (m + n) spare
earned-twice m n spare =
    by_case (nat_lt (spare + byte_earns * m) max_spare) refl (nat_lt (earned m spare + byte_earns * n) max_spare) refl (nat_lt (spare + byte_earns * (m + n)) max_spare) refl
  where
    first : Bool → ℕ
    first is = if is then spare + byte_earns * m else max_spare

    by_case : (one : Bool) → nat_lt (spare + byte_earns * m) max_spare ≡ one
        → (two : Bool) → nat_lt (first one + byte_earns * n) max_spare ≡ two
        → (both : Bool) → nat_lt (spare + byte_earns * (m + n)) max_spare ≡ both
        → (if two then first one + byte_earns * n else max_spare) ≡ (if both then spare + byte_earns * (m + n) else max_spare)
    by_case true e true f true g = omega (arith, ltb-true (spare + byte_earns * m) max_spare e, ltb-true (spare + byte_earns * m + byte_earns * n) max_spare f, ltb-true (spare + byte_earns * (m + n)) max_spare g)
    by_case true e true f false g = omega (arith, ltb-true (spare + byte_earns * m) max_spare e, ltb-true (spare + byte_earns * m + byte_earns * n) max_spare f, ltb-false (spare + byte_earns * (m + n)) max_spare g)
    by_case true e false f true g = omega (arith, ltb-true (spare + byte_earns * m) max_spare e, ltb-false (spare + byte_earns * m + byte_earns * n) max_spare f, ltb-true (spare + byte_earns * (m + n)) max_spare g)
    by_case true e false f false g = omega (arith, ltb-true (spare + byte_earns * m) max_spare e, ltb-false (spare + byte_earns * m + byte_earns * n) max_spare f, ltb-false (spare + byte_earns * (m + n)) max_spare g)
    by_case false e true f true g = omega (arith, ltb-false (spare + byte_earns * m) max_spare e, ltb-true (max_spare + byte_earns * n) max_spare f, ltb-true (spare + byte_earns * (m + n)) max_spare g)
    by_case false e true f false g = omega (arith, ltb-false (spare + byte_earns * m) max_spare e, ltb-true (max_spare + byte_earns * n) max_spare f, ltb-false (spare + byte_earns * (m + n)) max_spare g)
    by_case false e false f true g = omega (arith, ltb-false (spare + byte_earns * m) max_spare e, ltb-false (max_spare + byte_earns * n) max_spare f, ltb-true (spare + byte_earns * (m + n)) max_spare g)
    by_case false e false f false g = omega (arith, ltb-false (spare + byte_earns * m) max_spare e, ltb-false (max_spare + byte_earns * n) max_spare f, ltb-false (spare + byte_earns * (m + n)) max_spare g)

pub earned-more : (m spare : ℕ) (text : List ℕ) → earned_by_text text (earned m spare) ≡ earned (m + length text) spare
earned-more m spare [] = ap (λ n. earned n spare) (omega arith)
earned-more m spare (b ∷ text) = earned-twice m (length (b ∷ text)) spare

-- Bytes that earn all that is kept; and more bytes than a number holds earn no more than as many as it holds.
earned-many : (count spare : ℕ) → max_spare ≤ byte_earns * count → earned count spare ≡ max_spare
earned-many count spare many = by_case (nat_lt (spare + byte_earns * count) max_spare) refl
  where
    by_case : (is : Bool) → nat_lt (spare + byte_earns * count) max_spare ≡ is → (if is then spare + byte_earns * count else max_spare) ≡ max_spare
    by_case true e = omega (arith, ltb-true (spare + byte_earns * count) max_spare e, many)
    by_case false e = refl

pub earned-counted : (count pending spare counted : ℕ) → counted ≡ min (pending + count) 18446744073709551615
    → earned counted spare ≡ earned count (earned pending spare)
earned-counted count pending spare counted is = elim (cases_lt 18446744073709551615 (pending + count)) [
  | inl more ↦
      earned-many counted spare (omega (arith, is, more))
      ∙ sym (earned-many (pending + count) spare (omega (arith, more)))
      ∙ sym (earned-twice pending count spare)
  | inr few ↦ ap (λ n. earned n spare) (omega (arith, is, few)) ∙ sym (earned-twice pending count spare)
]

-- No more is earned than so much,
pub few-earned : (count spare : ℕ) → earned count spare ≤ spare + 25 * count
few-earned count spare = by_case (nat_lt (spare + byte_earns * count) max_spare) refl
  where
    by_case : (is : Bool) → nat_lt (spare + byte_earns * count) max_spare ≡ is → (if is then spare + byte_earns * count else max_spare) ≤ spare + 25 * count
    by_case true e = omega arith
    by_case false e = omega (arith, ltb-false (spare + byte_earns * count) max_spare e)

-- and by a line feed no less than 100.
pub feed-earns : (spare : ℕ) → 100 ≤ earned feed_counts spare
feed-earns spare = by_case (nat_lt (spare + byte_earns * feed_counts) max_spare)
  where
    by_case : (is : Bool) → 100 ≤ (if is then spare + byte_earns * feed_counts else max_spare)
    by_case true = omega arith
    by_case false = omega arith

-- A text has four bytes at most for each unit.
few-layout : (b : ℕ) → length (stripped_call (execute b)) ≤ 4
few-layout b = choose (λ l. length l ≤ 4) (is_layout b) (b ∷ []) [] (omega arith) (omega arith)

few-bytes : (call : Call) → length (stripped_call call) ≤ 4 * units call
unfolding units
few-bytes (print c) = omega (arith, length-encode c, (len_utf8_bounds c).1)
few-bytes (execute b) = few-layout b
few-bytes (osc_dispatch parts bell) = omega arith
few-bytes (csi_dispatch gs is ig f) = omega arith
few-bytes (hook gs is ig f) = omega arith
few-bytes (put b) = omega arith
few-bytes unhook = omega arith
few-bytes (esc_dispatch is ig f) = omega arith

pub few-earned_by_text : (call : Call) (spare : ℕ) → earned_by_text (stripped_call call) spare ≤ spare + 100 * units call
few-earned_by_text call spare = by_text (stripped_call call) (few-bytes call)
  where
    by_text : (text : List ℕ) → length text ≤ 4 * units call → earned_by_text text spare ≤ spare + 100 * units call
    by_text [] few = omega arith
    by_text (b ∷ text) few = omega (arith, few, few-earned (length (b ∷ text)) spare)

-- The text is that of the stream.
stripped-end : (ends : Bool) (calls : List Call) → stripped ((if ends then end_of_link ∷ [] else []) ++ calls) ≡ stripped calls
stripped-end true calls = refl
stripped-end false calls = refl

stripped-affordable_from : (spare : ℕ) (link : List ℕ) (calls : List Call) → stripped (affordable_from spare link calls) ≡ stripped calls
stripped-affordable_from spare link [] = refl
stripped-affordable_from spare link (call ∷ calls) =
    let rest = affordable_from (spare_after call spare link) (link_kept call spare link) calls in
    ap (λ text. stripped_call call ++ text)
    (stripped-end (is_executed 0x0A call && not (is_paid (earned feed_counts spare) (link_after call link))) rest
    ∙ stripped-affordable_from (spare_after call spare link) (link_kept call spare link) calls)

pub stripped-affordable : (calls : List Call) → stripped (affordable calls) ≡ stripped calls
stripped-affordable calls = stripped-affordable_from 0 [] calls

-- Short links go on over each line feed.
abbrev IsShort : List ℕ → Type 0
IsShort link = link_cost link ≤ 100

short-after : (call : Call) (link : List ℕ) → IsShort link → IsShort (link_after call []) → IsShort (link_after call link)
short-after (osc_dispatch parts bell) link short here = by_case (is_link_command parts) here
  where
    by_case : (command : Bool) → IsShort (if command then link_of parts else []) → IsShort (if command then link_of parts else link)
    by_case true here = here
    by_case false here = short
short-after (print c) link short here = short
short-after (execute b) link short here = short
short-after (hook gs is ig f) link short here = short
short-after (put b) link short here = short
short-after unhook link short here = short
short-after (csi_dispatch gs is ig f) link short here = short
short-after (esc_dispatch is ig f) link short here = short

short-paid : (spare : ℕ) (link : List ℕ) → IsShort link → is_paid (earned feed_counts spare) link ≡ true
short-paid spare link short = le-leb (link_cost link) (earned feed_counts spare) (omega (arith, short, feed-earns spare))

abbrev Same : (spare : ℕ) → (link : List ℕ) → List Call → Type 0
Same spare link calls = IsShort link → affordable_from spare link calls ≡ calls

same-call : (call : Call) (spare : ℕ) (link : List ℕ) (calls : List Call) → IsShort (link_after call link)
    → ((left : ℕ) (next : List ℕ) → Same left next calls) → affordable_from spare link (call ∷ calls) ≡ call ∷ calls
same-call call spare link calls short others = by_case (is_executed 0x0A call) (short-paid spare next short)
  where
    next : List ℕ
    next = link_after call link

    earns : ℕ
    earns = earned feed_counts spare

    by_case : (feed : Bool) → is_paid earns next ≡ true
        → (call ∷ ((if feed && not (is_paid earns next) then end_of_link ∷ [] else [])
        ++ affordable_from (if feed then left_of earns next else earned_by_text (stripped_call call) spare)
        (if feed then link_paid earns next else next) calls))
        ≡ (call ∷ calls)
    by_case false paid = ap (λ more. call ∷ more) (others (earned_by_text (stripped_call call) spare) next short)
    by_case true paid =
        ap (λ (is : Bool). call ∷ ((if not is then end_of_link ∷ [] else [])
        ++ affordable_from (if is then earns - link_cost next else earns) (if is then next else []) calls)) paid
        ∙ ap (λ more. call ∷ more) (others (earns - link_cost next) next short)

same-affordable_from : (spare : ℕ) (link : List ℕ) (calls : List Call) → HasShortLinks calls → Same spare link calls
same-affordable_from spare link [] are short = refl
same-affordable_from spare link (call ∷ calls) are short =
    same-call call spare link calls (short-after call link short are.0) (λ left next. same-affordable_from left next calls are.1)

pub same-affordable : (calls : List Call) → HasShortLinks calls → affordable calls ≡ calls
same-affordable calls are = same-affordable_from 0 [] calls are (omega arith)
