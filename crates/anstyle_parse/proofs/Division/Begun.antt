-- A list of bytes that ends inside a character: a quotation mark may stand in place of what is begun.
use Rattle.std.proofs.Common.{◌≡◌, ◌≤◌, ℕ, eqb-true, List, [], ◌∷◌, ◌++◌, length, IsTrue, refl, sym, ap, ◌∙◌, subst, append-nil, arith, length-append}
use Rattle.std.specs.List.{AllByRecursion}
use Rattle.std.proofs.lemmas.Bool.{false≢true}
use Rattle.std.proofs.lemmas.Grind.{flat_map-append}
use Rattle.anstyle_parse.specs.Stream.Bytes.{is_within, is_escape}
use Rattle.anstyle_parse.specs.Stream.Call.{Call, print}
use Rattle.anstyle_parse.specs.Stream.Calls.{items_calls, single_calls, is_printed, AreCalls}
use Rattle.anstyle_parse.specs.Stream.Characters.{is_lead, IsFront, IsProperFront}
use Rattle.anstyle_parse.specs.Stream.Items.{Item, escape, csi, dcs_header, dcs, dcs_ignored, osc, sos_pm_apc, single, character, broken, begun, sequence, complete, cancelled, broken_off, unfinished, end_text, item_text, items_text, IsItem, MayPrecede, AreJoined}
use Rattle.anstyle_parse.specs.Machine.Stands.{EndsInCharacter}
use Rattle.anstyle_parse.proofs.Agreement.Whole.{items_calls-append}
use Rattle.anstyle_parse.proofs.Bytes.Passing.{EachIs-parts}
use Rattle.anstyle_parse.proofs.Characters.Encoding.{within_parts}
use Rattle.anstyle_parse.proofs.Characters.Table.{EachIs-front, is_front-proper, is_lead-front, is_well_formed-nil}
use Rattle.anstyle_parse.proofs.Characters.Tests.{IsFront-test, IsProperFront-test}
use Rattle.anstyle_parse.proofs.Division.Only.{AreCalls-only}

-- a byte stands there
some_text : (item : Item) → IsItem item → (b : ℕ) × (more : List ℕ) × (item_text item ≡ b ∷ more)
some_text (single b) is = (b, [], refl)
some_text (character []) is = absurd (false≢true (sym is_well_formed-nil ∙ is))
some_text (character (a ∷ bytes)) is = (a, bytes, refl)
some_text (broken []) is = absurd (is.begun refl)
some_text (broken (a ∷ bytes)) is = (a, bytes, refl)
some_text (begun []) is = absurd (is.begun refl)
some_text (begun (a ∷ bytes)) is = (a, bytes, refl)
some_text (sequence (escape bytes) end) is = (0x1B, bytes ++ end_text end, refl)
some_text (sequence (csi between header) end) is = (0x1B, (between ++ 0x5B ∷ header) ++ end_text end, refl)
some_text (sequence (dcs_header between header) end) is = (0x1B, (between ++ 0x50 ∷ header) ++ end_text end, refl)
some_text (sequence (dcs between header final text) end) is = (0x1B, (between ++ 0x50 ∷ (header ++ final ∷ text)) ++ end_text end, refl)
some_text (sequence (dcs_ignored between header byte text) end) is = (0x1B, (between ++ 0x50 ∷ (header ++ byte ∷ text)) ++ end_text end, refl)
some_text (sequence (osc between text) end) is = (0x1B, (between ++ 0x5D ∷ text) ++ end_text end, refl)
some_text (sequence (sos_pm_apc between kind text) end) is = (0x1B, (between ++ kind ∷ text) ++ end_text end, refl)

-- what may follow an item is told by its first byte
same_first : (item : Item) (b : ℕ) (rest other : List ℕ) → MayPrecede item (b ∷ rest) → MayPrecede item (b ∷ other)
same_first (begun front) b rest other may = absurd (cc (may))
same_first (sequence body unfinished) b rest other may = absurd (cc (may))
same_first (sequence body broken_off) b rest other may = may
same_first (sequence body (complete byte)) b rest other may = tt
same_first (sequence body (cancelled byte)) b rest other may = tt
same_first (single byte) b rest other may = tt
same_first (character bytes) b rest other may = tt
same_first (broken front) b rest other may = may

-- a quotation mark goes on with no character
quote_breaks : (front : List ℕ) → IsProperFront front → ¬ IsFront (front ++ 0x22 ∷ [])
unfolding is_within
quote_breaks [] is = absurd (is.begun refl)
quote_breaks (a ∷ front) is = λ h.
    false≢true (EachIs-parts (is_within 0x80 0xBF) front (0x22 ∷ [])
    (EachIs-front a (front ++ 0x22 ∷ []) ((IsFront-test (a ∷ (front ++ 0x22 ∷ []))).1 h))).1.0

-- a character does not begin with ESC
no_escape : (a : ℕ) (front : List ℕ) → IsProperFront (a ∷ front) → IsTrue (is_escape a) → ⊥
unfolding is_escape is_lead
no_escape a front is breaks =
    let lead = within_parts 0xC2 0xF4 a (is_lead-front a front (is_front-proper (a ∷ front) ((IsProperFront-test (a ∷ front)).1 is))) in
    omega (arith, lead.0, eqb-true a 0x1B breaks)

-- a quotation mark may follow whatever a character may follow
MayPrecede-quote : (item : Item) (front : List ℕ) → IsItem item → IsProperFront front → MayPrecede item (front ++ []) → MayPrecede item (0x22 ∷ [])
MayPrecede-quote item [] is begins may = absurd (begins.begun refl)
MayPrecede-quote (begun others) (a ∷ front) is begins may = absurd (cc (may))
MayPrecede-quote (sequence body unfinished) (a ∷ front) is begins may = absurd (cc (may))
MayPrecede-quote (sequence body broken_off) (a ∷ front) is begins may = absurd (no_escape a front begins may)
MayPrecede-quote (sequence body (complete byte)) (a ∷ front) is begins may = tt
MayPrecede-quote (sequence body (cancelled byte)) (a ∷ front) is begins may = tt
MayPrecede-quote (single byte) (a ∷ front) is begins may = tt
MayPrecede-quote (character bytes) (a ∷ front) is begins may = tt
MayPrecede-quote (broken others) (a ∷ front) is begins may = quote_breaks others is

joined-quote : (items : List Item) (front : List ℕ) → AllByRecursion IsItem (items ++ begun front ∷ []) → AreJoined (items ++ begun front ∷ [])
    → AllByRecursion IsItem (items ++ single 0x22 ∷ []) × AreJoined (items ++ single 0x22 ∷ [])
unfolding is_escape is_lead is_within
joined-quote [] front each joined = ((refl, tt), (tt, tt))
joined-quote (item ∷ []) front each joined = ((each.0, (refl, tt)), (MayPrecede-quote item front each.0 each.1.0 joined.0, (tt, tt)))
joined-quote (item ∷ (next ∷ items)) front each joined =
    let (b, more, is) = some_text next each.1.0 in
    let rest = joined-quote (next ∷ items) front each.1 joined.1 in
    let P : List ℕ → List ℕ → Type 0 = λ text l. MayPrecede item (text ++ l) in
    let before = items_text (items ++ begun front ∷ []) in
    let after = items_text (items ++ single 0x22 ∷ []) in (
      (each.0, rest.0),
      (
        subst (λ text. P text after) (sym is) (same_first item b (more ++ before) (more ++ after) (subst (λ text. P text before) is joined.0)),
        rest.1,
      ),
    )

last_item : (items : List Item) (item : Item) → AllByRecursion IsItem (items ++ item ∷ []) → IsItem item
last_item [] item each = each.0
last_item (first ∷ items) item each = last_item items item each.1

-- so one may stand in the place of what is begun, and is printed
pub AreCalls-in_place : (raw : List ℕ) (calls : List Call) → AreCalls raw calls → EndsInCharacter raw
    → (place : List ℕ) × (length place ≤ length raw) × AreCalls place (calls ++ print 0x22 ∷ [])
unfolding single_calls is_printed is_within
AreCalls-in_place raw calls are ends =
    let items = ends.0 in
    let front = ends.1 in
    let whole = items ++ single 0x22 ∷ [] in
    let division = ends.2 in
    let rest = joined-quote items front division.each division.joined in
    let (b, more, is) = some_text (begun front) (last_item items (begun front) division.each) in
    let same : calls ≡ items_calls items =
    AreCalls-only raw calls (items_calls (items ++ begun front ∷ [])) are (items ++ begun front ∷ [], division, refl)
    ∙ items_calls-append items (begun front ∷ []) ∙ append-nil (items_calls items) in (
      items_text whole,
      omega (
        arith,
        ap length (flat_map-append item_text items (single 0x22 ∷ [])),
        length-append (items_text items) (0x22 ∷ []),
        ap length (sym division.whole ∙ flat_map-append item_text items (begun front ∷ [])),
        length-append (items_text items) (front ++ []),
        length-append front [],
        ap length is,
      ),
      (
        whole,
        record { whole = refl; each = rest.0; joined = rest.1 },
        ap (λ l. l ++ print 0x22 ∷ []) same ∙ sym (items_calls-append items (single 0x22 ∷ [])),
      ),
    )
