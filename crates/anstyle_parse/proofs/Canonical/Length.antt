-- The canonical text of the calls of bytes is at most three times as long as these.
use Rattle.std.proofs.Common.{◌≡◌, ℕ, zero, suc, ◌+◌, ◌*◌, ◌<◌, ◌≤◌, Bool, true, false, not, ◌&&◌, cond, List, [], ◌∷◌, ◌++◌, length, take, map, refl, sym, ap, ◌∙◌, eqb, ltb, arith, append_assoc, length-append}
use Rattle.std.specs.Char.{encode_utf8}
use Rattle.std.specs.List.{AllByRecursion, filter, slice_split, join_with_byte}
use Rattle.std.proofs.lemmas.Bool.{cond_both}
use Rattle.std.proofs.lemmas.List.Splits.{join_with_byte-slice_split}
use Rattle.anstyle_parse.specs.Stream.Bytes.{is_within, is_control, is_intermediate, semicolon}
use Rattle.anstyle_parse.specs.Stream.Characters.{character_of, replacement}
use Rattle.anstyle_parse.specs.Stream.Arguments.{significant, is_kept, has_shape, after_marker, through_stored, groups_of, collected_of, ignore_of, all_collected, parts_of, max_collected, max_osc_parts, max_osc_bytes}
use Rattle.anstyle_parse.specs.Stream.Call.{Call, print, execute, hook, put, osc_dispatch, csi_dispatch}
use Rattle.anstyle_parse.specs.Stream.Items.{Body, escape, csi, dcs_header, dcs, dcs_ignored, osc, sos_pm_apc, End, complete, cancelled, broken_off, unfinished, Item, single, character, broken, begun, sequence, body_text, end_text, item_text, items_text, IsItem}
use Rattle.anstyle_parse.specs.Stream.Calls.{is_executed, is_printed, single_calls, is_put, executes, control_dispatch, body_calls, end_calls, item_calls, items_calls, AreCalls}
use Rattle.anstyle_parse.specs.Stream.Canon.{leading_marker, shows_no_more_intermediates, one_more_field, one_more_intermediate, header_text, escape_text, command_end, call_text, canon}
use Rattle.anstyle_parse.specs.Stream.Groups.{groups_text}
use Rattle.anstyle_parse.proofs.Characters.Tests.{length-IsProperFront}
use Rattle.anstyle_parse.proofs.Characters.Encoding.{within_parts, encode_one}
use Rattle.anstyle_parse.proofs.Canonical.Shown.{leading_marker-after_marker}
use Rattle.anstyle_parse.proofs.Lists.Parts.{length-take_le, length-filter_le}
use Rattle.anstyle_parse.proofs.Characters.Scalars.{well_formed-AreOfCharacter}
use Rattle.anstyle_parse.proofs.Canonical.FieldsBound.{length-groups_text}

-- canonical texts join as the calls do
pub canon-append : (a b : List Call) → canon (a ++ b) ≡ canon a ++ canon b
canon-append [] b = refl
canon-append (call ∷ a) b = ap (λ l. call_text call ++ l) (canon-append a b) ∙ sym (append_assoc (call_text call) (canon a) (canon b))

length-canon-append : (a b : List Call) → length (canon (a ++ b)) ≡ length (canon a) + length (canon b)
length-canon-append a b = ap length (canon-append a b) ∙ length-append (canon a) (canon b)

-- the text of executes, and of puts, is the bytes
canon-execute : (bytes : List ℕ) → canon (map execute bytes) ≡ bytes
canon-execute [] = refl
canon-execute (b ∷ bytes) = ap (λ l. b ∷ l) (canon-execute bytes)

canon-put : (bytes : List ℕ) → canon (map put bytes) ≡ bytes
canon-put [] = refl
canon-put (b ∷ bytes) = ap (λ l. b ∷ l) (canon-put bytes)

length-canon-executes : (bytes : List ℕ) → length (canon (executes bytes)) ≤ length bytes
length-canon-executes bytes = omega (arith, ap length (canon-execute (filter is_control bytes)), length-filter_le is_control bytes)

length-canon-puts : (text : List ℕ) → length (canon (map put (filter is_put text))) ≤ length text
length-canon-puts text = omega (arith, ap length (canon-put (filter is_put text)), length-filter_le is_put text)

-- one more field or one more intermediate, not both
one_more : (ignore full : Bool) → length {A = ℕ} (cond (ignore && not full) (semicolon ∷ []) []) + length {A = ℕ} (cond (ignore && full) (0x20 ∷ []) []) ≤ 1
one_more true true = omega arith
one_more true false = omega arith
one_more false full = omega arith

-- the canonical form of the header that these bytes are
length-header_text : (header : List ℕ) → length (header_text (groups_of header) (collected_of header) (ignore_of header)) ≤ 2 * length header + 5
unfolding header_text collected_of
length-header_text header =
    let collected = take max_collected (all_collected header) in
    let ignore = ignore_of header in
    let first = leading_marker collected in
    let rest = after_marker collected in
    let fields = groups_text (groups_of header) in
    let field = one_more_field collected ignore in
    let more = one_more_intermediate collected ignore in
    omega (
      arith,
      length-append first ((fields ++ field) ++ (rest ++ more)),
      length-append (fields ++ field) (rest ++ more),
      length-append fields field,
      length-append rest more,
      ap length (leading_marker-after_marker collected),
      length-append first rest,
      length-take_le max_collected (all_collected header),
      one_more ignore (shows_no_more_intermediates collected),
      length-groups_text header,
    )

length-significant : (header : List ℕ) → length (significant header) ≤ length header
length-significant header = length-filter_le _ header

-- at most two intermediates, and one more
length-escape_text : (bytes : List ℕ) (ignore : Bool) → length (escape_text (take max_collected bytes) ignore) ≤ 3
unfolding escape_text
length-escape_text bytes true = omega (arith, length-append (take max_collected bytes) (0x20 ∷ []), length-take_le max_collected bytes)
length-escape_text bytes false = omega (arith, length-append (take max_collected bytes) [], length-take_le max_collected bytes)

length-through_stored : (n : ℕ) (bytes : List ℕ) → length (through_stored n bytes) ≤ length bytes
length-through_stored n [] = omega arith
length-through_stored zero (b ∷ bytes) = omega arith
length-through_stored (suc n) (b ∷ bytes) =
    cond_both (eqb b semicolon) (through_stored (suc n) bytes) (through_stored n bytes) (λ l. suc (length l) ≤ suc (length bytes))
    (λ e. omega (arith, length-through_stored (suc n) bytes)) (λ e. omega (arith, length-through_stored n bytes))

length-join-take : (n : ℕ) (parts : List (List ℕ)) → length (join_with_byte semicolon (take n parts)) ≤ length (join_with_byte semicolon parts)
length-join-take zero parts = omega arith
length-join-take (suc n) [] = omega arith
length-join-take (suc zero) (part ∷ []) = omega arith
length-join-take (suc (suc n)) (part ∷ []) = omega arith
length-join-take (suc zero) (part ∷ next ∷ parts) = omega (arith, length-append part (semicolon ∷ join_with_byte semicolon (next ∷ parts)))
length-join-take (suc (suc n)) (part ∷ next ∷ parts) =
    omega (arith, length-append part (semicolon ∷ join_with_byte semicolon (next ∷ parts)), length-append part (semicolon ∷ join_with_byte semicolon (next ∷ take n parts)), length-join-take (suc n) (next ∷ parts))

-- the joined parts of a command are no longer than its text
length-parts_of : (text : List ℕ) → length (join_with_byte semicolon (parts_of text)) ≤ length text
unfolding parts_of
length-parts_of text =
    let stored = through_stored max_osc_bytes (filter is_kept text) in
    omega (
      arith,
      length-join-take max_osc_parts (slice_split (λ b. eqb b semicolon) stored),
      ap length (join_with_byte-slice_split semicolon stored),
      length-through_stored max_osc_bytes (filter is_kept text),
      length-filter_le is_kept text,
    )

-- what a body leaves of three times its length for the calls of its end
slack : Body → ℕ
slack (escape bytes) = 2
slack (csi between header) = 2 * length header + 5
slack (dcs_header between header) = 0
slack (dcs between header final text) = 1
slack (dcs_ignored between header byte text) = 0
slack (osc between text) = length text + 5
slack (sos_pm_apc between kind text) = 0

-- the header of a sequence, and what follows it
length-header_call : (header : List ℕ) (rest : List ℕ) → length (header_text (groups_of (significant header)) (collected_of (significant header)) (ignore_of (significant header)) ++ rest) ≤ 2 * length header + 5 + length rest
length-header_call header rest =
    omega (arith, length-append (header_text (groups_of (significant header)) (collected_of (significant header)) (ignore_of (significant header))) rest, length-header_text (significant header), length-significant header)

-- a body's calls before its end leave that
length-canon-body : (body : Body) → length (canon (body_calls body)) + slack body ≤ 3 * length (body_text body)
unfolding slack
length-canon-body (escape bytes) = omega (arith, length-canon-executes bytes)
length-canon-body (csi between header) =
    omega (arith, length-canon-append (executes between) (executes header), length-append between (0x5B ∷ header), length-canon-executes between, length-canon-executes header)
length-canon-body (dcs_header between header) = omega (arith, length-append between (0x50 ∷ header), length-canon-executes between)
length-canon-body (dcs between header final text) =
    let puts = map put (filter is_put text) in
    let text_of = header_text (groups_of (significant header)) (collected_of (significant header)) (ignore_of (significant header)) in
    omega (
      arith,
      length-canon-append (executes between) (hook (groups_of (significant header)) (collected_of (significant header)) (ignore_of (significant header)) final ∷ puts),
      length-append (text_of ++ final ∷ []) (canon puts),
      length-header_call header (final ∷ []),
      length-append between (0x50 ∷ (header ++ final ∷ text)),
      length-append header (final ∷ text),
      length-canon-executes between,
      length-canon-puts text,
    )
length-canon-body (dcs_ignored between header byte text) = omega (arith, length-append between (0x50 ∷ (header ++ byte ∷ text)), length-canon-executes between)
length-canon-body (osc between text) = omega (arith, length-append between (0x5D ∷ text), length-canon-executes between)
length-canon-body (sos_pm_apc between kind text) = omega (arith, length-append between (kind ∷ text), length-canon-executes between)

-- the dispatch of a control sequence
length-canon-dispatch : (header : List ℕ) (final : ℕ) → length (canon (control_dispatch (significant header) final)) ≤ 2 * length header + 8
length-canon-dispatch header final =
    let shown = significant header in
    let text_of = header_text (groups_of shown) (collected_of shown) (ignore_of shown) in
    cond_both (has_shape shown) (csi_dispatch (groups_of shown) (collected_of shown) (ignore_of shown) final ∷ []) [] (λ l. length (canon l) ≤ 2 * length header + 8)
    (λ e. omega (arith, length-append (text_of ++ final ∷ []) [], length-header_call header (final ∷ []))) (λ e. omega arith)

-- an operating system command and calls after it
length-canon-osc : (text : List ℕ) (bell_terminated : Bool) (calls : List Call) → length (canon (osc_dispatch (parts_of text) bell_terminated ∷ calls)) ≤ length text + 2 + length (command_end bell_terminated) + length (canon calls)
length-canon-osc text bell_terminated calls =
    let joined = join_with_byte semicolon (parts_of text) in
    omega (arith, length-append (joined ++ command_end bell_terminated) (canon calls), length-append joined (command_end bell_terminated), length-parts_of text)

-- the calls of an end are paid by its byte and by what the body leaves
length-canon-end : (body : Body) (end : End) → length (canon (end_calls body end)) ≤ 3 * length (end_text end) + slack body
unfolding slack
length-canon-end (escape bytes) (complete final) =
    let kept = filter is_intermediate bytes in
    let ignore = ltb max_collected (length kept) in
    let text_of = escape_text (take max_collected kept) ignore in
    omega (arith, length-append (text_of ++ final ∷ []) [], length-append text_of (final ∷ []), length-escape_text kept ignore)
length-canon-end (csi between header) (complete byte) = omega (arith, length-canon-dispatch header byte)
length-canon-end (dcs_header between header) (complete byte) = omega arith
length-canon-end (dcs between header final text) (complete byte) = omega arith
length-canon-end (dcs_ignored between header x text) (complete byte) = omega arith
length-canon-end (osc between text) (complete byte) = omega (arith, length-canon-osc text true [])
length-canon-end (sos_pm_apc between kind text) (complete byte) = omega arith
length-canon-end (escape bytes) (cancelled byte) = omega arith
length-canon-end (csi between header) (cancelled byte) = omega arith
length-canon-end (dcs_header between header) (cancelled byte) = omega arith
length-canon-end (dcs between header final text) (cancelled byte) = omega arith
length-canon-end (dcs_ignored between header x text) (cancelled byte) = omega arith
length-canon-end (osc between text) (cancelled byte) = omega (arith, length-canon-osc text false (execute byte ∷ []))
length-canon-end (sos_pm_apc between kind text) (cancelled byte) = omega arith
length-canon-end (escape bytes) broken_off = omega arith
length-canon-end (csi between header) broken_off = omega arith
length-canon-end (dcs_header between header) broken_off = omega arith
length-canon-end (dcs between header final text) broken_off = omega arith
length-canon-end (dcs_ignored between header x text) broken_off = omega arith
length-canon-end (osc between text) broken_off = omega (arith, length-canon-osc text false [])
length-canon-end (sos_pm_apc between kind text) broken_off = omega arith
length-canon-end (escape bytes) unfinished = omega arith
length-canon-end (csi between header) unfinished = omega arith
length-canon-end (dcs_header between header) unfinished = omega arith
length-canon-end (dcs between header final text) unfinished = omega arith
length-canon-end (dcs_ignored between header x text) unfinished = omega arith
length-canon-end (osc between text) unfinished = omega arith
length-canon-end (sos_pm_apc between kind text) unfinished = omega arith

-- a single byte
length-canon-single : (b : ℕ) → length (canon (single_calls b)) ≤ 3
unfolding single_calls is_printed
length-canon-single b =
    cond_both (is_within 0x20 0x7F b) (print b ∷ []) (cond (is_executed b) (execute b ∷ []) []) (λ l. length (canon l) ≤ 3)
    (λ e. let ascii : b < 0x80 = omega (arith, (within_parts 0x20 0x7F b e).1) in omega (arith, ap length (encode_one b ascii), length-append (encode_utf8 b) []))
    (λ e. cond_both (is_executed b) (execute b ∷ []) [] (λ l. length (canon l) ≤ 3) (λ f. omega arith) (λ f. omega arith))

length-canon-replacement : length (canon (print replacement ∷ [])) ≤ 3
unfolding encode_utf8
length-canon-replacement = omega arith

-- the calls of an item are written in at most three times its length
length-canon-item : (item : Item) → IsItem item → length (canon (item_calls item)) ≤ 3 * length (item_text item)
length-canon-item (single byte) is = omega (arith, length-canon-single byte)
length-canon-item (character bytes) is =
    omega (arith, ap length (well_formed-AreOfCharacter bytes is).1, length-append (encode_utf8 (character_of bytes)) [])
length-canon-item (broken front) is = omega (arith, length-IsProperFront front is, length-canon-replacement)
length-canon-item (begun front) is = omega arith
length-canon-item (sequence body end) is =
    omega (arith, length-canon-append (body_calls body) (end_calls body end), length-append (body_text body) (end_text end), length-canon-body body, length-canon-end body end)

length-canon-items : (items : List Item) → AllByRecursion IsItem items → length (canon (items_calls items)) ≤ 3 * length (items_text items)
length-canon-items [] each = omega arith
length-canon-items (item ∷ items) each =
    omega (arith, length-canon-append (item_calls item) (items_calls items), length-append (item_text item) (items_text items), length-canon-item item each.0, length-canon-items items each.1)

-- the calls of bytes are written in at most three times as many
pub length-canon : (bytes : List ℕ) (calls : List Call) → AreCalls bytes calls → length (canon calls) ≤ 3 * length bytes
length-canon bytes calls are = omega (arith, ap (λ c. length (canon c)) are.2, ap length are.1.whole, length-canon-items are.0 are.1.each)
