-- Bytes make at most as many calls as they are, and these calls' canonical text is at most
-- three times as long.
use Rattle.std.proofs.Common.{ℕ, suc, ◌≤◌, cond, List, [], ◌∷◌, ◌++◌, length, map, ap, arith, length-append}
use Rattle.std.specs.List.{AllByRecursion, filter}
use Rattle.std.proofs.lemmas.Bool.{cond_both}
use Rattle.std.proofs.lemmas.List.{length-map}
use Rattle.anstyle_parse.specs.Stream.Bytes.{is_control}
use Rattle.anstyle_parse.specs.Stream.Characters.{character_of}
use Rattle.anstyle_parse.specs.Stream.Arguments.{significant, has_shape, groups_of, collected_of, ignore_of}
use Rattle.anstyle_parse.specs.Stream.Call.{Call, print, execute, hook, put, csi_dispatch}
use Rattle.anstyle_parse.specs.Stream.Items.{Body, escape, csi, dcs_header, dcs, dcs_ignored, osc, sos_pm_apc, End, complete, cancelled, broken_off, unfinished, Item, single, character, broken, begun, sequence, body_text, end_text, item_text, items_text, IsItem}
use Rattle.anstyle_parse.specs.Stream.Calls.{is_executed, is_printed, single_calls, is_put, executes, control_dispatch, body_calls, end_calls, item_calls, items_calls, AreCalls}
use Rattle.anstyle_parse.proofs.Characters.Tests.{length-IsProperFront}
use Rattle.anstyle_parse.proofs.Lists.Parts.{length-filter_le}
use Rattle.anstyle_parse.proofs.Characters.Scalars.{well_formed-AreOfCharacter, length-encode-some}

length-executes : (bytes : List ℕ) → length (executes bytes) ≤ length bytes
length-executes bytes = omega (arith, length-map (filter is_control bytes) execute, length-filter_le is_control bytes)

length-puts : (text : List ℕ) → length (map put (filter is_put text)) ≤ length text
length-puts text = omega (arith, length-map (filter is_put text) put, length-filter_le is_put text)

length-control_dispatch : (header : List ℕ) (final : ℕ) → length (control_dispatch header final) ≤ 1
length-control_dispatch header final =
    cond_both (has_shape header) (csi_dispatch (groups_of header) (collected_of header) (ignore_of header) final ∷ []) [] (λ l. length l ≤ 1) (λ e. omega arith) (λ e. omega arith)

-- a body has a byte more than it makes calls
length-body_calls : (body : Body) → suc (length (body_calls body)) ≤ length (body_text body)
length-body_calls (escape bytes) = omega (arith, length-executes bytes)
length-body_calls (csi between header) =
    omega (arith, length-append (executes between) (executes header), length-append between (0x5B ∷ header), length-executes between, length-executes header)
length-body_calls (dcs_header between header) = omega (arith, length-append between (0x50 ∷ header), length-executes between)
length-body_calls (dcs between header final text) =
    omega (
      arith,
      length-append (executes between) (hook (groups_of (significant header)) (collected_of (significant header)) (ignore_of (significant header)) final ∷ map put (filter is_put text)),
      length-append between (0x50 ∷ (header ++ final ∷ text)),
      length-append header (final ∷ text),
      length-executes between,
      length-puts text,
    )
length-body_calls (dcs_ignored between header byte text) = omega (arith, length-append between (0x50 ∷ (header ++ byte ∷ text)), length-executes between)
length-body_calls (osc between text) = omega (arith, length-append between (0x5D ∷ text), length-executes between)
length-body_calls (sos_pm_apc between kind text) = omega (arith, length-append between (kind ∷ text), length-executes between)

-- and pays with it for one call of its end
length-end_calls : (body : Body) (end : End) → length (end_calls body end) ≤ suc (length (end_text end))
length-end_calls (escape bytes) (complete byte) = omega arith
length-end_calls (csi between header) (complete byte) = omega (arith, length-control_dispatch (significant header) byte)
length-end_calls (dcs_header between header) (complete byte) = omega arith
length-end_calls (dcs between header final text) (complete byte) = omega arith
length-end_calls (dcs_ignored between header x text) (complete byte) = omega arith
length-end_calls (osc between text) (complete byte) = omega arith
length-end_calls (sos_pm_apc between kind text) (complete byte) = omega arith
length-end_calls (escape bytes) (cancelled byte) = omega arith
length-end_calls (csi between header) (cancelled byte) = omega arith
length-end_calls (dcs_header between header) (cancelled byte) = omega arith
length-end_calls (dcs between header final text) (cancelled byte) = omega arith
length-end_calls (dcs_ignored between header x text) (cancelled byte) = omega arith
length-end_calls (osc between text) (cancelled byte) = omega arith
length-end_calls (sos_pm_apc between kind text) (cancelled byte) = omega arith
length-end_calls (escape bytes) broken_off = omega arith
length-end_calls (csi between header) broken_off = omega arith
length-end_calls (dcs_header between header) broken_off = omega arith
length-end_calls (dcs between header final text) broken_off = omega arith
length-end_calls (dcs_ignored between header x text) broken_off = omega arith
length-end_calls (osc between text) broken_off = omega arith
length-end_calls (sos_pm_apc between kind text) broken_off = omega arith
length-end_calls (escape bytes) unfinished = omega arith
length-end_calls (csi between header) unfinished = omega arith
length-end_calls (dcs_header between header) unfinished = omega arith
length-end_calls (dcs between header final text) unfinished = omega arith
length-end_calls (dcs_ignored between header x text) unfinished = omega arith
length-end_calls (osc between text) unfinished = omega arith
length-end_calls (sos_pm_apc between kind text) unfinished = omega arith

length-single_calls : (b : ℕ) → length (single_calls b) ≤ 1
unfolding single_calls
length-single_calls b =
    cond_both (is_printed b) (print b ∷ []) (cond (is_executed b) (execute b ∷ []) []) (λ l. length l ≤ 1) (λ e. omega arith)
    (λ e. cond_both (is_executed b) (execute b ∷ []) [] (λ l. length l ≤ 1) (λ f. omega arith) (λ f. omega arith))

-- an item makes at most as many calls as it has bytes
pub length-item_calls : (item : Item) → IsItem item → length (item_calls item) ≤ length (item_text item)
length-item_calls (single byte) is = length-single_calls byte
length-item_calls (character bytes) is = omega (arith, ap length (well_formed-AreOfCharacter bytes is).1, length-encode-some (character_of bytes))
length-item_calls (broken front) is = omega (arith, length-IsProperFront front is)
length-item_calls (begun front) is = omega arith
length-item_calls (sequence body end) is =
    omega (arith, length-append (body_calls body) (end_calls body end), length-append (body_text body) (end_text end), length-body_calls body, length-end_calls body end)

-- and so do items
pub length-items_calls : (items : List Item) → AllByRecursion IsItem items → length (items_calls items) ≤ length (items_text items)
length-items_calls [] each = omega arith
length-items_calls (item ∷ items) each =
    omega (arith, length-append (item_calls item) (items_calls items), length-append (item_text item) (items_text items), length-item_calls item each.0, length-items_calls items each.1)

-- bytes make at most as many calls as they are
pub length-calls : (bytes : List ℕ) (calls : List Call) → AreCalls bytes calls → length calls ≤ length bytes
length-calls bytes calls are = omega (arith, ap length are.2, ap length are.1.whole, length-items_calls are.0 are.1.each)
