-- The calls of which something is left are a lawful list, whose canonical text is what is left.
use Rattle.std.proofs.Common.{◌≡◌, ℕ, Bool, true, false, List, [], ◌∷◌, ◌++◌, ◌≤◌, length, filter, IsTrue, encode_utf8, refl, ap, ◌∙◌, arith, length-append}
use Rattle.std.specs.Prelude.{if◌then◌else◌}
use Rattle.std.specs.Str.{IsUtf8}
use Rattle.anstyle_parse.specs.Stream.Call.{Call, print, execute, hook, put, unhook, osc_dispatch, csi_dispatch, esc_dispatch}
use Rattle.anstyle_parse.specs.Stream.Calls.{is_executed}
use Rattle.anstyle_parse.specs.Stream.Canon.{call_text, canon}
use Rattle.anstyle_parse.specs.Stream.Texts.{layout_calls}
use Rattle.anstyle_parse.specs.Laws.Lawful.{AreLawfulFrom, AreLawful}
use Rattle.anstyle_parse.proofs.Written.Texts.{flat_map-layout_calls}
use Rattle.ansi_strip.specs.Strip.{is_layout, is_left, stripped_call, stripped}

-- a control, where it is left
canon-execute : (t : Bool) (byte : ℕ) (left : List Call) (text : List ℕ) → text ≡ canon left → (if t then byte ∷ [] else []) ++ text ≡ canon (if t then execute byte ∷ left else left)
canon-execute true byte left text same = ap (λ l. byte ∷ l) same
canon-execute false byte left text same = same

left-execute : (t : Bool) (byte : ℕ) → is_layout byte ≡ t → (left : List Call) (text : List ℕ) → stripped left ≡ text
    → stripped (if t then execute byte ∷ left else left) ≡ (if t then byte ∷ [] else []) ++ text
left-execute true byte e left text same = ap (λ b. (if b then byte ∷ [] else []) ++ stripped left) e ∙ ap (λ l. byte ∷ l) same
left-execute false byte e left text same = same

-- what is left of calls is the canonical text of those of which something is left
pub stripped-canon : (calls : List Call) → stripped calls ≡ canon (filter is_left calls)
stripped-canon [] = refl
stripped-canon (print character ∷ calls) = ap (λ t. encode_utf8 character ++ t) (stripped-canon calls)
stripped-canon (execute byte ∷ calls) = canon-execute (is_layout byte) byte (filter is_left calls) (stripped calls) (stripped-canon calls)
stripped-canon (hook groups intermediates ignore final ∷ calls) = stripped-canon calls
stripped-canon (put byte ∷ calls) = stripped-canon calls
stripped-canon (unhook ∷ calls) = stripped-canon calls
stripped-canon (osc_dispatch parts bell_terminated ∷ calls) = stripped-canon calls
stripped-canon (csi_dispatch groups intermediates ignore final ∷ calls) = stripped-canon calls
stripped-canon (esc_dispatch intermediates ignore final ∷ calls) = stripped-canon calls

-- of what is left, all is left
pub stripped-left : (calls : List Call) → stripped (filter is_left calls) ≡ stripped calls
stripped-left [] = refl
stripped-left (print character ∷ calls) = ap (λ t. encode_utf8 character ++ t) (stripped-left calls)
stripped-left (execute byte ∷ calls) = left-execute (is_layout byte) byte refl (filter is_left calls) (stripped calls) (stripped-left calls)
stripped-left (hook groups intermediates ignore final ∷ calls) = stripped-left calls
stripped-left (put byte ∷ calls) = stripped-left calls
stripped-left (unhook ∷ calls) = stripped-left calls
stripped-left (osc_dispatch parts bell_terminated ∷ calls) = stripped-left calls
stripped-left (csi_dispatch groups intermediates ignore final ∷ calls) = stripped-left calls
stripped-left (esc_dispatch intermediates ignore final ∷ calls) = stripped-left calls

lawful-execute : (t : Bool) (byte : ℕ) (left : List Call) → IsTrue (is_executed byte) → AreLawful left → AreLawful (if t then execute byte ∷ left else left)
lawful-execute true byte left is lawful = (is, lawful)
lawful-execute false byte left is lawful = lawful

-- what is left of a list that may follow, inside a hooked string too, is lawful
pub lawful-left : (hooked : Bool) (calls : List Call) → AreLawfulFrom hooked calls → AreLawful (filter is_left calls)
lawful-left hooked [] lawful = tt
lawful-left false (print character ∷ calls) lawful = (lawful.0, lawful-left false calls lawful.1)
lawful-left false (execute byte ∷ calls) lawful = lawful-execute (is_layout byte) byte (filter is_left calls) lawful.0 (lawful-left false calls lawful.1)
lawful-left false (hook groups intermediates ignore final ∷ calls) lawful = lawful-left true calls lawful.1
lawful-left false (osc_dispatch parts bell_terminated ∷ calls) lawful = lawful-left false calls lawful.1
lawful-left false (csi_dispatch groups intermediates ignore final ∷ calls) lawful = lawful-left false calls lawful.1
lawful-left false (esc_dispatch intermediates ignore final ∷ calls) lawful = lawful-left false calls lawful.1
lawful-left true (put byte ∷ calls) lawful = lawful-left true calls lawful.1
lawful-left true (unhook ∷ calls) lawful = lawful-left false calls lawful
lawful-left false (put byte ∷ calls) lawful = absurd lawful
lawful-left false (unhook ∷ calls) lawful = absurd lawful
lawful-left true (print character ∷ calls) lawful = absurd lawful
lawful-left true (execute byte ∷ calls) lawful = absurd lawful
lawful-left true (hook groups intermediates ignore final ∷ calls) lawful = absurd lawful
lawful-left true (osc_dispatch parts bell_terminated ∷ calls) lawful = absurd lawful
lawful-left true (csi_dispatch groups intermediates ignore final ∷ calls) lawful = absurd lawful
lawful-left true (esc_dispatch intermediates ignore final ∷ calls) lawful = absurd lawful

-- the text that is left of one call is no longer than its canonical text
length-stripped_call : (call : Call) → length (stripped_call call) ≤ length (call_text call)
length-stripped_call (print character) = omega arith
length-stripped_call (execute byte) = by_test (is_layout byte)
  where
    by_test : (t : Bool) → length (if t then byte ∷ [] else []) ≤ 1
    by_test true = omega arith
    by_test false = omega arith
length-stripped_call (hook groups intermediates ignore final) = omega arith
length-stripped_call (put byte) = omega arith
length-stripped_call unhook = omega arith
length-stripped_call (osc_dispatch parts bell_terminated) = omega arith
length-stripped_call (csi_dispatch groups intermediates ignore final) = omega arith
length-stripped_call (esc_dispatch intermediates ignore final) = omega arith

pub length-stripped : (calls : List Call) → length (stripped calls) ≤ length (canon calls)
length-stripped [] = omega arith
length-stripped (call ∷ calls) =
    omega (arith, length-stripped_call call, length-stripped calls, length-append (stripped_call call) (stripped calls), length-append (call_text call) (canon calls))

-- a text with layout is left as it is
pub stripped_call-layout : (byte : ℕ) → is_layout byte ≡ true → stripped_call (execute byte) ≡ byte ∷ []
stripped_call-layout byte is = ap (λ t. if t then byte ∷ [] else []) is

pub stripped-layout_calls : (text : List ℕ) → IsUtf8 text → stripped (layout_calls text) ≡ text
stripped-layout_calls text utf8 = flat_map-layout_calls stripped_call (λ _. refl) stripped_call-layout text utf8
