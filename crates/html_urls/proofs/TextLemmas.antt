-- Links change no text, and each leads to the address that is its text.
use Rattle.std.proofs.Common.{◌≡◌, ℕ, Bool, true, false, List, [], ◌∷◌, ◌++◌, length, refl, sym, ap, ap₂, ◌∙◌, append_assoc, append-nil, take-append-drop}
use Rattle.std.specs.Prelude.{if◌then◌else◌, encode_utf8}
use Rattle.std.proofs.lemmas.Bool.{false≢true}
use Rattle.std.proofs.lemmas.List.{map-append}
use Rattle.std.proofs.lemmas.Grind.{flat_map-append}
use Rattle.anstyle_parse.specs.Stream.Call.{Call, print, execute, hook, put, unhook, osc_dispatch, csi_dispatch, esc_dispatch}
use Rattle.ansi_strip.specs.Strip.{stripped_call, stripped}
use Rattle.html_urls.specs.Addresses.{is_of_word, goes_on, address_of, behind_address, address_length, is_link}
use Rattle.html_urls.specs.Linked.{Standing, standing, at_start, link_command, prints, released_as, released, begins, handed, standing_after, handed_from, left_from, linked}

stripped-append : (calls more : List Call) → stripped (calls ++ more) ≡ stripped calls ++ stripped more
stripped-append calls more = flat_map-append stripped_call calls more

pub printed-append : (text more : List ℕ) → stripped (prints (text ++ more)) ≡ stripped (prints text) ++ stripped (prints more)
printed-append text more = ap stripped (map-append print text more) ∙ stripped-append (prints text) (prints more)

-- what was held is the same text, as a link or not
released-text : (text : List ℕ) → stripped (released text) ≡ stripped (prints text)
released-text text = by (is_link text)
  where
    by : (t : Bool) → stripped (released_as t (address_of text) (behind_address text) text) ≡ stripped (prints text)
    by true =
        stripped-append (prints (address_of text)) (link_command [] ∷ prints (behind_address text))
        ∙ sym (printed-append (address_of text) (behind_address text))
        ∙ ap (λ l. stripped (prints l)) (take-append-drop (address_length (length text) text) text)
    by false = refl

-- A link of the stream's own is open only where nothing is held.
abbrev HoldsNoLink : Standing → Type 0
HoldsNoLink at = at.is_linked ≡ true → at.held ≡ []

after-print : (at : Standing) (c : ℕ) → HoldsNoLink at → HoldsNoLink (standing_after at (print c))
after-print at c holds = by at.is_linked refl
  where
    by : (t : Bool) → at.is_linked ≡ t → HoldsNoLink (standing_after at (print c))
    by true is = rw is (λ _. holds is)
    by false is = rw is (λ never. absurd (false≢true never))

holds-after : (at : Standing) (call : Call) → HoldsNoLink at → HoldsNoLink (standing_after at call)
holds-after at (print c) holds = after-print at c holds
holds-after at (execute b) holds = λ _. refl
holds-after at (hook groups intermediates ignore final) holds = λ _. refl
holds-after at (put b) holds = λ _. refl
holds-after at unhook holds = λ _. refl
holds-after at (osc_dispatch parts bell) holds = λ _. refl
holds-after at (csi_dispatch groups intermediates ignore final) holds = λ _. refl
holds-after at (esc_dispatch intermediates ignore final) holds = λ _. refl

-- what a call hands on, and what is then held, is the text that was held, and the call's
Step : Standing → Call → Type 0
Step at call = stripped (handed at call) ++ stripped (prints (standing_after at call).held) ≡ stripped (prints at.held) ++ stripped_call call

step-other : (at : Standing) (call : Call) → stripped (released at.held ++ call ∷ []) ++ [] ≡ stripped (prints at.held) ++ stripped_call call
step-other at call =
    append-nil (stripped (released at.held ++ call ∷ []))
    ∙ stripped-append (released at.held) (call ∷ [])
    ∙ ap₂ (λ (l m : List ℕ). l ++ m) (released-text at.held) (append-nil (stripped_call call))

step-print : (at : Standing) (c : ℕ) → HoldsNoLink at → Step at (print c)
unfolding Step
step-print at c holds = by at.is_linked refl (goes_on at.held c) (begins at c)
  where
    by : (l : Bool) → at.is_linked ≡ l → (on starts : Bool)
        → stripped (if l then print c ∷ [] else if on then [] else released at.held ++ (if starts then [] else print c ∷ []))
        ++ stripped (prints (if l then at else standing (if on then at.held ++ c ∷ [] else if starts then c ∷ [] else []) (is_of_word c) false).held)
        ≡ stripped (prints at.held) ++ encode_utf8 c
    by true is on starts =
        let none = ap (λ l. stripped (prints l)) (holds is) in
        ap₂ (λ (l m : List ℕ). l ++ m) (append-nil (encode_utf8 c)) none ∙ append-nil (encode_utf8 c) ∙ sym (ap (λ l. l ++ encode_utf8 c) none)
    by false is true starts = printed-append at.held (c ∷ []) ∙ ap (λ l. stripped (prints at.held) ++ l) (append-nil (encode_utf8 c))
    by false is false true =
        ap₂ (λ (l m : List ℕ). l ++ m) (ap stripped (append-nil (released at.held)) ∙ released-text at.held) (append-nil (encode_utf8 c))
    by false is false false = step-other at (print c)

step : (at : Standing) (call : Call) → HoldsNoLink at → Step at call
unfolding Step
step at (print c) holds = step-print at c holds
step at (execute b) holds = step-other at (execute b)
step at (hook groups intermediates ignore final) holds = step-other at (hook groups intermediates ignore final)
step at (put b) holds = step-other at (put b)
step at unhook holds = step-other at unhook
step at (osc_dispatch parts bell) holds = step-other at (osc_dispatch parts bell)
step at (csi_dispatch groups intermediates ignore final) holds = step-other at (csi_dispatch groups intermediates ignore final)
step at (esc_dispatch intermediates ignore final) holds = step-other at (esc_dispatch intermediates ignore final)

-- of all calls
text-from : (calls : List Call) (at : Standing) → HoldsNoLink at
    → stripped (handed_from at calls ++ left_from at calls) ≡ stripped (prints at.held) ++ stripped calls
unfolding Step
text-from [] at holds = released-text at.held ∙ sym (append-nil (stripped (prints at.held)))
text-from (call ∷ calls) at holds =
    let next = standing_after at call in
    let here = handed at call in
    let more = handed_from next calls ++ left_from next calls in
    let text : List ℕ = stripped (prints next.held) in
    ap stripped (append_assoc here (handed_from next calls) (left_from next calls))
    ∙ stripped-append here more
    ∙ ap (λ l. stripped here ++ l) (text-from calls next (holds-after at call holds))
    ∙ sym (append_assoc (stripped here) text (stripped calls))
    ∙ ap (λ l. l ++ stripped calls) (step at call holds)
    ∙ append_assoc (stripped (prints at.held)) (stripped_call call) (stripped calls)

pub linked-text : (calls : List Call) → stripped (linked calls) ≡ stripped calls
linked-text calls = text-from calls at_start (λ _. refl)
