-- The calls of bytes are a list that a parser can make.
use Rattle.std.proofs.Common.{◌≡◌, ℕ, ⊎_elim, Bool, true, false, not, ◌||◌, cond, List, [], ◌∷◌, ◌++◌, length, take, map, refl, sym, ap, subst, ltb, ltb-true, arith, append_assoc, length-take}
use Rattle.std.specs.List.{AllByRecursion, filter, list_any}
use Rattle.std.proofs.lemmas.Bool.{and_parts, or_cases, or_left, or_right, cond_both}
use Rattle.std.proofs.lemmas.List.{nil_from_length}
use Rattle.anstyle_parse.specs.Stream.Bytes.{is_within, is_control, is_cancel, is_intermediate, is_final}
use Rattle.anstyle_parse.specs.Stream.Characters.{replacement}
use Rattle.anstyle_parse.specs.Stream.Arguments.{significant, has_shape, groups_of, collected_of, ignore_of, parts_of, max_collected}
use Rattle.anstyle_parse.specs.Stream.Call.{Call, print, execute, hook, put, osc_dispatch, csi_dispatch}
use Rattle.anstyle_parse.specs.Stream.Items.{Body, escape, csi, dcs_header, dcs, dcs_ignored, osc, sos_pm_apc, End, complete, cancelled, broken_off, unfinished, Item, single, character, broken, begun, sequence, items_text, is_introducer, EachIs, IsItem, IsBody, IsEnd, MayPrecede, AreJoined}
use Rattle.anstyle_parse.specs.Stream.Calls.{is_executed, is_printed, single_calls, is_put, executes, control_dispatch, body_calls, end_calls, item_calls, items_calls, AreCalls}
use Rattle.anstyle_parse.specs.Laws.Lawful.{is_character, IsEscapeCall, AreLawfulFrom, AreLawful}
use Rattle.anstyle_parse.proofs.Lists.Passing.{EachIs-filter}
use Rattle.anstyle_parse.proofs.Characters.Encoding.{within_parts}
use Rattle.anstyle_parse.proofs.Canonical.Bounds.{length-items_calls}
use Rattle.anstyle_parse.proofs.Lists.Parts.{AllByRecursion-take, length-take_le}
use Rattle.anstyle_parse.proofs.Characters.Scalars.{is_character-low, well_formed-AreOfCharacter}
use Rattle.anstyle_parse.proofs.Lawful.Headers.{IsHeaderCall-header}
use Rattle.anstyle_parse.proofs.Lawful.Parts.{AreParts-parts_of}

-- controls and cancels are executed
executed-first : (b : ℕ) → (is_control b || is_cancel b) ≡ true → is_executed b ≡ true
unfolding is_executed
executed-first b e = or_left _ _ (or_left _ _ (or_left _ _ e))

control-executed : (b : ℕ) → is_control b ≡ true → is_executed b ≡ true
control-executed b e = executed-first b (or_left (is_control b) (is_cancel b) e)

cancel-executed : (b : ℕ) → is_cancel b ≡ true → is_executed b ≡ true
cancel-executed b e = executed-first b (or_right (is_control b) (is_cancel b) e)

-- executes of controls may stand before what stands outside a hooked string
lawful-executes : (bytes : List ℕ) (calls : List Call) → EachIs is_control bytes → AreLawful calls → AreLawful (map execute bytes ++ calls)
lawful-executes [] calls h rest = rest
lawful-executes (b ∷ bytes) calls h rest = (control-executed b h.0, lawful-executes bytes calls h.1 rest)

-- and puts before what stands inside one
lawful-puts : (text : List ℕ) (calls : List Call) → EachIs is_put text → AreLawfulFrom true calls → AreLawfulFrom true (map put text ++ calls)
lawful-puts [] calls h rest = rest
lawful-puts (b ∷ text) calls h rest = (h.0, lawful-puts text calls h.1 rest)

-- the controls of a text and then calls
after : (bytes : List ℕ) (own calls : List Call) → AreLawful (own ++ calls) → AreLawful ((executes bytes ++ own) ++ calls)
after bytes own calls rest =
    subst AreLawful (sym (append_assoc (executes bytes) own calls))
    (lawful-executes (filter is_control bytes) (own ++ calls) (EachIs-filter is_control bytes) rest)

-- single bytes
lawful-single : (b : ℕ) (calls : List Call) → AreLawful calls → AreLawful (single_calls b ++ calls)
unfolding single_calls is_printed
lawful-single b calls rest =
    cond_both (is_within 0x20 0x7F b) (print b ∷ []) (cond (is_executed b) (execute b ∷ []) []) (λ l. AreLawful (l ++ calls))
    (λ e. let p = within_parts 0x20 0x7F b e in (is_character-low b p.0 (omega arith), rest))
    (λ e. cond_both (is_executed b) (execute b ∷ []) [] (λ l. AreLawful (l ++ calls)) (λ f. (f, rest)) (λ f. rest))

kept-step : (b : ℕ) (bytes : List ℕ) (t : Bool) → is_intermediate b ≡ t → (t || list_any is_intermediate bytes) ≡ true → take max_collected (cond t (b ∷ filter is_intermediate bytes) (filter is_intermediate bytes)) ≡ []
    → (list_any is_intermediate bytes ≡ true → take max_collected (filter is_intermediate bytes) ≡ [] → ⊥) → ⊥
kept-step b bytes true p any e rest = cc
kept-step b bytes false p any e rest = rest any e

-- where there is an intermediate, the first are not none
kept-some : (bytes : List ℕ) → list_any is_intermediate bytes ≡ true → take max_collected (filter is_intermediate bytes) ≡ [] → ⊥
kept-some [] any e = cc
kept-some (b ∷ bytes) any e = kept-step b bytes (is_intermediate b) refl any e (kept-some bytes)

-- an escape sequence whose intermediates are more than are shown
lawful-escape : (bytes : List ℕ) (final : ℕ) → IsEnd (escape bytes) (complete final)
    → IsEscapeCall (take max_collected (filter is_intermediate bytes)) (ltb max_collected (length (filter is_intermediate bytes))) final
lawful-escape bytes final ends =
    let kept = filter is_intermediate bytes in
    let parts = and_parts (is_within 0x30 0x7E final) (list_any is_intermediate bytes || not (is_introducer final)) ends in
    record {
      collected_fit = length-take_le max_collected kept;
      collected_are = AllByRecursion-take (λ b. is_intermediate b ≡ true) max_collected kept (EachIs-filter is_intermediate bytes);
      ignores = λ e. omega (arith, ltb-true max_collected (length kept) e, length-take max_collected kept);
      is_finished = parts.0;
      begins_nothing = λ e. ⊎_elim (λ any. absurd (kept-some bytes any e)) (λ n. n) (or_cases (list_any is_intermediate bytes) (not (is_introducer final)) parts.1);
    }

-- a control sequence, which has the shape or calls nothing
lawful-dispatch : (header : List ℕ) (final : ℕ) (calls : List Call) → is_final final ≡ true → AreLawful calls → AreLawful (control_dispatch header final ++ calls)
lawful-dispatch header final calls ends rest =
    cond_both (has_shape header) (csi_dispatch (groups_of header) (collected_of header) (ignore_of header) final ∷ []) [] (λ l. AreLawful (l ++ calls))
    (λ e. (IsHeaderCall-header header final e ends, rest)) (λ e. rest)

-- what an end calls after a hooked string, and elsewhere
lawful-hooked_end : (between header : List ℕ) (final : ℕ) (text : List ℕ) (end : End) (calls : List Call) → IsEnd (dcs between header final text) end → AreLawful calls → (end ≡ unfinished → calls ≡ [])
    → AreLawfulFrom true (end_calls (dcs between header final text) end ++ calls)
lawful-hooked_end between header final text (complete byte) calls ends rest last = rest
lawful-hooked_end between header final text (cancelled byte) calls ends rest last = (cancel-executed byte ends, rest)
lawful-hooked_end between header final text broken_off calls ends rest last = rest
lawful-hooked_end between header final text unfinished calls ends rest last = subst (AreLawfulFrom true) (sym (last refl)) tt

-- the controls of two texts and then calls
after_two : (between header : List ℕ) (own calls : List Call) → AreLawful (own ++ calls) → AreLawful (((executes between ++ executes header) ++ own) ++ calls)
after_two between header own calls rest =
    subst (λ l. AreLawful (l ++ calls)) (sym (append_assoc (executes between) (executes header) own))
    (after between (executes header ++ own) calls (after header own calls rest))

is_character-replacement : is_character replacement ≡ true
unfolding is_character is_within
is_character-replacement = refl

-- a body and its end, before calls that may follow
lawful-sequence : (body : Body) (end : End) (calls : List Call) → IsBody body → IsEnd body end → AreLawful calls → (end ≡ unfinished → calls ≡ [])
    → AreLawful ((body_calls body ++ end_calls body end) ++ calls)
lawful-sequence (escape bytes) (complete final) calls is ends rest last = after bytes (end_calls (escape bytes) (complete final)) calls (lawful-escape bytes final ends, rest)
lawful-sequence (csi between header) (complete final) calls is ends rest last =
    after_two between header (control_dispatch (significant header) final) calls (lawful-dispatch (significant header) final calls ends rest)
lawful-sequence (dcs_header between header) (complete byte) calls is ends rest last = after between [] calls rest
lawful-sequence (dcs_ignored between header x text) (complete byte) calls is ends rest last = after between [] calls rest
lawful-sequence (osc between text) (complete byte) calls is ends rest last = after between (osc_dispatch (parts_of text) true ∷ []) calls (AreParts-parts_of text, rest)
lawful-sequence (sos_pm_apc between kind text) (complete byte) calls is ends rest last = after between [] calls rest
lawful-sequence (escape bytes) (cancelled byte) calls is ends rest last = after bytes (execute byte ∷ []) calls (cancel-executed byte ends, rest)
lawful-sequence (csi between header) (cancelled byte) calls is ends rest last = after_two between header (execute byte ∷ []) calls (cancel-executed byte ends, rest)
lawful-sequence (dcs_header between header) (cancelled byte) calls is ends rest last = after between (execute byte ∷ []) calls (cancel-executed byte ends, rest)
lawful-sequence (dcs_ignored between header x text) (cancelled byte) calls is ends rest last = after between (execute byte ∷ []) calls (cancel-executed byte ends, rest)
lawful-sequence (osc between text) (cancelled byte) calls is ends rest last =
    after between (osc_dispatch (parts_of text) false ∷ execute byte ∷ []) calls (AreParts-parts_of text, (cancel-executed byte ends, rest))
lawful-sequence (sos_pm_apc between kind text) (cancelled byte) calls is ends rest last = after between (execute byte ∷ []) calls (cancel-executed byte ends, rest)
lawful-sequence (escape bytes) broken_off calls is ends rest last = after bytes [] calls rest
lawful-sequence (csi between header) broken_off calls is ends rest last = after_two between header [] calls rest
lawful-sequence (dcs_header between header) broken_off calls is ends rest last = after between [] calls rest
lawful-sequence (dcs_ignored between header x text) broken_off calls is ends rest last = after between [] calls rest
lawful-sequence (osc between text) broken_off calls is ends rest last = after between (osc_dispatch (parts_of text) false ∷ []) calls (AreParts-parts_of text, rest)
lawful-sequence (sos_pm_apc between kind text) broken_off calls is ends rest last = after between [] calls rest
lawful-sequence (escape bytes) unfinished calls is ends rest last = after bytes [] calls rest
lawful-sequence (csi between header) unfinished calls is ends rest last = after_two between header [] calls rest
lawful-sequence (dcs_header between header) unfinished calls is ends rest last = after between [] calls rest
lawful-sequence (dcs_ignored between header x text) unfinished calls is ends rest last = after between [] calls rest
lawful-sequence (osc between text) unfinished calls is ends rest last = after between [] calls rest
lawful-sequence (sos_pm_apc between kind text) unfinished calls is ends rest last = after between [] calls rest
lawful-sequence (dcs between header final text) end calls is ends rest last =
    let shown = significant header in
    let hook_call = hook (groups_of shown) (collected_of shown) (ignore_of shown) final in
    let puts = map put (filter is_put text) in
    let own = end_calls (dcs between header final text) end in
    subst (λ l. AreLawful (l ++ calls)) (sym (append_assoc (executes between) (hook_call ∷ puts) own))
    (after between (hook_call ∷ (puts ++ own)) calls (
      IsHeaderCall-header shown final is.begun.shaped is.hooked,
      subst (AreLawfulFrom true) (sym (append_assoc puts own calls))
          (lawful-puts (filter is_put text) (own ++ calls) (EachIs-filter is_put text) (lawful-hooked_end between header final text end calls ends rest last)),
    ))

-- an item, before calls that may follow
lawful-item : (item : Item) (calls : List Call) → IsItem item → AreLawful calls → ((body : Body) → item ≡ sequence body unfinished → calls ≡ []) → AreLawful (item_calls item ++ calls)
lawful-item (single byte) calls is rest last = lawful-single byte calls rest
lawful-item (character bytes) calls is rest last = ((well_formed-AreOfCharacter bytes is).0, rest)
lawful-item (broken front) calls is rest last = (is_character-replacement, rest)
lawful-item (begun front) calls is rest last = rest
lawful-item (sequence body end) calls is rest last = lawful-sequence body end calls is.0 is.1 rest (λ e. last body (ap (sequence body) e))

-- nothing is called after an item that is unfinished
none_after : (item : Item) (items : List Item) → AllByRecursion IsItem items → MayPrecede item (items_text items) → (body : Body) → item ≡ sequence body unfinished → items_calls items ≡ []
none_after item items each may body e =
    let empty : items_text items ≡ [] = subst (λ i. MayPrecede i (items_text items)) e may in
    let bound = length-items_calls items each in
    nil_from_length (items_calls items) (omega (arith, bound, ap length empty))

lawful-items : (items : List Item) → AllByRecursion IsItem items → AreJoined items → AreLawful (items_calls items)
lawful-items [] each joined = tt
lawful-items (item ∷ items) each joined =
    lawful-item item (items_calls items) each.0 (lawful-items items each.1 joined.1) (none_after item items each.1 joined.0)

-- the calls of bytes are lawful
pub lawful : (bytes : List ℕ) (calls : List Call) → AreCalls bytes calls → AreLawful calls
lawful bytes calls are = subst AreLawful (sym are.2) (lawful-items are.0 are.1.each are.1.joined)
