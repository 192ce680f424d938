-- The addresses in the text of a stream are found, whatever is held back; and in one way alone.
use Rattle.std.proofs.Common.{◌≡◌, ◌≤◌, ℕ, Bool, true, false, ◌&&◌, ◌||◌, List, [], ◌∷◌, ◌++◌, length, refl, sym, ap, ap₂, ◌∙◌, subst, append_assoc, append-nil, take-append-drop, length-append, arith, ◌⊎◌, inl, inr, ⊎_elim}
use Rattle.std.specs.Prelude.{not, nat_lt, if◌then◌else◌}
use Rattle.std.specs.List.{flat_map}
use Rattle.std.proofs.lemmas.Bool.{and_parts, not-true, lt-ltb, ltb-true, ltb-false, false≢true}
use Rattle.std.proofs.lemmas.List.{map-append}
use Rattle.anstyle_parse.specs.Stream.Call.{Call, print, execute, hook, put, unhook, osc_dispatch, csi_dispatch, esc_dispatch}
use Rattle.anstyle_parse.specs.Stream.Items.{EachIs}
use Rattle.anstyle_parse.proofs.Bytes.Passing.{EachIs-append}
use Rattle.html_urls.specs.Addresses.{is_of_word, is_of_address, begins_scheme, says_scheme, max_held, goes_on, address_of, address_length, behind_address, is_address, target_of, fits, may_begin, joins_after, IsOffAddress}
use Rattle.html_urls.specs.Linked.{Standing, standing, prints, released, released_as, begins, handed_from, left_from, linked_after, linked}
use Rattle.html_urls.specs.Found.{printed, Part, as_is, in_run, joins_call, AreFound, AreParts, with_link}
use Rattle.html_urls.proofs.LinkerLemmas.{released-none}
use Rattle.html_urls.proofs.LawfulLemmas.{each-begins, goes_on-uri}
use Rattle.html_urls.proofs.CaseLemmas.{or-right}
use Rattle.html_urls.proofs.FrontLemmas.{says-more, says-cut, no-begin, no-begin-end, begins-short, clear, clear-parts, clear-within}

-- some parts, and what is made of them
record Found (joins is_linked : Bool) (calls made : List Call) : Type 0 where
  parts : List Part
  are : AreFound joins is_linked calls parts
  same : made ≡ flat_map with_link parts

found-none : (joins is_linked : Bool) → Found joins is_linked [] []
found-none joins is_linked = record { parts = []; are = refl; same = refl }

-- one call more
found-call : (joins is_linked : Bool) (call : Call) (rest made : List Call) → (is_linked ≡ true) ⊎ (may_begin joins (printed (call ∷ rest)) ≡ false)
    → Found (joins_call call) (linked_after call is_linked) rest made → Found joins is_linked (call ∷ rest) (call ∷ made)
found-call joins is_linked call rest made none found = record {
  parts = as_is call ∷ found.parts;
  are = (rest, refl, none, found.are);
  same = ap (λ (l : List Call). call ∷ l) found.same;
}

printed-prints : (text : List ℕ) (rest : List Call) → printed (prints text ++ rest) ≡ text ++ printed rest
printed-prints [] rest = refl
printed-prints (c ∷ text) rest = ap (λ (l : List ℕ). c ∷ l) (printed-prints text rest)

-- a run more
found-run : (run : List ℕ) (rest made : List Call) → says_scheme run ≡ true → EachIs is_of_address run → length run ≤ max_held
    → (length run ≡ max_held) ⊎ IsOffAddress (printed rest) → Found (joins_after false run) false rest made
    → Found false false (prints run ++ rest) (released run ++ made)
found-run run rest made has each most ends found = record {
  parts = in_run run ∷ found.parts;
  are = (
    rest,
    refl,
    refl,
    ap says_scheme (printed-prints run rest) ∙ says-more run (printed rest) has,
    record { behind = printed rest; joined = printed-prints run rest; each = each; most = most; ends = ends },
    found.are,
  );
  same = ap (λ (l : List Call). released run ++ l) found.same;
}

-- characters with which no scheme begins
found-clear : (cs : List ℕ) (joins : Bool) (rest made : List Call) → clear joins cs ≡ true → Found (joins_after joins cs) false rest made
    → Found joins false (prints cs ++ rest) (prints cs ++ made)
found-clear [] joins rest made is found = found
found-clear (c ∷ cs) joins rest made is found =
    let parts = clear-parts joins c cs is in
    found-call joins false (print c) (prints cs ++ rest) (prints cs ++ made) (inr (no-begin joins c (printed (prints cs ++ rest)) parts.0))
    (found-clear cs (is_of_word c) rest made parts.1 found)

-- the beginning of a scheme that does not go on
found-begun : (held : List ℕ) (rest made : List Call) → begins_scheme held ≡ true → says_scheme (held ++ printed rest) ≡ false
    → Found (joins_after false held) false rest made → Found false false (prints held ++ rest) (prints held ++ made)
found-begun [] rest made begun none found = found
found-begun (h ∷ cs) rest made begun none found =
    found-call false false (print h) (prints cs ++ rest) (prints cs ++ made) (inr (ap says_scheme (printed-prints (h ∷ cs) rest) ∙ none))
    (found-clear cs (is_of_word h) rest made (clear-within h cs begun) found)

-- What is held: nothing, or what begins a scheme or has one, at a place where an address may begin.
record IsHeld (joins : Bool) (held : List ℕ) : Type 0 where
  each : EachIs is_of_address held
  most : length held ≤ max_held
  begun : (held ≡ []) ⊎ ((joins ≡ false) × ((says_scheme held || begins_scheme held) ≡ true))

none-held : (joins : Bool) → IsHeld joins []
none-held joins = record { each = tt; most = omega arith; begun = inl refl }

-- it does not go on with the text that comes
Stops : (held text : List ℕ) → Type 0
Stops held [] = Unit {0}
Stops held (c ∷ text) = goes_on held c ≡ false

-- what has no scheme is no address
released-text : (text : List ℕ) → says_scheme text ≡ false → released text ≡ prints text
unfolding is_address
released-text text none =
    let address = address_of text in
    let no : says_scheme address ≡ false = by (says_scheme address) refl in
    ap (λ (t : Bool). released_as (nat_lt (length text) max_held && ((t && not (begins_scheme address)) && fits (target_of address))) address (behind_address text) text) no
    ∙ ap (λ (t : Bool). released_as t address (behind_address text) text) (never (nat_lt (length text) max_held))
  where
    by : (t : Bool) → says_scheme (address_of text) ≡ t → t ≡ false
    by false is = refl
    by true is =
        absurd (false≢true (sym none
        ∙ (ap says_scheme (sym (take-append-drop (address_length (length text) text) text)) ∙ says-more (address_of text) (behind_address text) is)))

    never : (t : Bool) → (t && false) ≡ false
    never true = refl
    never false = refl

-- with a scheme it is a run, and without one no scheme comes of it
module _ (h : ℕ) (t : List ℕ) where
  run-ends : (text : List ℕ) → Stops (h ∷ t) text → says_scheme (h ∷ t) ≡ true → length (h ∷ t) ≤ max_held → (length (h ∷ t) ≡ max_held) ⊎ IsOffAddress text
  unfolding Stops
  run-ends [] stops has most = inr tt
  run-ends (c ∷ text) stops has most = by (nat_lt (length (h ∷ t)) max_held) refl
    where
      by : (b : Bool) → nat_lt (length (h ∷ t)) max_held ≡ b → (length (h ∷ t) ≡ max_held) ⊎ (is_of_address c ≡ false)
      by false full = let least = ltb-false (length (h ∷ t)) max_held full in inl (omega (arith, least, most))
      by true room =
          inr (sym (ap₂ (λ (x y : Bool). x && (if y then is_of_address c else begins_scheme ((h ∷ t) ++ c ∷ []))) room has) ∙ stops)

  begun-ends : (text : List ℕ) → Stops (h ∷ t) text → begins_scheme (h ∷ t) ≡ true → says_scheme (h ∷ t) ≡ false → says_scheme ((h ∷ t) ++ text) ≡ false
  unfolding Stops
  begun-ends [] stops begun none = ap says_scheme (append-nil (h ∷ t)) ∙ none
  begun-ends (c ∷ text) stops begun none = by (says_scheme ((h ∷ t) ++ (c ∷ text))) refl
    where
      by : (b : Bool) → says_scheme ((h ∷ t) ++ (c ∷ text)) ≡ b → b ≡ false
      by false is = refl
      by true is =
          let short = begins-short (h ∷ t) begun in
          let room = lt-ltb (length (h ∷ t)) max_held (omega (arith, short)) in
          ⊎_elim (λ (has : says_scheme (h ∷ t) ≡ true). absurd (false≢true (sym none ∙ has)))
          (λ (begin : begins_scheme ((h ∷ t) ++ c ∷ []) ≡ true). absurd (false≢true (sym stops
          ∙ (ap₂ (λ (x y : Bool). x && (if y then is_of_address c else begins_scheme ((h ∷ t) ++ c ∷ []))) room none ∙ begin))))
          (says-cut (h ∷ t) c text is)

-- so what is held is found as it is handed on
found-held : (joins : Bool) (held : List ℕ) (rest made : List Call) → IsHeld joins held → Stops held (printed rest) → Found (joins_after joins held) false rest made
    → Found joins false (prints held ++ rest) (released held ++ made)
found-held joins [] rest made is stops found = subst (λ (l : List Call). Found joins false rest (l ++ made)) (sym released-none) found
found-held joins (h ∷ t) rest made is stops found = by is.begun
  where
    start : (says_scheme (h ∷ t) || begins_scheme (h ∷ t)) ≡ true → (b : Bool) → says_scheme (h ∷ t) ≡ b → Found (joins_after false (h ∷ t)) false rest made
        → Found false false (prints (h ∷ t) ++ rest) (released (h ∷ t) ++ made)
    start begun true has here = found-run (h ∷ t) rest made has is.each is.most (run-ends h t (printed rest) stops has is.most) here
    start begun false none here =
        let begins : begins_scheme (h ∷ t) ≡ true = sym (ap (λ (b : Bool). b || begins_scheme (h ∷ t)) none) ∙ begun in
        subst (λ (l : List Call). Found false false (prints (h ∷ t) ++ rest) (l ++ made)) (sym (released-text (h ∷ t) none))
        (found-begun (h ∷ t) rest made begins (begun-ends h t (printed rest) stops begins none) here)

    at : joins ≡ false → (says_scheme (h ∷ t) || begins_scheme (h ∷ t)) ≡ true → Found joins false (prints (h ∷ t) ++ rest) (released (h ∷ t) ++ made)
    at free begun =
        subst (λ (j : Bool). Found j false (prints (h ∷ t) ++ rest) (released (h ∷ t) ++ made)) (sym free)
        (start begun (says_scheme (h ∷ t)) refl (subst (λ (j : Bool). Found (joins_after j (h ∷ t)) false rest made) free found))

    by : ((h ∷ t) ≡ []) ⊎ ((joins ≡ false) × ((says_scheme (h ∷ t) || begins_scheme (h ∷ t)) ≡ true)) → Found joins false (prints (h ∷ t) ++ rest) (released (h ∷ t) ++ made)
    by (inl none) = absurd (cc none)
    by (inr begun) = at begun.0 begun.1

-- all that is handed on from there
abbrev all_from : Standing → List Call → List Call
all_from at calls = handed_from at calls ++ left_from at calls

abbrev FoundLinked : List Call → Type 0
FoundLinked calls = (joins within : Bool) → Found joins true calls (all_from (standing [] within true) calls)

abbrev FoundText : List Call → Type 0
FoundText calls = (joins within : Bool) (held : List ℕ) → IsHeld joins held → within ≡ joins_after joins held
    → Found joins false (prints held ++ calls) (all_from (standing held within false) calls)

abbrev FoundAll : List Call → Type 0
FoundAll calls = FoundLinked calls × FoundText calls

parted : (one two more end : List Call) → ((one ++ two) ++ more) ++ end ≡ one ++ (two ++ (more ++ end))
parted one two more end = append_assoc (one ++ two) more end ∙ append_assoc one two (more ++ end)

-- any call but a print ends what is held
module _ (call : Call) (calls : List Call) (plain : joins_call call ≡ false) (other : printed (call ∷ calls) ≡ []) (found : FoundAll calls) where
  next : (is_linked : Bool) → Found (joins_call call) is_linked calls (all_from (standing [] false is_linked) calls)
  next true = found.0 (joins_call call) false
  next false = found.1 (joins_call call) false [] (none-held (joins_call call)) (sym plain)

  abbrev made : (is_linked : Bool) → (held : List ℕ) → List Call
  made is_linked held =
      let after = standing [] false (linked_after call is_linked) in
      ((released held ++ call ∷ []) ++ handed_from after calls) ++ left_from after calls

  other-linked : (joins : Bool) → Found joins true (call ∷ calls) (made true [])
  other-linked joins =
      let after = standing [] false (linked_after call true) in
      subst (λ (l : List Call). Found joins true (call ∷ calls) (((l ++ call ∷ []) ++ handed_from after calls) ++ left_from after calls)) (sym released-none)
      (found-call joins true call calls (all_from after calls) (inl refl) (next (linked_after call true)))

  other-text : (joins : Bool) (held : List ℕ) → IsHeld joins held → Found joins false (prints held ++ call ∷ calls) (made false held)
  unfolding Stops
  other-text joins held is =
      let after = standing [] false (linked_after call false) in
      let here = joins_after joins held in
      subst (λ (l : List Call). Found joins false (prints held ++ call ∷ calls) l) (sym (parted (released held) (call ∷ []) (handed_from after calls) (left_from after calls)))
      (found-held joins held (call ∷ calls) (call ∷ all_from after calls) is (subst (Stops held) (sym other) tt)
      (found-call here false call calls (all_from after calls) (inr (ap (may_begin here) other ∙ no-begin-end here)) (next (linked_after call false))))

-- a character
joins-append : (joins : Bool) (text : List ℕ) (c : ℕ) → joins_after joins (text ++ c ∷ []) ≡ is_of_word c
joins-append joins [] c = refl
joins-append joins (b ∷ text) c = joins-append (is_of_word b) text c

turned : (s t : Bool) → (not s && t) ≡ false → (s || not t) ≡ true
turned true t is = refl
turned false true is = absurd (false≢true (sym is))
turned false false is = refl

-- what goes on is held
held-more : (joins : Bool) (held : List ℕ) (c : ℕ) → IsHeld joins held → goes_on held c ≡ true → IsHeld joins (held ++ c ∷ [])
held-more joins [] c is on = absurd (false≢true on)
held-more joins (h ∷ t) c is on =
    let parts = and_parts (nat_lt (length (h ∷ t)) max_held) (if says_scheme (h ∷ t) then is_of_address c else begins_scheme ((h ∷ t) ++ c ∷ [])) on in
    let room = ltb-true (length (h ∷ t)) max_held parts.0 in
    record {
      each = EachIs-append is_of_address (h ∷ t) (c ∷ []) is.each (goes_on-uri (h ∷ t) c on, tt);
      most = omega (arith, room, length-append (h ∷ t) (c ∷ []));
      begun = inr (free is.begun, by (says_scheme (h ∷ t)) refl parts.1);
    }
  where
    free : ((h ∷ t) ≡ []) ⊎ ((joins ≡ false) × ((says_scheme (h ∷ t) || begins_scheme (h ∷ t)) ≡ true)) → joins ≡ false
    free (inl none) = absurd (cc none)
    free (inr begun) = begun.0

    by : (b : Bool) → says_scheme (h ∷ t) ≡ b → (if b then is_of_address c else begins_scheme ((h ∷ t) ++ c ∷ [])) ≡ true
        → (says_scheme ((h ∷ t) ++ c ∷ []) || begins_scheme ((h ∷ t) ++ c ∷ [])) ≡ true
    by true has uri = ap (λ (b : Bool). b || begins_scheme ((h ∷ t) ++ c ∷ [])) (says-more (h ∷ t) (c ∷ []) has)
    by false none begin = or-right (says_scheme ((h ∷ t) ++ c ∷ [])) (begins_scheme ((h ∷ t) ++ c ∷ [])) begin

held-first : (joins : Bool) (c : ℕ) → joins ≡ false → begins_scheme (c ∷ []) ≡ true → IsHeld joins (c ∷ [])
held-first joins c free begin = record {
  each = each-begins (c ∷ []) begin;
  most = omega arith;
  begun = inr (free, or-right (says_scheme (c ∷ [])) (begins_scheme (c ∷ [])) begin);
}

print-text : (c : ℕ) (calls : List Call) → FoundAll calls → FoundText (print c ∷ calls)
unfolding Stops
print-text c calls found joins within held is same = by (goes_on held c) (begins (standing held within false) c) refl refl
  where
    by : (on starts : Bool) → goes_on held c ≡ on → begins (standing held within false) c ≡ starts
        → Found joins false (prints held ++ print c ∷ calls)
        (((if on then [] else released held ++ (if starts then [] else print c ∷ []))
        ++ handed_from (standing (if on then held ++ c ∷ [] else if starts then c ∷ [] else []) (is_of_word c) false) calls)
        ++ left_from (standing (if on then held ++ c ∷ [] else if starts then c ∷ [] else []) (is_of_word c) false) calls)
    by true starts on start =
        let after = standing (held ++ c ∷ []) (is_of_word c) false in
        subst (λ (l : List Call). Found joins false l (all_from after calls))
        (ap (λ (l : List Call). l ++ calls) (map-append print held (c ∷ [])) ∙ append_assoc (prints held) (print c ∷ []) calls)
        (found.1 joins (is_of_word c) (held ++ c ∷ []) (held-more joins held c is on) (sym (joins-append joins held c)))
    by false true off start =
        let after = standing (c ∷ []) (is_of_word c) false in
        let parts = and_parts (not within) (begins_scheme (c ∷ [])) start in
        let free : joins_after joins held ≡ false = sym same ∙ not-true within parts.0 in
        subst (λ (l : List Call). Found joins false (prints held ++ print c ∷ calls) l) (sym (parted (released held) [] (handed_from after calls) (left_from after calls)))
        (found-held joins held (print c ∷ calls) (all_from after calls) is off
        (found.1 (joins_after joins held) (is_of_word c) (c ∷ []) (held-first (joins_after joins held) c free parts.1) refl))
    by false false off start =
        let after = standing [] (is_of_word c) false in
        let none = turned (joins_after joins held) (begins_scheme (c ∷ [])) (ap (λ (w : Bool). not w && begins_scheme (c ∷ [])) (sym same) ∙ start) in
        subst (λ (l : List Call). Found joins false (prints held ++ print c ∷ calls) l) (sym (parted (released held) (print c ∷ []) (handed_from after calls) (left_from after calls)))
        (found-held joins held (print c ∷ calls) (print c ∷ all_from after calls) is off
        (found-call (joins_after joins held) false (print c) calls (all_from after calls) (inr (no-begin (joins_after joins held) c (printed calls) none))
        (found.1 (is_of_word c) (is_of_word c) [] (none-held (is_of_word c)) refl)))

print-linked : (c : ℕ) (calls : List Call) → FoundAll calls → FoundLinked (print c ∷ calls)
print-linked c calls found joins within =
    found-call joins true (print c) calls (all_from (standing [] within true) calls) (inl refl) (found.0 (is_of_word c) within)

end-linked : FoundLinked []
end-linked joins within = subst (λ (l : List Call). Found joins true [] l) (sym released-none) (found-none joins true)

end-text : FoundText []
unfolding Stops
end-text joins within held is same =
    subst (λ (l : List Call). Found joins false (prints held ++ []) l) (append-nil (released held))
    (found-held joins held [] [] is tt (found-none (joins_after joins held) false))

-- call by call
module _ (call : Call) (calls : List Call) where
  other-all : joins_call call ≡ false → printed (call ∷ calls) ≡ [] → FoundAll calls
      → ((joins within : Bool) → Found joins true (call ∷ calls)
      (((released [] ++ call ∷ []) ++ handed_from (standing [] false (linked_after call true)) calls) ++ left_from (standing [] false (linked_after call true)) calls))
      × ((joins within : Bool) (held : List ℕ) → IsHeld joins held → within ≡ joins_after joins held
      → Found joins false (prints held ++ call ∷ calls)
      (((released held ++ call ∷ []) ++ handed_from (standing [] false (linked_after call false)) calls) ++ left_from (standing [] false (linked_after call false)) calls))
  other-all plain other found =
      (λ joins within. other-linked call calls plain other found joins, λ joins within held is same. other-text call calls plain other found joins held is)

found-all : (calls : List Call) → FoundAll calls
found-all [] = (end-linked, end-text)
found-all (print c ∷ calls) = let found = found-all calls in (print-linked c calls found, print-text c calls found)
found-all (execute b ∷ calls) = other-all (execute b) calls refl refl (found-all calls)
found-all (hook groups intermediates ignore final ∷ calls) = other-all (hook groups intermediates ignore final) calls refl refl (found-all calls)
found-all (put b ∷ calls) = other-all (put b) calls refl refl (found-all calls)
found-all (unhook ∷ calls) = other-all unhook calls refl refl (found-all calls)
found-all (osc_dispatch parts bell ∷ calls) = other-all (osc_dispatch parts bell) calls refl refl (found-all calls)
found-all (csi_dispatch groups intermediates ignore final ∷ calls) = other-all (csi_dispatch groups intermediates ignore final) calls refl refl (found-all calls)
found-all (esc_dispatch intermediates ignore final ∷ calls) = other-all (esc_dispatch intermediates ignore final) calls refl refl (found-all calls)

pub found-linked : (calls : List Call) → (parts : List Part) × AreParts calls parts × (linked calls ≡ flat_map with_link parts)
found-linked calls =
    let found = (found-all calls).1 false false [] (none-held false) refl in
    (found.parts, found.are, found.same)
