-- The calls in which addresses are links are a list of calls that a parser can make.
use Rattle.std.proofs.Common.{◌≡◌, ℕ, Bool, true, false, ◌&&◌, List, [], ◌∷◌, ◌++◌, codes, length, refl, sym, ap, ◌∙◌, subst, append_assoc, append-nil, take-append-drop}
use Rattle.std.specs.Prelude.{nat_lt, not, if◌then◌else◌}
use Rattle.std.proofs.lemmas.Bool.{and_parts, false≢true}
use Rattle.anstyle_parse.specs.Stream.Call.{Call, print, execute, hook, put, unhook, osc_dispatch, csi_dispatch, esc_dispatch}
use Rattle.anstyle_parse.specs.Stream.Items.{EachIs}
use Rattle.anstyle_parse.specs.Stream.Calls.{AreCalls}
use Rattle.anstyle_parse.specs.Laws.Lawful.{is_character, AreLawfulFrom, AreLawful, AreMade}
use Rattle.anstyle_parse.proofs.Bytes.Passing.{EachIs-append, EachIs-parts, EachIs-weaker}
use Rattle.anstyle_parse.proofs.Lawful.Calls.{lawful}
use Rattle.anstyle_parse.proofs.Canonical.Bytes.{lawful_exactly}
use Rattle.html_urls.specs.Addresses.{is_of_uri, is_beyond_uri, is_of_address, is_of_word, in_small, says_scheme, begins_scheme, max_held, goes_on, address_of, address_length, behind_address, is_address, target_of, fits, is_link}
use Rattle.html_urls.specs.Linked.{Standing, standing, at_start, link_command, prints, released, released_as, begins, handed, handed_character, held_character, standing_after, handed_from, left_from, linked}
use Rattle.html_urls.proofs.CaseLemmas.{or-left, address-character, uri-small, each-small}
use Rattle.html_urls.proofs.SchemeLemmas.{begins-each}
use Rattle.html_urls.proofs.TargetLemmas.{all-each, target-visible, link-parts, fits-none}
use Rattle.html_urls.proofs.ColonLemmas.{released-clear}

-- What is printed may stand before any calls outside of a hooked string, and so may what is released.
prints-lawful : (text : List ℕ) (calls : List Call) → EachIs is_of_address text → AreLawful calls → AreLawful (prints text ++ calls)
prints-lawful [] calls each more = more
prints-lawful (b ∷ text) calls each more = (address-character b each.0, prints-lawful text calls each.1 more)

link-lawful : (text : List ℕ) (calls : List Call) → EachIs is_of_address text → is_link text ≡ true → AreLawful calls
    → AreLawful (released_as true (address_of text) (behind_address text) text ++ calls)
link-lawful text calls each is more =
    let address = address_of text in
    let behind = behind_address text in
    let parts = and_parts (nat_lt (length text) max_held) (is_address address && fits (target_of address)) is in
    let room = and_parts (is_address address) (fits (target_of address)) parts.1 in
    let both = EachIs-parts is_of_address address behind (subst (EachIs is_of_address) (sym (take-append-drop (address_length (length text) text) text)) each) in (
      link-parts (target_of address) (target-visible address both.0) room.1,
      subst AreLawful (sym (append_assoc (prints address) (link_command [] ∷ prints behind) calls))
          (prints-lawful address (link_command [] ∷ (prints behind ++ calls)) both.0 (link-parts [] tt fits-none, prints-lawful behind calls both.1 more)),
    )

released-lawful : (text : List ℕ) (calls : List Call) → EachIs is_of_address text → AreLawful calls → AreLawful (released text ++ calls)
released-lawful text calls each more = by (is_link text) refl
  where
    by : (t : Bool) → is_link text ≡ t → AreLawful (released_as t (address_of text) (behind_address text) text ++ calls)
    by true is = link-lawful text calls each is more
    by false is = prints-lawful text calls each more

-- What is held are characters of an address.
pub each-begins : (text : List ℕ) → begins_scheme text ≡ true → EachIs is_of_address text
each-begins text is =
    EachIs-weaker is_of_uri is_of_address (λ c uri. or-left (is_of_uri c) (is_beyond_uri c) uri) text
    (each-small is_of_uri uri-small text
    (begins-each is_of_uri (all-each is_of_uri (codes "https://") refl) (all-each is_of_uri (codes "http://") refl) (all-each is_of_uri (codes "mailto:") refl)
    (in_small text) is))

pub goes_on-uri : (text : List ℕ) (c : ℕ) → goes_on text c ≡ true → is_of_address c ≡ true
goes_on-uri [] c is = absurd (false≢true is)
goes_on-uri (first ∷ text) c is =
    by (says_scheme (first ∷ text)) (and_parts (nat_lt (length (first ∷ text)) max_held) (if says_scheme (first ∷ text) then is_of_address c else begins_scheme ((first ∷ text) ++ c ∷ [])) is).1
  where
    by : (t : Bool) → (if t then is_of_address c else begins_scheme ((first ∷ text) ++ c ∷ [])) ≡ true → is_of_address c ≡ true
    by true uri = uri
    by false scheme = (EachIs-parts is_of_address (first ∷ text) (c ∷ []) (each-begins ((first ∷ text) ++ c ∷ []) scheme)).1.0

-- A character that is printed, where no link is open: what is handed on by it may stand before any calls, and what is
-- then held are characters of an address.
module _ (at : Standing) (c : ℕ) (each : EachIs is_of_address at.held) where
  held-uri : EachIs is_of_address (held_character at c)
  held-uri = by (goes_on at.held c) (begins at c) refl refl
    where
      by : (on starts : Bool) → goes_on at.held c ≡ on → begins at c ≡ starts → EachIs is_of_address (if on then at.held ++ c ∷ [] else if starts then c ∷ [] else [])
      by true starts on start = EachIs-append is_of_address at.held (c ∷ []) each (goes_on-uri at.held c on, tt)
      by false true on start = each-begins (c ∷ []) (and_parts (not at.is_within) (begins_scheme (c ∷ [])) start).1
      by false false on start = tt

  character-lawful : (calls : List Call) → is_character c ≡ true → AreLawful calls → AreLawful (handed_character at c ++ calls)
  character-lawful calls printed more = by (goes_on at.held c) (begins at c)
    where
      by : (on starts : Bool) → AreLawful ((if on then [] else released at.held ++ (if starts then [] else print c ∷ [])) ++ calls)
      by true starts = more
      by false true = subst AreLawful (sym (append_assoc (released at.held) [] calls)) (released-lawful at.held calls each more)
      by false false = subst AreLawful (sym (append_assoc (released at.held) (print c ∷ []) calls)) (released-lawful at.held (print c ∷ calls) each (printed, more))

-- Where a stream can stand: characters of an address are held, and within a hooked string none.
record CanStand (hooked : Bool) (at : Standing) : Type 0 where
  each : EachIs is_of_address at.held
  none : hooked ≡ true → at.held ≡ []

-- any other call is handed on behind what was held
other-lawful : (at : Standing) (call : Call) (calls : List Call) → CanStand false at → AreLawful (call ∷ calls)
    → AreLawful ((released at.held ++ call ∷ []) ++ calls)
other-lawful at call calls stands more =
    subst AreLawful (sym (append_assoc (released at.held) (call ∷ []) calls)) (released-lawful at.held (call ∷ calls) stands.each more)

hooked-lawful : (at : Standing) (call : Call) (calls : List Call) → CanStand true at → AreLawfulFrom true (call ∷ calls)
    → AreLawfulFrom true ((released at.held ++ call ∷ []) ++ calls)
hooked-lawful at call calls stands more =
    subst (λ (first : List Call). AreLawfulFrom true ((first ++ call ∷ []) ++ calls)) (sym (ap released (stands.none refl) ∙ released-clear [] tt)) more

-- all that is handed on from there
abbrev rest : Standing → List Call → List Call
rest at calls = handed_from at calls ++ left_from at calls

nothing : (hooked is_linked : Bool) → CanStand hooked (standing [] false is_linked)
nothing hooked is_linked = record { each = tt; none = λ is. refl }

joined : (hooked : Bool) (at : Standing) (call : Call) (calls : List Call)
    → AreLawfulFrom hooked (handed at call ++ rest (standing_after at call) calls) → AreLawfulFrom hooked (rest at (call ∷ calls))
joined hooked at call calls are =
    let next = standing_after at call in
    subst (AreLawfulFrom hooked) (sym (append_assoc (handed at call) (handed_from next calls) (left_from next calls))) are

print-lawful : (at : Standing) (c : ℕ) (calls : List Call) → CanStand false at → is_character c ≡ true
    → ((next : Standing) → CanStand false next → AreLawful (rest next calls))
    → AreLawful (handed at (print c) ++ rest (standing_after at (print c)) calls)
print-lawful at c calls stands printed go = by at.is_linked
  where
    by : (linked : Bool)
        → AreLawful ((if linked then print c ∷ [] else handed_character at c) ++ rest (if linked then at else standing (held_character at c) (is_of_word c) false) calls)
    by true = (printed, go at stands)
    by false =
        let next = standing (held_character at c) (is_of_word c) false in
        character-lawful at c stands.each (rest next calls) printed (go next (record { each = held-uri at c stands.each; none = λ is. absurd (false≢true is) }))

-- call by call
from-lawful : (hooked : Bool) (calls : List Call) (at : Standing) → CanStand hooked at → AreLawfulFrom hooked calls → AreLawfulFrom hooked (rest at calls)
from-lawful false [] at stands are = subst AreLawful (append-nil (released at.held)) (released-lawful at.held [] stands.each tt)
from-lawful true [] at stands are = subst (AreLawfulFrom true) (sym (ap released (stands.none refl) ∙ released-clear [] tt)) tt
from-lawful false (print c ∷ calls) at stands are =
    joined false at (print c) calls (print-lawful at c calls stands are.0 (λ next stands_next. from-lawful false calls next stands_next are.1))
from-lawful false (execute b ∷ calls) at stands are =
    let next = standing_after at (execute b) in
    joined false at (execute b) calls (other-lawful at (execute b) (rest next calls) stands (are.0, from-lawful false calls next (nothing false at.is_linked) are.1))
from-lawful false (hook groups intermediates ignore final ∷ calls) at stands are =
    let call = hook groups intermediates ignore final in
    let next = standing_after at call in
    joined false at call calls (other-lawful at call (rest next calls) stands (are.0, from-lawful true calls next (nothing true at.is_linked) are.1))
from-lawful false (osc_dispatch parts bell ∷ calls) at stands are =
    let call = osc_dispatch parts bell in
    let next = standing_after at call in
    joined false at call calls (other-lawful at call (rest next calls) stands (are.0, from-lawful false calls next (nothing false next.is_linked) are.1))
from-lawful false (csi_dispatch groups intermediates ignore final ∷ calls) at stands are =
    let call = csi_dispatch groups intermediates ignore final in
    let next = standing_after at call in
    joined false at call calls (other-lawful at call (rest next calls) stands (are.0, from-lawful false calls next (nothing false at.is_linked) are.1))
from-lawful false (esc_dispatch intermediates ignore final ∷ calls) at stands are =
    let call = esc_dispatch intermediates ignore final in
    let next = standing_after at call in
    joined false at call calls (other-lawful at call (rest next calls) stands (are.0, from-lawful false calls next (nothing false at.is_linked) are.1))
from-lawful true (put b ∷ calls) at stands are =
    let next = standing_after at (put b) in
    joined true at (put b) calls (hooked-lawful at (put b) (rest next calls) stands (are.0, from-lawful true calls next (nothing true at.is_linked) are.1))
from-lawful true (unhook ∷ calls) at stands are =
    let next = standing_after at unhook in
    joined true at unhook calls (hooked-lawful at unhook (rest next calls) stands (from-lawful false calls next (nothing false at.is_linked) are))
from-lawful false (put b ∷ calls) at stands are = absurd are
from-lawful false (unhook ∷ calls) at stands are = absurd are
from-lawful true (print c ∷ calls) at stands are = absurd are
from-lawful true (execute b ∷ calls) at stands are = absurd are
from-lawful true (hook groups intermediates ignore final ∷ calls) at stands are = absurd are
from-lawful true (osc_dispatch parts bell ∷ calls) at stands are = absurd are
from-lawful true (csi_dispatch groups intermediates ignore final ∷ calls) at stands are = absurd are
from-lawful true (esc_dispatch intermediates ignore final ∷ calls) at stands are = absurd are

-- So they are the calls of some stream.
pub linked-made : (bytes : List ℕ) (calls : List Call) → AreCalls bytes calls → AreMade (linked calls)
linked-made bytes calls made = (lawful_exactly (linked calls)).0 (from-lawful false calls at_start (nothing false false) (lawful bytes calls made))
