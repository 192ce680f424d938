-- The canonical text of a lawful list of calls is made of bytes, numbers below 256.
use Rattle.std.proofs.Common.{◌≡◌, ℕ, ◌<◌, ◌≤◌, ⊎_elim, ◌↔◌, Bool, true, false, List, [], ◌∷◌, ◌++◌, sym, refl, subst, ltb, ltb-true, lt-ltb, arith, encode_utf8}
use Rattle.std.specs.List.{AllByRecursion, join_with_byte}
use Rattle.std.proofs.lemmas.Bool.{cases_lt}
use Rattle.anstyle_parse.specs.Stream.Bytes.{is_within, is_intermediate, is_final, semicolon, escape_byte}
use Rattle.anstyle_parse.specs.Stream.Arguments.{is_kept}
use Rattle.anstyle_parse.specs.Stream.Call.{Call, print, execute, hook, put, unhook, osc_dispatch, csi_dispatch, esc_dispatch}
use Rattle.anstyle_parse.specs.Stream.Items.{EachIs, is_header_byte}
use Rattle.anstyle_parse.specs.Stream.Calls.{AreCalls}
use Rattle.anstyle_parse.specs.Stream.Canon.{header_text, escape_text, command_end, canon}
use Rattle.anstyle_parse.specs.Laws.Lawful.{is_character, AreLawfulFrom, AreLawful, IsHeaderCall, AreParts}
use Rattle.anstyle_parse.proofs.Bytes.Passing.{EachIs-append, EachIs-weaker}
use Rattle.anstyle_parse.proofs.Lists.Passing.{AllByRecursion-weaker}
use Rattle.anstyle_parse.proofs.Characters.Encoding.{character_range, encode_one, encode_two, encode_three, encode_four}
use Rattle.anstyle_parse.proofs.Canonical.Headers.{below_within}
use Rattle.anstyle_parse.proofs.Canonical.Shown.{header_text-Shows}
use Rattle.anstyle_parse.proofs.Canonical.Parts.{kept-below, kept-join}
use Rattle.anstyle_parse.proofs.Canonical.Items.{executed-below, escape_text-each}
use Rattle.anstyle_parse.proofs.Canonical.Replay.{passed-below, replay}
use Rattle.anstyle_parse.proofs.Lawful.Calls.{lawful}

-- a number below 256
is_byte : ℕ → Bool
is_byte b = ltb b 256

byte : (b : ℕ) → b < 256 → is_byte b ≡ true
unfolding is_byte
byte b h = lt-ltb b 256 h

within-byte : (low high b : ℕ) → high < 256 → is_within low high b ≡ true → is_byte b ≡ true
within-byte low high b small e = byte b (below_within low high b small e)

header-byte : (b : ℕ) → is_header_byte b ≡ true → is_byte b ≡ true
unfolding is_header_byte
header-byte b e = within-byte 0x20 0x3F b (omega arith) e

intermediate-byte : (b : ℕ) → is_intermediate b ≡ true → is_byte b ≡ true
unfolding is_intermediate
intermediate-byte b e = within-byte 0x20 0x2F b (omega arith) e

final-byte : (b : ℕ) → is_final b ≡ true → is_byte b ≡ true
unfolding is_final
final-byte b e = within-byte 0x40 0x7E b (omega arith) e

-- the texts of the calls, one by one
encode-bytes : (c : ℕ) → is_character c ≡ true → EachIs is_byte (encode_utf8 c)
encode-bytes c e =
    let range = character_range c e in
    ⊎_elim
    (λ (h : c < 0x80). subst (EachIs is_byte) (sym (encode_one c h)) (byte _ (omega arith), tt))
    (λ (h : 0x80 ≤ c). ⊎_elim
    (λ (k : c < 0x800). subst (EachIs is_byte) (sym (encode_two c h k)) (byte _ (omega arith), (byte _ (omega arith), tt)))
    (λ (k : 0x800 ≤ c). ⊎_elim
    (λ (j : c < 0x10000). subst (EachIs is_byte) (sym (encode_three c k j)) (byte _ (omega arith), (byte _ (omega arith), (byte _ (omega arith), tt))))
    (λ (j : 0x10000 ≤ c). subst (EachIs is_byte) (sym (encode_four c j)) (byte _ (omega (arith, range.1)), (byte _ (omega arith), (byte _ (omega arith), (byte _ (omega arith), tt)))))
    (cases_lt c 0x10000))
    (cases_lt c 0x800))
    (cases_lt c 0x80)

header-bytes : (second : ℕ) (groups : List (List ℕ)) (intermediates : List ℕ) (ignore : Bool) (final : ℕ) → second < 256 → IsHeaderCall groups intermediates ignore final
    → EachIs is_byte (escape_byte ∷ second ∷ (header_text groups intermediates ignore ++ final ∷ []))
header-bytes second groups intermediates ignore final small call = (
  byte escape_byte (omega arith),
  (
    byte second small,
    EachIs-append is_byte (header_text groups intermediates ignore) (final ∷ [])
        (EachIs-weaker is_header_byte is_byte header-byte (header_text groups intermediates ignore) (header_text-Shows groups intermediates ignore final call).bytes_are)
        (final-byte final call.is_finished, tt),
  ),
)

end-bytes : (bell_terminated : Bool) → EachIs is_byte (command_end bell_terminated)
unfolding is_byte
end-bytes true = (refl, tt)
end-bytes false = (refl, (refl, (refl, tt)))

command-bytes : (parts : List (List ℕ)) (bell_terminated : Bool) → AreParts parts → EachIs is_byte (escape_byte ∷ 0x5D ∷ (join_with_byte semicolon parts ++ command_end bell_terminated))
command-bytes parts bell_terminated are = (
  byte escape_byte (omega arith),
  (
    byte 0x5D (omega arith),
    EachIs-append is_byte (join_with_byte semicolon parts) (command_end bell_terminated)
        (EachIs-weaker is_kept is_byte (λ b e. byte b (kept-below b e)) (join_with_byte semicolon parts) (kept-join parts are.bytes_are))
        (end-bytes bell_terminated),
  ),
)

-- the calls inside or outside a hooked string
bytes_from : (hooked : Bool) (calls : List Call) → AreLawfulFrom hooked calls → EachIs is_byte (canon calls)
bytes_from hooked [] h = tt
bytes_from false (print character ∷ calls) h = EachIs-append is_byte (encode_utf8 character) (canon calls) (encode-bytes character h.0) (bytes_from false calls h.1)
bytes_from false (execute b ∷ calls) h = (byte b (executed-below b h.0), bytes_from false calls h.1)
bytes_from false (hook groups intermediates ignore final ∷ calls) h =
    EachIs-append is_byte (escape_byte ∷ 0x50 ∷ (header_text groups intermediates ignore ++ final ∷ [])) (canon calls) (header-bytes 0x50 groups intermediates ignore final (omega arith) h.0) (bytes_from true calls h.1)
bytes_from false (osc_dispatch parts bell_terminated ∷ calls) h =
    EachIs-append is_byte (escape_byte ∷ 0x5D ∷ (join_with_byte semicolon parts ++ command_end bell_terminated)) (canon calls) (command-bytes parts bell_terminated h.0) (bytes_from false calls h.1)
bytes_from false (csi_dispatch groups intermediates ignore final ∷ calls) h =
    EachIs-append is_byte (escape_byte ∷ 0x5B ∷ (header_text groups intermediates ignore ++ final ∷ [])) (canon calls) (header-bytes 0x5B groups intermediates ignore final (omega arith) h.0) (bytes_from false calls h.1)
bytes_from false (esc_dispatch intermediates ignore final ∷ calls) h =
    let text = escape_text intermediates ignore in
    EachIs-append is_byte (escape_byte ∷ (text ++ final ∷ [])) (canon calls) (
      byte escape_byte (omega arith),
      EachIs-append is_byte text (final ∷ [])
          (EachIs-weaker is_intermediate is_byte intermediate-byte text (escape_text-each intermediates ignore h.0.collected_are))
          (within-byte 0x30 0x7E final (omega arith) h.0.is_finished, tt),
    )
    (bytes_from false calls h.1)
bytes_from true (put b ∷ calls) h = (byte b (passed-below b h.0), bytes_from true calls h.1)
bytes_from true (unhook ∷ calls) h = (byte 0x9C (omega arith), bytes_from false calls h)
bytes_from false (put b ∷ calls) h = absurd h
bytes_from false (unhook ∷ calls) h = absurd h
bytes_from true (print character ∷ calls) h = absurd h
bytes_from true (execute b ∷ calls) h = absurd h
bytes_from true (hook groups intermediates ignore final ∷ calls) h = absurd h
bytes_from true (osc_dispatch parts bell_terminated ∷ calls) h = absurd h
bytes_from true (csi_dispatch groups intermediates ignore final ∷ calls) h = absurd h
bytes_from true (esc_dispatch intermediates ignore final ∷ calls) h = absurd h

-- each number of the canonical text of a lawful list is a byte
pub canon-bytes : (calls : List Call) → AreLawful calls → AllByRecursion (λ b. b < 256) (canon calls)
unfolding is_byte
canon-bytes calls h = AllByRecursion-weaker (λ b. is_byte b ≡ true) (λ b. b < 256) (λ b e. ltb-true b 256 e) (canon calls) (bytes_from false calls h)

-- the lawful lists are exactly those that some bytes make
pub lawful_exactly : (calls : List Call) → AreLawful calls ↔ ((bytes : List ℕ) × AllByRecursion (λ b. b < 256) bytes × AreCalls bytes calls)
lawful_exactly calls = (λ h. (canon calls, canon-bytes calls h, replay calls h), λ some. lawful some.0 calls some.2)
