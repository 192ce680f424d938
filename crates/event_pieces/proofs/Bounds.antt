-- How many records and how much room the bytes of a piece lead to, and that records can say their calls.
use Rattle.std.proofs.Common.{◌≡◌, ◌<◌, ◌≤◌, ◌*◌, ◌^◌, ℕ, suc, Bool, true, false, not, List, [], ◌∷◌, ◌++◌, length, map, refl, ap, arith, lit<, lt_of_le_of_lt, length-append, eqb}
use Rattle.std.specs.Prelude.{decimal}
use Rattle.std.specs.List.{AllByRecursion, join_with_byte}
use Rattle.std.proofs.lemmas.Fmt.{decimal_nonempty}
use Rattle.anstyle_parse.specs.Machine.Decoder.{decoded}
use Rattle.anstyle_parse.specs.Machine.Stands.{StandsAfter}
use Rattle.anstyle_parse.specs.Machine.Step.{Machine, new_machine, machine_calls}
use Rattle.anstyle_parse.specs.Laws.Checkpoint.{checkpoint_text}
use Rattle.anstyle_parse.specs.Laws.Lawful.{IsGroup, is_stored, AreParts, AreLawfulFrom}
use Rattle.anstyle_parse.specs.Stream.Arguments.{max_field, after_marker}
use Rattle.anstyle_parse.specs.Stream.Bytes.{semicolon, colon}
use Rattle.anstyle_parse.specs.Stream.Call.{Call, print, execute, hook, put, unhook, osc_dispatch, csi_dispatch, esc_dispatch}
use Rattle.anstyle_parse.specs.Stream.Calls.{AreCalls, Continues}
use Rattle.anstyle_parse.specs.Stream.Canon.{header_text, leading_marker, one_more_field, one_more_intermediate, command_end, call_text, canon}
use Rattle.anstyle_parse.specs.Stream.Groups.{HaveFields, fields_text, groups_text}
use Rattle.anstyle_parse.specs.Stream.Items.{EachIs}
use Rattle.anstyle_parse.proofs.Agreement.Whole.{AreCalls-machine}
use Rattle.anstyle_parse.proofs.Bytes.Passing.{EachIs-weaker}
use Rattle.anstyle_parse.proofs.Canonical.Length.{canon-append, length-canon}
use Rattle.anstyle_parse.proofs.Canonical.Parts.{stored-no_semicolon}
use Rattle.anstyle_parse.proofs.Lawful.Calls.{lawful}
use Rattle.anstyle_parse.proofs.Lists.Parts.{spaced, length-join_with_byte}
use Rattle.anstyle_parse.proofs.Lists.Passing.{AllByRecursion-weaker}
use Rattle.anstyle_parse.proofs.Resume.Whole.{checkpoint_stands, length-checkpoint}
use Rattle.ansi_strip.proofs.Showable.{IsScalar-character}
use Rattle.event_pieces.specs.Event.{group_bytes, groups_bytes, call_bytes, calls_bytes}
use Rattle.event_pieces.specs.Feed.{most_room}
use Rattle.event_pieces.specs.Writer.{IsPlain, ArePlain}
use Rattle.event_pieces.specs.AddingProof.{AllByRecursion-back}

-- the bytes of fields, and the fields in decimal
length-group_bytes : (group : List ℕ) → length (group_bytes group) ≡ 3 * length group
length-group_bytes [] = refl
length-group_bytes (field ∷ fields) = omega (arith, length-group_bytes fields)

spaced-decimals : (group : List ℕ) → AllByRecursion (λ n. n ≤ max_field) group → 2 * length group ≤ spaced (map decimal group)
spaced-decimals [] fit = omega arith
spaced-decimals (field ∷ fields) fit =
    let small : field < 2 ^ 64 = lt_of_le_of_lt fit.0 (lit< tt) in
    omega (arith, decimal_nonempty field small, spaced-decimals fields fit.1)

length-fields_text : (group : List ℕ) → IsGroup group → 2 * length group ≤ suc (length (fields_text group))
length-fields_text [] is = absurd (omega (arith, is.0))
length-fields_text (field ∷ fields) is =
    omega (arith, length-join_with_byte colon (decimal field) (map decimal fields), spaced-decimals (field ∷ fields) is.1)

spaced-groups : (groups : List (List ℕ)) → AllByRecursion IsGroup groups → 2 * length (groups_bytes groups) ≤ 3 * spaced (map fields_text groups)
spaced-groups [] fit = omega arith
spaced-groups (group ∷ groups) fit =
    omega (arith, length-append (group_bytes group) (groups_bytes groups), length-group_bytes group, length-fields_text group fit.0, spaced-groups groups fit.1)

length-groups : (groups : List (List ℕ)) → AllByRecursion IsGroup groups → 2 * length (groups_bytes groups) ≤ 3 * suc (length (groups_text groups))
length-groups [] fit = omega arith
length-groups (group ∷ groups) fit =
    omega (arith, length-join_with_byte semicolon (fields_text group) (map fields_text groups), spaced-groups (group ∷ groups) fit)

length-header : (groups : List (List ℕ)) (intermediates : List ℕ) (ignore : Bool) → length (groups_text groups) ≤ length (header_text groups intermediates ignore)
unfolding header_text
length-header groups intermediates ignore =
    let fields = groups_text groups in
    let field = one_more_field intermediates ignore in
    let others = after_marker intermediates ++ one_more_intermediate intermediates ignore in
    omega (arith, length-append (leading_marker intermediates) ((fields ++ field) ++ others), length-append (fields ++ field) others, length-append fields field)

-- What holds of each call that a parser makes: a record can say it, and its bytes are at most twice as many as
-- those of its canonical text.
record IsShort (call : Call) : Type 0 where
  plain : IsPlain call
  short : length (call_bytes call) ≤ 2 * length (call_text call)

have-fields : (groups : List (List ℕ)) → AllByRecursion IsGroup groups → HaveFields groups
have-fields groups fit = AllByRecursion-weaker IsGroup (λ group. 0 < length group) (λ group is. is.0) groups fit

-- what stands before the final byte of a header's canonical text
long-header : (introducer final : ℕ) (groups : List (List ℕ)) (intermediates : List ℕ) (ignore : Bool) → AllByRecursion IsGroup groups
    → length (groups_bytes groups) ≤ 2 * length (0x1B ∷ introducer ∷ (header_text groups intermediates ignore ++ final ∷ []))
long-header introducer final groups intermediates ignore fit =
    omega (arith, length-append (header_text groups intermediates ignore) (final ∷ []), length-header groups intermediates ignore, length-groups groups fit)

short-parts : (parts : List (List ℕ)) (bell : Bool) → AreParts parts → IsShort (osc_dispatch parts bell)
short-parts parts bell are = record {
  plain = (
    are.some_part,
    AllByRecursion-weaker (EachIs is_stored) (EachIs (λ b. not (eqb b semicolon))) (λ p k. EachIs-weaker is_stored (λ b. not (eqb b semicolon)) stored-no_semicolon p k) parts are.bytes_are,
  );
  short = omega (arith, length-append (join_with_byte semicolon parts) (command_end bell));
}

AreShort-lawful : (hooked : Bool) (calls : List Call) → AreLawfulFrom hooked calls → AllByRecursion IsShort calls
AreShort-lawful hooked [] h = tt
AreShort-lawful false (print c ∷ calls) h = (record { plain = IsScalar-character c h.0; short = omega arith }, AreShort-lawful false calls h.1)
AreShort-lawful false (execute b ∷ calls) h = (record { plain = tt; short = omega arith }, AreShort-lawful false calls h.1)
AreShort-lawful false (hook gs is ig f ∷ calls) h =
    (record { plain = (have-fields gs h.0.groups_fit, h.0.collected_fit); short = long-header 0x50 f gs is ig h.0.groups_fit }, AreShort-lawful true calls h.1)
AreShort-lawful false (osc_dispatch parts bell ∷ calls) h = (short-parts parts bell h.0, AreShort-lawful false calls h.1)
AreShort-lawful false (csi_dispatch gs is ig f ∷ calls) h =
    (record { plain = (have-fields gs h.0.groups_fit, h.0.collected_fit); short = long-header 0x5B f gs is ig h.0.groups_fit }, AreShort-lawful false calls h.1)
AreShort-lawful false (esc_dispatch is ig f ∷ calls) h = (record { plain = h.0.collected_fit; short = omega arith }, AreShort-lawful false calls h.1)
AreShort-lawful true (put b ∷ calls) h = (record { plain = tt; short = omega arith }, AreShort-lawful true calls h.1)
AreShort-lawful true (unhook ∷ calls) h = (record { plain = tt; short = omega arith }, AreShort-lawful false calls h)
AreShort-lawful false (put b ∷ calls) h = absurd h
AreShort-lawful false (unhook ∷ calls) h = absurd h
AreShort-lawful true (_ ∷ calls) h = absurd h

plain-short : (calls : List Call) → AllByRecursion IsShort calls → ArePlain calls
plain-short calls short = AllByRecursion-weaker IsShort IsPlain (λ call is. is.plain) calls short

length-short : (calls : List Call) → AllByRecursion IsShort calls → length (calls_bytes calls) ≤ 2 * length (canon calls)
length-short [] short = omega arith
length-short (call ∷ calls) short =
    omega (arith, length-append (call_bytes call) (calls_bytes calls), length-append (call_text call) (canon calls), short.0.short, length-short calls short.1)

-- the calls of bytes at a machine that stands after others
module _ (before bytes : List ℕ) (calls : List Call) (m : Machine (List ℕ)) (stands : StandsAfter m before)
    (continues : (held : List ℕ) → StandsAfter m held → Continues held bytes calls) where
  abbrev held : List ℕ
  held = checkpoint_text m

  abbrev first : List Call
  first = machine_calls decoded held (new_machine [])

  all : AreCalls (held ++ bytes) (first ++ calls)
  all = continues held (checkpoint_stands before m stands) first (AreCalls-machine held)

  short : AllByRecursion IsShort calls
  short = AllByRecursion-back IsShort first calls (AreShort-lawful false (first ++ calls) (lawful (held ++ bytes) (first ++ calls) all))

  -- records can say them
  pub plain-continued : ArePlain calls
  plain-continued = plain-short calls short

  -- and need no more room than this
  pub room-continued : length (calls_bytes calls) ≤ most_room (length bytes)
  room-continued =
      omega (
        arith,
        length-short calls short,
        ap length (canon-append first calls),
        length-append (canon first) (canon calls),
        length-canon (held ++ bytes) (first ++ calls) all,
        length-append held bytes,
        length-checkpoint before m stands,
      )
