-- The law of the Debug text.
use Rattle.std.proofs.Common.{◌≡◌, ℕ, ◌-◌, Bool, true, false, List, [], ◌∷◌, ◌++◌, length, take, refl, sym, ap, ◌∙◌, subst, arith, append-nil, length-append}
use Rattle.std.proofs.Math.Seq.{take-append_seam}
use Rattle.std.proofs.lemmas.Bool.{false≢true}
use Rattle.anstyle_parse.specs.Stream.Bytes.{is_within, is_final, escape_byte}
use Rattle.anstyle_parse.specs.Stream.Call.{Call, print, execute, hook, put, unhook, osc_dispatch, csi_dispatch, esc_dispatch}
use Rattle.anstyle_parse.specs.Stream.Calls.{AreCalls}
use Rattle.anstyle_parse.specs.Stream.Canon.{header_text, canon}
use Rattle.anstyle_parse.specs.Stream.Groups.{groups_text}
use Rattle.anstyle_parse.specs.Laws.DebugText.{debug_text}
use Rattle.anstyle_parse.specs.Laws.Lawful.{IsHeaderCall, AreLawfulFrom}
use Rattle.anstyle_parse.specs.Laws.TextLaw.{AreSent, HandsOut, without_last, IsReadBack}
use Rattle.anstyle_parse.proofs.Canonical.Replay.{replay}
use Rattle.anstyle_parse.proofs.Lawful.Calls.{lawful}

-- the text of one such call
pub canon-csi_dispatch : (groups : List (List ℕ)) → canon (csi_dispatch groups [] false 0x6D ∷ []) ≡ escape_byte ∷ 0x5B ∷ (groups_text groups ++ 0x6D ∷ [])
unfolding header_text
canon-csi_dispatch groups =
    let text = groups_text groups in
    ap (λ l. escape_byte ∷ 0x5B ∷ l)
    (append-nil (((text ++ []) ++ []) ++ 0x6D ∷ []) ∙ ap (λ l. l ++ 0x6D ∷ []) (append-nil (text ++ []) ∙ append-nil text))

without_last-debug_text : (groups : List (List ℕ)) → without_last (debug_text groups) ≡ 0x5B ∷ groups_text groups
without_last-debug_text groups =
    let e : length (debug_text groups) - 1 ≡ length (0x5B ∷ groups_text groups) = omega (arith, length-append (groups_text groups) (0x5D ∷ [])) in
    ap (λ n. take n (debug_text groups)) e ∙ take-append_seam (0x5B ∷ groups_text groups) (0x5D ∷ [])

pub IsHeaderCall-sent : (groups : List (List ℕ)) → AreSent groups → IsHeaderCall groups [] false 0x6D
unfolding is_final is_within
IsHeaderCall-sent groups sent = record {
  groups_fit = sent.each;
  some_field = sent.some_group;
  fields_fit = sent.fields_fit;
  collected_fit = omega arith;
  collected_are = tt;
  ignores = λ e. absurd (false≢true e);
  is_finished = refl;
}

-- groups that a call can have are read back from their text
pub IsReadBack-sent : (groups : List (List ℕ)) → AreSent groups → IsReadBack groups
IsReadBack-sent groups sent =
    subst (λ bytes. AreCalls bytes (csi_dispatch groups [] false 0x6D ∷ []))
    (canon-csi_dispatch groups ∙ ap (λ text. escape_byte ∷ (text ++ 0x6D ∷ [])) (sym (without_last-debug_text groups)))
    (replay (csi_dispatch groups [] false 0x6D ∷ []) (IsHeaderCall-sent groups sent, tt))

AreSent-header : (groups intermediates : _) (ignore : Bool) (final : ℕ) → IsHeaderCall groups intermediates ignore final → AreSent groups
AreSent-header groups intermediates ignore final is = record { each = is.groups_fit; some_group = is.some_field; fields_fit = is.fields_fit }

-- what lawful calls hand out
AreSent-from_lawful : (hooked : Bool) (before : List Call) (call : Call) (after : List Call) (groups : List (List ℕ))
    → AreLawfulFrom hooked (before ++ call ∷ after) → HandsOut call groups → AreSent groups
AreSent-from_lawful false [] (hook gs is ig f) after groups h e = subst AreSent (sym e) (AreSent-header gs is ig f h.0)
AreSent-from_lawful true [] (hook gs is ig f) after groups h e = absurd h
AreSent-from_lawful false [] (csi_dispatch gs is ig f) after groups h e = subst AreSent (sym e) (AreSent-header gs is ig f h.0)
AreSent-from_lawful true [] (csi_dispatch gs is ig f) after groups h e = absurd h
AreSent-from_lawful hooked [] _ after groups h e = absurd e
AreSent-from_lawful false (print c ∷ before) call after groups h e = AreSent-from_lawful false before call after groups h.1 e
AreSent-from_lawful false (execute b ∷ before) call after groups h e = AreSent-from_lawful false before call after groups h.1 e
AreSent-from_lawful false (hook gs is ig f ∷ before) call after groups h e = AreSent-from_lawful true before call after groups h.1 e
AreSent-from_lawful false (osc_dispatch parts bell ∷ before) call after groups h e = AreSent-from_lawful false before call after groups h.1 e
AreSent-from_lawful false (csi_dispatch gs is ig f ∷ before) call after groups h e = AreSent-from_lawful false before call after groups h.1 e
AreSent-from_lawful false (esc_dispatch is ig f ∷ before) call after groups h e = AreSent-from_lawful false before call after groups h.1 e
AreSent-from_lawful true (put b ∷ before) call after groups h e = AreSent-from_lawful true before call after groups h.1 e
AreSent-from_lawful true (unhook ∷ before) call after groups h e = AreSent-from_lawful false before call after groups h e
AreSent-from_lawful false (put b ∷ before) call after groups h e = absurd h
AreSent-from_lawful false (unhook ∷ before) call after groups h e = absurd h
AreSent-from_lawful true (_ ∷ before) call after groups h e = absurd h

-- what the calls of bytes hand out can be sent, and so is read back
pub AreSent-handed_out : (bytes : List ℕ) (before : List Call) (call : Call) (after : List Call) (groups : List (List ℕ))
    → AreCalls bytes (before ++ call ∷ after) → HandsOut call groups → AreSent groups
AreSent-handed_out bytes before call after groups are e = AreSent-from_lawful false before call after groups (lawful bytes (before ++ call ∷ after) are) e

pub IsReadBack-handed_out : (bytes : List ℕ) (before : List Call) (call : Call) (after : List Call) (groups : List (List ℕ))
    → AreCalls bytes (before ++ call ∷ after) → HandsOut call groups → IsReadBack groups
IsReadBack-handed_out bytes before call after groups are e = IsReadBack-sent groups (AreSent-handed_out bytes before call after groups are e)
