-- What is left of calls is no more than the text that they lead to.
use Rattle.std.proofs.Common.{◌≤◌, ℕ, Bool, true, false, List, [], ◌∷◌, length, arith, lit≤, length-append}
use Rattle.std.specs.Prelude.{if◌then◌else◌}
use Rattle.std.specs.List.{sum_by}
use Rattle.std.proofs.lemmas.List.Sums.{sum_by-cons}
use Rattle.anstyle_parse.specs.Stream.Call.{Call, print, execute, hook, put, unhook, osc_dispatch, csi_dispatch, esc_dispatch}
use Rattle.anstyle_parse.specs.Laws.TextLength.{text_length}
use Rattle.ansi_strip.specs.Strip.{is_layout, stripped_call, stripped}

length-layout : (t : Bool) (byte : ℕ) → length (if t then byte ∷ [] else []) ≤ 1
length-layout true byte = lit≤ tt
length-layout false byte = lit≤ tt

length-stripped_call : (call : Call) → length (stripped_call call) ≤ text_length call
length-stripped_call (print c) = omega arith
length-stripped_call (execute byte) = length-layout (is_layout byte) byte
length-stripped_call (hook groups intermediates ignore final) = lit≤ tt
length-stripped_call (put byte) = lit≤ tt
length-stripped_call unhook = lit≤ tt
length-stripped_call (osc_dispatch parts bell_terminated) = lit≤ tt
length-stripped_call (csi_dispatch groups intermediates ignore final) = lit≤ tt
length-stripped_call (esc_dispatch intermediates ignore final) = lit≤ tt

pub length-stripped_text : (calls : List Call) → length (stripped calls) ≤ sum_by text_length calls
length-stripped_text [] = lit≤ tt
length-stripped_text (call ∷ calls) =
    omega (
      arith,
      length-append (stripped_call call) (stripped calls),
      length-stripped_call call,
      length-stripped_text calls,
      sum_by-cons text_length call calls,
    )
