-- One byte at a machine for a string: one that is hooked, dropped or ignored, or a command.
use Rattle.std.proofs.Common.{◌≡◌, ℕ, cond, List, [], ◌∷◌, ◌++◌, map, filter, refl, sym, ap, ◌∙◌, append-nil, append_assoc}
use Rattle.std.specs.Prelude.{◌==◌}
use Rattle.anstyle_parse.specs.declared.state.definitions.State.{State}
use Rattle.anstyle_parse.specs.declared.state.definitions.State.TheVariants.{DcsIgnore, DcsPassthrough, Escape, Ground, OscString, SosPmApcString}
use Rattle.anstyle_parse.specs.Stream.Bytes.{bell}
use Rattle.anstyle_parse.specs.Stream.Arguments.{significant, groups_of, collected_of, ignore_of, parts_of}
use Rattle.anstyle_parse.specs.Stream.Call.{Call, execute, hook, put, unhook, osc_dispatch}
use Rattle.anstyle_parse.specs.Stream.Calls.{executes, is_put, body_calls}
use Rattle.anstyle_parse.specs.Stream.Items.{dcs, dcs_ignored, osc, sos_pm_apc}
use Rattle.anstyle_parse.specs.Machine.Step.{Machine, new_machine, with_part}
use Rattle.anstyle_parse.specs.Machine.Stands.{counted}
use Rattle.anstyle_parse.proofs.Bytes.Classes.{Class, control_byte, bell_byte, cancel_byte, esc_byte, terminator_byte, beyond_byte, class_of, is_put_at, is_bell_at, is_bell-class}
use Rattle.anstyle_parse.proofs.Division.Grow.{grow_body}
use Rattle.anstyle_parse.proofs.Arguments.TextFold.{text_after, text_parts}
use Rattle.anstyle_parse.proofs.Machine.Actions.{new_in, texted, with_part-with_text, storing-with_text}
use Rattle.anstyle_parse.proofs.Agreement.Values.{body_value, puts-push, command_value-push}
use Rattle.anstyle_parse.proofs.Agreement.Escape.{Grows, calls-ended}

-- one byte more that a hooked string may pass on
passed_more : (c : Class) (b : ℕ) (between header : List ℕ) (final : ℕ) (text : List ℕ) → class_of b ≡ c
    → body_calls (dcs between header final text) ++ cond (is_put_at c) (put b ∷ []) [] ≡ body_calls (dcs between header final (text ++ b ∷ []))
passed_more c b between header final text class =
    append_assoc (executes between) (hook (groups_of (significant header)) (collected_of (significant header)) (ignore_of (significant header)) final ∷ map put (filter is_put text))
    (cond (is_put_at c) (put b ∷ []) [])
    ∙ ap (λ puts. executes between ++ hook (groups_of (significant header)) (collected_of (significant header)) (ignore_of (significant header)) final ∷ puts)
    (sym (puts-push b c class text))

-- a byte of each class after a string that is hooked, dropped, ignored
pub hooked_grows : (c : Class) (b : ℕ) (between header : List ℕ) (final : ℕ) (text : List ℕ) → class_of b ≡ c
    → Grows (new_in DcsPassthrough []) (body_calls (dcs between header final text)) c b (grow_body (dcs between header final text) b c)
hooked_grows esc_byte b between header final text class = (refl, calls-ended (body_calls (dcs between header final text)) (unhook ∷ []))
hooked_grows cancel_byte b between header final text class = (refl, calls-ended (body_calls (dcs between header final text)) (unhook ∷ execute b ∷ []))
hooked_grows terminator_byte b between header final text class = (refl, calls-ended (body_calls (dcs between header final text)) (unhook ∷ []))
hooked_grows c b between header final text class = (refl, passed_more c b between header final text class)

pub dropped_grows : (c : Class) (b : ℕ) (between header : List ℕ) (byte : ℕ) (text : List ℕ)
    → Grows (new_in DcsIgnore []) (body_calls (dcs_ignored between header byte text)) c b (grow_body (dcs_ignored between header byte text) b c)
dropped_grows esc_byte b between header byte text = (refl, calls-ended (executes between) [])
dropped_grows cancel_byte b between header byte text = (refl, calls-ended (executes between) (execute b ∷ []))
dropped_grows terminator_byte b between header byte text = (refl, calls-ended (executes between) [])
dropped_grows c b between header byte text = (refl, append-nil (executes between))

pub ignored_grows : (c : Class) (b : ℕ) (between : List ℕ) (kind : ℕ) (text : List ℕ)
    → Grows (new_in SosPmApcString []) (body_calls (sos_pm_apc between kind text)) c b (grow_body (sos_pm_apc between kind text) b c)
ignored_grows esc_byte b between kind text = (refl, calls-ended (executes between) [])
ignored_grows cancel_byte b between kind text = (refl, calls-ended (executes between) (execute b ∷ []))
ignored_grows terminator_byte b between kind text = (refl, calls-ended (executes between) [])
ignored_grows c b between kind text = (refl, append-nil (executes between))

-- the machine for a command
abbrev command_value : List ℕ → Machine (List ℕ)
command_value text = texted OscString [] (text_after text (new_machine []))

-- the dispatch of a command, and the state after it
left_command : (next : State) (text : List ℕ) → new_in next (with_part (command_value text)).accumulator ≡ new_in next []
left_command next text = ap (λ (r : Machine (List ℕ)). new_in next r.accumulator) (with_part-with_text 0 (text_after text (new_machine [])) (new_in OscString []))

-- after what is called already
command_dispatched : (c : Class) (b : ℕ) (between text : List ℕ) (more : List Call) → class_of b ≡ c
    → executes between ++ osc_dispatch (with_part (command_value text)).closed_parts (b == bell) ∷ more
    ≡ ((executes between ++ osc_dispatch (parts_of text) (is_bell_at c) ∷ more) ++ []) ++ []
command_dispatched c b between text more class =
    (ap (λ (r : Machine (List ℕ)). executes between ++ osc_dispatch r.closed_parts (b == bell) ∷ more) (with_part-with_text 0 (text_after text (new_machine [])) (new_in OscString []))
    ∙ (ap (λ parts. executes between ++ osc_dispatch parts (b == bell) ∷ more) (text_parts text (new_machine []))
    ∙ ap (λ t. executes between ++ osc_dispatch (parts_of text) t ∷ more) (is_bell-class b ∙ ap is_bell_at class)))
    ∙ calls-ended (executes between) (osc_dispatch (parts_of text) (is_bell_at c) ∷ more)

-- a byte of each class after a command
pub command_grows : (c : Class) (b : ℕ) (between text : List ℕ) → class_of b ≡ c
    → Grows (body_value (osc between text)) (body_calls (osc between text)) c b (grow_body (osc between text) b c)
command_grows esc_byte b between text class = (left_command Escape text, command_dispatched esc_byte b between text [] class)
command_grows cancel_byte b between text class = (left_command Ground text, command_dispatched cancel_byte b between text (execute b ∷ []) class)
command_grows bell_byte b between text class = (left_command Ground text, command_dispatched bell_byte b between text [] class)
command_grows control_byte b between text class = (sym (command_value-push b control_byte class between text), append-nil (executes between))
command_grows beyond_byte b between text class = (sym (command_value-push b beyond_byte class between text), append-nil (executes between))
command_grows c b between text class =
    (ap counted (storing-with_text b (text_after text (new_machine [])) (new_in OscString [])) ∙ sym (command_value-push b c class between text), append-nil (executes between))
