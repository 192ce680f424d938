-- What was told of decides nothing else: by each call the same is asked for.
use Rattle.std.proofs.Common.{◌≡◌, ℕ, Bool, true, false, List, [], ◌∷◌, refl, sym, ap, ◌∙◌}
use Rattle.std.specs.Prelude.{Option, None, Some, ◌==◌, ◌&&◌, not, nat_le, length, if◌then◌else◌}
use Rattle.anstyle_parse.specs.Stream.Call.{Call, print, execute, hook, put, unhook, osc_dispatch, csi_dispatch, esc_dispatch}
use Rattle.ansi_modes.specs.declared.modes.Field.{Field}
use Rattle.ansi_modes.specs.declared.cursor.Shape.{Shape}
use Rattle.ansi_modes.specs.declared.function.Function.{Function}
use Rattle.ansi_modes.specs.declared.function.Function.TheVariants.{SetModes, ResetModes, SoftReset, SetShape, ModifyOtherKeys, DropOtherKeys, SetFlags, PushFlags, PopFlags}
use Rattle.ansi_modes.specs.declared.progress.ProgressState.{ProgressState}
use Rattle.ansi_modes.specs.declared.asked.Asked.{Asked}
use Rattle.ansi_modes.specs.Fields.{first_field, first_of, second_of, number_of}
use Rattle.ansi_modes.specs.Modes.{field_of}
use Rattle.ansi_modes.specs.Cursor.{shape_of}
use Rattle.ansi_modes.specs.Keys.{other_keys, with_flags, pushed_flags, popped_flags}
use Rattle.ansi_modes.specs.Text.{text_of}
use Rattle.ansi_modes.specs.Progress.{state_by}
use Rattle.ansi_modes.specs.Colors.{with_pairs, cleared, with_dynamic, without_dynamic}
use Rattle.ansi_modes.specs.Asked.{rung, renewed, with_known, with_number, with_numbers, with_keypad, in_shape, with_other_keys, with_stack, titles_saved, titles_back, stacked, function_of, controlled, controlled_by, sequenced, escaped, titled, in_folder, progressed, number_in, is_number, notified, with_palette, with_colors, colored, commanded_by, commanded, asked_after, asked_after_all}
use Rattle.ansi_modes.specs.Laws.{untold}

abbrev Same : (Asked → Asked) → Type 0
Same f = (a : Asked) → untold (f (untold a)) ≡ untold (f a)

either : (t : Bool) (f g : Asked → Asked) → Same f → Same g → Same (λ a. if t then f a else g a)
either true f g same_f same_g a = same_f a
either false f g same_f same_g a = same_g a

-- one after another
in-turn : (f g : Asked → Asked) → Same f → Same g → Same (λ a. g (f a))
in-turn f g same_f same_g a = sym (same_g (f (untold a))) ∙ (ap (λ (b : Asked). untold (g b)) (same_f a) ∙ same_g (f a))

nothing : Same (λ a. a)
nothing a = refl

ring : Same rung
unfolding rung
ring a = refl

known : (field : Option Field) (on : Bool) → Same (with_known field on)
known None on a = refl
known (Some field) on a = refl

number : (on : Bool) (n : ℕ) → Same (with_number on n)
unfolding with_number
number on n a = known (field_of n) on a

numbers : (on : Bool) (groups : List (List ℕ)) → Same (with_numbers on groups)
numbers on [] a = refl
numbers on (group ∷ groups) a =
    in-turn (with_number on (first_field group)) (with_numbers on groups) (number on (first_field group)) (numbers on groups) a

shape : (to : Option (Shape × Bool)) → Same (in_shape to)
shape None a = refl
shape (Some to) a = refl

other : (resource value : ℕ) → Same (with_other_keys resource value)
unfolding with_other_keys
other resource value a =
    either (resource == 4) (λ b. record b { other_keys = other_keys value; changes = record b.changes { keys = true } }) (λ b. b) (λ b. refl) nothing a

stack : (how : List ℕ → List ℕ) → Same (with_stack how)
unfolding with_stack
stack how a = refl

titles : (operation kind : ℕ) → Same (stacked operation kind)
unfolding stacked
titles operation kind a =
    either (operation == 22) (titles_saved kind) (λ b. if operation == 23 then titles_back kind b else b) (λ b. refl)
    (either (operation == 23) (titles_back kind) (λ b. b) (λ b. refl) nothing) a

control : (function : Function) (groups : List (List ℕ)) → Same (controlled function groups)
unfolding controlled
control SetModes groups a = numbers true groups a
control ResetModes groups a = numbers false groups a
control SoftReset groups a = refl
control SetShape groups a = shape (shape_of (first_of groups)) a
control ModifyOtherKeys groups a = other (first_of groups) (second_of groups) a
control DropOtherKeys groups a = other (first_of groups) 0 a
control SetFlags groups a = stack (with_flags (second_of groups) (first_of groups)) a
control PushFlags groups a = stack (pushed_flags (first_of groups)) a
control PopFlags groups a = stack (popped_flags (first_of groups)) a

control-by : (function : Option Function) (groups : List (List ℕ)) → Same (controlled_by function groups)
control-by None groups a = refl
control-by (Some function) groups a = control function groups a

sequence : (groups : List (List ℕ)) (marks : List ℕ) (final : ℕ) → Same (sequenced groups marks final)
unfolding sequenced
sequence groups [] final a =
    either (final == 0x74) (stacked (first_of groups) (second_of groups)) (λ b. b) (titles (first_of groups) (second_of groups)) nothing a
sequence groups (mark ∷ []) final a = control-by (function_of mark final) groups a
sequence groups (mark ∷ another ∷ others) final a = refl

escape : (final : ℕ) → Same (escaped final)
unfolding escaped
escape final a =
    either (final == 0x3D) (with_keypad true) (λ b. if final == 0x3E then with_keypad false b else if final == 0x63 then renewed b else b) (λ b. refl)
    (either (final == 0x3E) (with_keypad false) (λ b. if final == 0x63 then renewed b else b) (λ b. refl)
    (either (final == 0x63) renewed (λ b. b) (λ b. refl) nothing)) a

progress : (state : Option ProgressState) (given : Option ℕ) → Same (progressed state given)
progress None given a = refl
progress (Some state) given a = refl

notes : (parts : List (List ℕ)) → Same (notified parts)
notes [] a = refl
notes (kind ∷ []) a = refl
notes (kind ∷ state ∷ more) a =
    either (is_number 4 (number_of kind)) (progressed (state_by (number_of state)) (number_in more)) (λ b. b)
    (progress (state_by (number_of state)) (number_in more)) nothing a

colors : (n : ℕ) (parts : List (List ℕ)) → Same (colored n parts)
unfolding colored
colors n parts a =
    let ends : Asked → Asked = λ b. if nat_le 110 n && nat_le n 112 then with_colors (without_dynamic n b.colors) b else b in
    let sets : Asked → Asked = λ b. if nat_le 10 n && nat_le n 12 then with_colors (with_dynamic n parts b.colors) b else ends b in
    let clears : Asked → Asked = λ b. if n == 104 then with_palette (cleared parts b.colors.palette) b else sets b in
    either (n == 4) (λ b. with_palette (with_pairs parts b.colors.palette) b) clears (λ b. refl)
    (either (n == 104) (λ b. with_palette (cleared parts b.colors.palette) b) sets (λ b. refl)
    (either (nat_le 10 n && nat_le n 12) (λ b. with_colors (with_dynamic n parts b.colors) b) ends (λ b. refl)
    (either (nat_le 110 n && nat_le n 112) (λ b. with_colors (without_dynamic n b.colors) b) (λ b. b) (λ b. refl) nothing))) a

command-by : (number : Option ℕ) (parts : List (List ℕ)) → Same (commanded_by number parts)
unfolding commanded_by
command-by None parts a = refl
command-by (Some n) parts a =
    let notifies : Asked → Asked = λ b. if n == 9 then notified parts b else colored n parts b in
    let goes : Asked → Asked = λ b. if n == 7 then in_folder (text_of parts) b else notifies b in
    either (nat_le n 2) (titled n (text_of parts)) goes (λ b. refl)
    (either (n == 7) (in_folder (text_of parts)) notifies (λ b. refl)
    (either (n == 9) (notified parts) (colored n parts) (notes parts) (colors n parts))) a

command : (parts : List (List ℕ)) → Same (commanded parts)
command [] a = refl
command (number ∷ parts) a = command-by (number_of number) parts a

pub told-apart : (call : Call) → Same (asked_after call)
told-apart (print c) a = refl
told-apart (execute byte) a = either (byte == 0x07) rung (λ b. b) ring nothing a
told-apart (hook groups intermediates ignore final) a = refl
told-apart (put byte) a = refl
told-apart unhook a = refl
told-apart (osc_dispatch parts bell) a = command parts a
told-apart (csi_dispatch groups intermediates ignore final) a =
    either ignore (λ b. b) (sequenced groups intermediates final) nothing (sequence groups intermediates final) a
told-apart (esc_dispatch intermediates ignore final) a =
    either (not ignore && length intermediates == 0) (escaped final) (λ b. b) (escape final) nothing a

-- The same is asked for after calls, where it was before.
pub told-apart-all : (calls : List Call) (a b : Asked) → untold a ≡ untold b → untold (asked_after_all calls a) ≡ untold (asked_after_all calls b)
told-apart-all [] a b same = same
told-apart-all (call ∷ calls) a b same =
    told-apart-all calls (asked_after call a) (asked_after call b)
    (sym (told-apart call a) ∙ (ap (λ (c : Asked). untold (asked_after call c)) same ∙ told-apart call b))
