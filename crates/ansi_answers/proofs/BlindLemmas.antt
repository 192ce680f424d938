-- An answer goes by modes, shape, flags of keys and colours alone.
use Rattle.std.proofs.Common.{◌≡◌, ℕ, Bool, List, [], ◌∷◌, refl, sym, ap, ap₂, ◌∙◌, eqb}
use Rattle.std.specs.Prelude.{Option, None, Some, if◌then◌else◌}
use Rattle.anstyle_parse.specs.Stream.Call.{Call, print, execute, hook, put, unhook, osc_dispatch, csi_dispatch, esc_dispatch}
use Rattle.ansi_modes.specs.declared.asked.Asked.{Asked}
use Rattle.ansi_modes.specs.Asked.{nothing_asked}
use Rattle.ansi_modes.specs.Fields.{first_of, number_of}
use Rattle.ansi_answers.specs.declared.facts.Facts.{Facts}
use Rattle.ansi_answers.specs.declared.color.Theme.{Theme}
use Rattle.ansi_answers.specs.declared.request.Request.{Request}
use Rattle.ansi_answers.specs.declared.request.Request.TheVariants.{Nothing, Begun, Rendition, Margins, Space, Shape, Other}
use Rattle.ansi_answers.specs.declared.answer.Paint.{Paint}
use Rattle.ansi_answers.specs.declared.answer.Paint.TheVariants.{Foreground, Background, Cursor}
use Rattle.ansi_answers.specs.declared.answer.Answer.{Answer}
use Rattle.ansi_answers.specs.Sequences.{marked_answer, sequence_answer}
use Rattle.ansi_answers.specs.Settings.{setting_answer}
use Rattle.ansi_answers.specs.Commands.{is_question, palette_question, index_answer, paint_of, paint_color, paint_answer, paint_question, numbered_answer, answer_to_command}
use Rattle.ansi_answers.specs.Laws.{answer_to, HasSameNumbers}

-- these alone, with nothing else asked for
abbrev core : Asked → Asked
core a = record nothing_asked {
  modes = a.modes;
  shape = a.shape;
  main_flags = a.main_flags;
  alternate_flags = a.alternate_flags;
  colors = a.colors;
}

core-same : (a b : Asked) → HasSameNumbers a b → core a ≡ core b
core-same a b same =
    ap (λ m. record (core a) { modes = m }) same.modes
    ∙ (ap (λ s. record (core a) { modes = b.modes; shape = s }) same.shape
    ∙ (ap (λ x. record (core a) { modes = b.modes; shape = b.shape; main_flags = x }) same.main_flags
    ∙ (ap (λ x. record (core a) { modes = b.modes; shape = b.shape; main_flags = b.main_flags; alternate_flags = x }) same.alternate_flags
    ∙ ap (λ c. record (core b) { colors = c }) same.colors)))

sequence-core : (marks : List ℕ) (final n : ℕ) (f : Facts) (a : Asked) → sequence_answer marks final n f a ≡ sequence_answer marks final n f (core a)
unfolding sequence_answer marked_answer
sequence-core [] final n f a = refl
sequence-core (mark ∷ []) final n f a = refl
sequence-core (mark ∷ other ∷ []) final n f a = refl
sequence-core (mark ∷ other ∷ another ∷ marks) final n f a = refl

setting-core : (request : Request) (f : Facts) (a : Asked) → setting_answer request f a ≡ setting_answer request f (core a)
setting-core Nothing f a = refl
setting-core Begun f a = refl
setting-core Rendition f a = refl
setting-core Margins f a = refl
setting-core Space f a = refl
setting-core Shape f a = refl
setting-core Other f a = refl

module _ (bell : Bool) (a : Asked) (t : Theme) where
  index-core : (index : Option ℕ) → index_answer index bell a t ≡ index_answer index bell (core a) t
  unfolding index_answer
  index-core None = refl
  index-core (Some index) = refl

  palette-core : (parts : List (List ℕ)) → palette_question parts bell a t ≡ palette_question parts bell (core a) t
  palette-core [] = refl
  palette-core (index ∷ []) = refl
  palette-core (index ∷ text ∷ parts) = ap (λ (o : Option Answer). if is_question text then o else None) (index-core (number_of index))

  color-core : (paint : Paint) → paint_color paint a t ≡ paint_color paint (core a) t
  color-core Foreground = refl
  color-core Background = refl
  color-core Cursor = refl

  paint-core : (paint : Option Paint) (parts : List (List ℕ)) → paint_question paint parts bell a t ≡ paint_question paint parts bell (core a) t
  paint-core None parts = refl
  paint-core (Some paint) [] = refl
  paint-core (Some paint) (text ∷ parts) = ap (λ c. if is_question text then paint_answer paint c bell else None) (color-core paint)

  numbered-core : (number : Option ℕ) (parts : List (List ℕ)) → numbered_answer number parts bell a t ≡ numbered_answer number parts bell (core a) t
  unfolding numbered_answer
  numbered-core None parts = refl
  numbered-core (Some n) parts = ap₂ (λ (x y : Option Answer). if eqb n 4 then x else y) (palette-core parts) (paint-core (paint_of n) parts)

  command-core : (parts : List (List ℕ)) → answer_to_command parts bell a t ≡ answer_to_command parts bell (core a) t
  command-core [] = refl
  command-core (number ∷ parts) = numbered-core (number_of number) parts

answer-core : (call : Call) (r : Request) (f : Facts) (a : Asked) (t : Theme) → answer_to call r f a t ≡ answer_to call r f (core a) t
answer-core (csi_dispatch groups marks ignore final) r f a t =
    ap (λ (o : Option Answer). if ignore then None else o) (sequence-core marks final (first_of groups) f a)
answer-core (osc_dispatch parts bell) r f a t = command-core bell a t parts
answer-core unhook r f a t = setting-core r f a
answer-core (print character) r f a t = refl
answer-core (execute byte) r f a t = refl
answer-core (hook groups marks ignore final) r f a t = refl
answer-core (put byte) r f a t = refl
answer-core (esc_dispatch marks ignore final) r f a t = refl

pub answer-blind : (call : Call) (r : Request) (f : Facts) (a b : Asked) (t : Theme) → HasSameNumbers a b → answer_to call r f a t ≡ answer_to call r f b t
answer-blind call r f a b t same =
    answer-core call r f a t ∙ (ap (λ c. answer_to call r f c t) (core-same a b same) ∙ sym (answer-core call r f b t))
