-- A control sequence that may not be answered, by its final byte, is not: what waits stays.
use Rattle.std.proofs.Common.{◌≡◌, ℕ, Bool, true, false, List, [], ◌∷◌, refl, ap, ◌∙◌, arith}
use Rattle.std.specs.Prelude.{Option, None, length, not, ◌==◌, ◌&&◌, ◌||◌, if◌then◌else◌}
use Rattle.anstyle_parse.specs.Stream.Call.{Call, csi_dispatch}
use Rattle.ansi_modes.specs.declared.asked.Asked.{Asked}
use Rattle.ansi_modes.specs.Fields.{first_of}
use Rattle.ansi_answers.specs.declared.answer.Answer.{Answer}
use Rattle.ansi_answers.specs.declared.facts.Facts.{Facts}
use Rattle.ansi_answers.specs.Sequences.{may_be_answered, plain_answer, marked_answer, sequence_answer, answer_to_sequence}
use Rattle.ansi_answers.specs.Waiting.{Queue, with_answer}
use Rattle.ansi_modes.specs.Asked.{asked_after}
use Rattle.ansi_modes.specs.Asking.{may_ask}
use Rattle.ansi_modes.proofs.AskingLemmas.{quiet_sequence as asks-nothing}
use Rattle.ansi_screen.specs.After.{State, after}
use Rattle.ansi_screen.specs.Leaving.{with_kept}
use Rattle.screen_answers.specs.declared.answering.Answering.{Answering}
use Rattle.screen_answers.specs.Alone.{is_alone}
use Rattle.screen_answers.specs.Answering.{shown_after, answering_after}
use Rattle.screen_answers.specs.Facts.{facts_of}

plain-quiet : (final n : ℕ) (f : Facts) → may_be_answered final ≡ false → plain_answer final n f ≡ None
unfolding may_be_answered plain_answer
plain-quiet final n f e = grind arith

marked-quiet : (mark final n : ℕ) (f : Facts) (a : Asked) → may_be_answered final ≡ false → marked_answer mark final n f a ≡ None
unfolding may_be_answered marked_answer
marked-quiet mark final n f a e = grind arith

marks-quiet : (marks : List ℕ) (final n : ℕ) (f : Facts) (a : Asked) → may_be_answered final ≡ false → sequence_answer marks final n f a ≡ None
unfolding may_be_answered sequence_answer
marks-quiet [] final n f a e = plain-quiet final n f e
marks-quiet (mark ∷ []) final n f a e = marked-quiet mark final n f a e
marks-quiet (mark ∷ other ∷ []) final n f a e = grind arith
marks-quiet (mark ∷ other ∷ another ∷ marks) final n f a e = refl

answer-quiet : (groups : List (List ℕ)) (marks : List ℕ) (ignore : Bool) (final : ℕ) (f : Facts) (a : Asked) → may_be_answered final ≡ false
    → answer_to_sequence groups marks ignore final f a ≡ None
answer-quiet groups marks true final f a e = refl
answer-quiet groups marks false final f a e = marks-quiet marks final (first_of groups) f a e

pub quiet_sequence : (groups : List (List ℕ)) (marks : List ℕ) (ignore : Bool) (final : ℕ) (f : Facts) (a : Asked) (q : Queue) → may_be_answered final ≡ false
    → with_answer (answer_to_sequence groups marks ignore final f a) q ≡ q
quiet_sequence groups marks ignore final f a q e = ap (λ (answer : Option Answer). with_answer answer q) (answer-quiet groups marks ignore final f a e)

-- A control sequence of the screen alone takes no rows away, is not answered and asks for nothing: all but the screen stays.
alone-erases : (marks : List ℕ) (final : ℕ) → is_alone marks final ≡ true → (length marks == 0 && final == 0x4A) ≡ false
unfolding is_alone
alone-erases marks final e = grind arith

alone-answered : (marks : List ℕ) (final : ℕ) → is_alone marks final ≡ true → may_be_answered final ≡ false
unfolding is_alone may_be_answered
alone-answered marks final e = grind arith

alone-asks : (marks : List ℕ) (final : ℕ) → is_alone marks final ≡ true → may_ask marks final ≡ false
unfolding is_alone may_ask
alone-asks [] final e = grind arith
alone-asks (mark ∷ marks) final e = grind arith

asks-if : (ignore : Bool) (a b : Asked) → b ≡ a → (if ignore then a else b) ≡ a
asks-if true a b is = refl
asks-if false a b is = is

pub screen_alone : (groups : List (List ℕ)) (marks : List ℕ) (ignore : Bool) (final : ℕ) (t : Answering) → is_alone marks final ≡ true
    → answering_after (csi_dispatch groups marks ignore final) t ≡ record t { screen = after (csi_dispatch groups marks ignore final) t.screen }
screen_alone groups marks ignore final t alone =
    let call : Call = csi_dispatch groups marks ignore final in
    let next : State = after call t.screen in
    let asked : Asked = asked_after call t.asked in
    let shown : shown_after call t ≡ next =
    ap (λ erases. if not erases || t.keeps_erased then next else with_kept t.screen.history next) (alone-erases marks final alone) in
    ap (λ (s : State). record t {
      screen = s;
      asked = asked;
      waiting = with_answer (answer_to_sequence groups marks ignore final (facts_of s) asked) t.waiting;
    }) shown
    ∙ (ap (λ (q : Queue). record t { screen = next; asked = asked; waiting = q })
    (quiet_sequence groups marks ignore final (facts_of next) asked t.waiting (alone-answered marks final alone))
    ∙ ap (λ (a : Asked). record t { screen = next; asked = a })
    (asks-if ignore t.asked _ (asks-nothing groups marks final t.asked (alone-asks marks final alone))))
