-- The first digits are written, and then the last four.
use Rattle.std.proofs.Common.{◌≡◌, ◌++◌, ◌/◌, ℕ, List, [], ◌∷◌, sym, ap, ◌∙◌, subst, append_assoc}
use Rattle.anstyle_parse.specs.declared.io.output.Output.{Output}
use Rattle.anstyle_parse.specs.Io.Output.{Adds}
use Rattle.anstyle_parse.proofs.Written.Output.{Adds-nil, Adds-append}
use Rattle.parselog.specs.Lines.{hex_digit, four_digits, character_number, newline}
use Rattle.parselog.proofs.LineLemmas.{character_number-four, character_number-five, character_number-six}
use Rattle.parselog.proofs.log.put_number.Goals as goal
use Rattle.parselog.proofs.log.put_number.Goals.{then-n-ge1048576, else-n-ge1048576+then-n-ge65536, else-n-ge1048576+else-n-ge65536}

pub returns : goal.returns
returns g c =
    let sink = g.W.Sink in
    let n = c.from-n.result in
    let old = c.args.output.now in
    let last = c.put-2.new.self in
    let rest = c.last_digits.result in
    let whole : (first : List ℕ) (middle : Output g.row.W.Denot) → Adds sink first old middle → c.if-n-ge1048576.output ≡ middle
    → first ++ four_digits n ≡ character_number n → Adds sink (character_number c.args.c ++ newline ∷ []) old last
    = λ first middle added is digits.
    subst (λ t. Adds sink t old last) (ap (λ d. first ++ d) c.last_digits.ensures ∙ sym (append_assoc first (four_digits n) (newline ∷ [])) ∙ ap (λ d. d ++ newline ∷ []) (digits ∙ ap character_number c.from-n.ensures))
    (Adds-append sink first rest old middle last added (subst (λ o. Adds sink rest o last) is c.put-2.ensures)) in
    elim c.if-n-ge1048576.branch [
      | then-n-ge1048576 w ↦
          whole _ w.put.new.self w.put.ensures w.output-is
          (ap (λ d. d ∷ w.digit-then-n-ge1048576.result ∷ four_digits n) w.digit.ensures ∙ ap (λ d. hex_digit (n / 0x100000) ∷ d ∷ four_digits n) w.digit-then-n-ge1048576.ensures
          ∙ character_number-six n w.if-n-ge1048576.true)
      | else-n-ge1048576+then-n-ge65536 w ↦
          whole _ w.put_byte.new.self w.put_byte.ensures w.output-is
          (ap (λ d. d ∷ four_digits n) w.digit-then-n-ge65536.ensures ∙ character_number-five n w.if-n-ge65536.true w.if-n-ge1048576.false)
      | else-n-ge1048576+else-n-ge65536 w ↦
          whole [] old (Adds-nil sink old) w.output-is (character_number-four n w.if-n-ge65536.false)
    ]
