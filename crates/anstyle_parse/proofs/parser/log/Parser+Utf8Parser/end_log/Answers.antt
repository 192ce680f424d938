use Rattle.std.proofs.Common.{sym, ap, subst, ◌∙◌, ◌++◌, List, ℕ}
use Rattle.anstyle_parse.specs.Machine.AsRead.{as_read, break_in}
use Rattle.anstyle_parse.specs.Stream.Texts.{HasReceivedTexts}
use Rattle.anstyle_parse.specs.Views.Accumulator.{front_of}
use Rattle.anstyle_parse.specs.Views.Parser.{IsAfter}
use Rattle.anstyle_parse.proofs.Machine.AsReadStreams.{as_read_whole-at, as_read_whole-outside}
use Rattle.anstyle_parse.proofs.parser.log.Parser+Utf8Parser.end_log.Goals as goal

pub returns-then-is_in_char-clause-stands : goal.returns-then-is_in_char-clause-stands
returns-then-is_in_char-clause-stands g c = λ before stands.
    let whole = as_read_whole-at c.args.self.now before stands ∙ ap (λ s. as_read before ++ break_in s) (c.is_in_char.ensures.state.0 c.if-is_in_char.true) in
    let Q : List ℕ → Type 0 = λ l. IsAfter front_of c.advance_texts.new.self l in
    subst Q (sym whole) (c.advance_texts.ensures.stands (as_read before) stands)

pub returns-then-is_in_char-clause-received : goal.returns-then-is_in_char-clause-received
returns-then-is_in_char-clause-received g c = λ first before stands received.
    let whole = as_read_whole-at c.args.self.now before stands ∙ ap (λ s. as_read before ++ break_in s) (c.is_in_char.ensures.state.0 c.if-is_in_char.true) in
    subst (λ (l : List ℕ). HasReceivedTexts g.P.PerformText.receives first l c.advance_texts.new.performer) (sym whole)
    (c.advance_texts.ensures.received first (as_read before) stands received)

pub returns-else-is_in_char-clause-stands : goal.returns-else-is_in_char-clause-stands
returns-else-is_in_char-clause-stands g c = λ before stands.
    let whole = as_read_whole-outside c.args.self.now before stands (λ inside. absurd (cc (c.is_in_char.ensures.state.1 inside, c.if-is_in_char.false))) in
    let Q : List ℕ → Type 0 = λ l. IsAfter front_of c.args.self.now l in
    subst Q (sym whole) stands

pub returns-else-is_in_char-clause-received : goal.returns-else-is_in_char-clause-received
returns-else-is_in_char-clause-received g c = λ first before stands received.
    let whole = as_read_whole-outside c.args.self.now before stands (λ inside. absurd (cc (c.is_in_char.ensures.state.1 inside, c.if-is_in_char.false))) in
    subst (λ (l : List ℕ). HasReceivedTexts g.P.PerformText.receives first l c.args.performer.now) (sym whole) received
