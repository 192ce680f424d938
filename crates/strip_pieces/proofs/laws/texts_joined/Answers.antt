-- Calls that continue one another, and what ends them.
use Rattle.std.proofs.Common.{[], ◌++◌, length, arith, ap, ap₂, sym, ◌∙◌}
use Rattle.ansi_strip.specs.Inert.{inert_text}
use Rattle.ansi_strip.proofs.InertLemmas.{inert_text-append}
use Rattle.stream_state.proofs.LogLemmas.{ContinuesLog-append, AreCalls-log_begins}
use Rattle.strip_pieces.proofs.laws.texts_joined.Goals as goal

pub returns-clause-pieces : goal.returns-clause-pieces
returns-clause-pieces c = λ before bytes more text rest (calls, continues, is) (others, then, also).
    (calls ++ others, ContinuesLog-append before bytes more calls others continues then, ap (λ t. t ++ rest) is ∙ ap (λ t. inert_text calls ++ t) also ∙ sym (inert_text-append calls others))

pub returns-clause-whole : goal.returns-clause-whole
returns-clause-whole c = λ bytes text (calls, continues, is). (calls, continues [] AreCalls-log_begins, is)

pub returns-clause-ended : goal.returns-clause-ended
returns-clause-ended c = λ bytes text end (calls, continues, is) (others, ends, also). (
  calls ++ others,
  ends calls (continues [] AreCalls-log_begins),
  ap₂ (λ t e. t ++ e) is also ∙ sym (inert_text-append calls others),
)

pub returns-clause-length : goal.returns-clause-length
returns-clause-length c = λ bytes text end (calls, continues, is) (others, ends, also).
    let joined = ap₂ (λ t e. t ++ e) is also ∙ sym (inert_text-append calls others) in
    omega (arith, ap length joined, c.logs.ensures.length bytes (calls ++ others) (ends calls (continues [] AreCalls-log_begins)))
