-- Calls that continue one another, and what ends them.
use Rattle.std.proofs.Common.{[], ◌++◌, length, arith, ap, ap₂, sym, ◌∙◌, append_assoc}
use Rattle.stream_state.proofs.LogLemmas.{ContinuesLog-append, AreCalls-log_begins}
use Rattle.ansi_html.specs.Html.{Standing, at_start, html_from, html_ending, standing_at_end}
use Rattle.ansi_html.specs.AddingProof.{html_from-append, standing_at_end-append}
use Rattle.html_pieces.proofs.laws.html_joined.Goals as goal

pub returns-clause-pieces : goal.returns-clause-pieces
returns-clause-pieces c = λ styling before bytes more html rest (calls, continues, is) (others, then, also). (
  calls ++ others,
  ContinuesLog-append before bytes more calls others continues then,
  λ own are.
      let at = standing_at_end at_start own in
      ap₂ (λ l r. l ++ r) (is own are) (also (own ++ calls) (continues own are) ∙ ap (λ (s : Standing). html_from styling s others) (standing_at_end-append own calls at_start))
      ∙ sym (html_from-append styling calls others at),
)

pub returns-clause-whole : goal.returns-clause-whole
returns-clause-whole c = λ styling bytes text end (calls, continues, is) (last, ends, closes).
    let are = continues [] AreCalls-log_begins in
    let left = html_from styling at_start calls in
    let at = standing_at_end at_start calls in (
      calls ++ last,
      ends calls are,
      ap₂ (λ l r. l ++ r) (is [] AreCalls-log_begins) (closes calls are)
          ∙ sym (append_assoc left (html_from styling at last) (html_ending (calls ++ last)))
          ∙ ap (λ l. l ++ html_ending (calls ++ last)) (sym (html_from-append styling calls last at_start)),
    )

pub returns-clause-length : goal.returns-clause-length
returns-clause-length c = λ styling bytes text end (calls, continues, is) (last, ends, closes).
    let are = continues [] AreCalls-log_begins in
    let left = html_from styling at_start calls in
    let at = standing_at_end at_start calls in
    let joined =
    ap₂ (λ l r. l ++ r) (is [] AreCalls-log_begins) (closes calls are)
    ∙ sym (append_assoc left (html_from styling at last) (html_ending (calls ++ last)))
    ∙ ap (λ l. l ++ html_ending (calls ++ last)) (sym (html_from-append styling calls last at_start)) in
    omega (arith, ap length joined, c.log_length.ensures styling bytes (calls ++ last) (ends calls are))
