-- A new one writes what the performer that was made writes of the calls of what was shown.
use Rattle.std.proofs.Common.{ℕ, List, ◌++◌, length, drop, sym, ap₂, ◌∙◌}
use Rattle.screen_text.specs.Recording.{is_decided, screen_for}
use Rattle.screen_calls.specs.Begin.{size_of, begin_in, shown_of, left_of}
use Rattle.screen_calls.proofs.WrittenLemmas.{left-new, ending-new, whole-new, begins-first, begins-second}
use Rattle.screen_calls.proofs.begin.ShowingFirstBeginShownWriterCallRows.begin.Goals as goal

pub returns-in-Ok-begin-clause-text : goal.returns-in-Ok-begin-clause-text
returns-in-Ok-begin-clause-text g c = λ given begins.
    let m = g.met.P in
    let size = size_of c.args.self.now in
    let enough = g.B.Begin.enough (begin_in c.args.self.now) in
    left-new m.Resumable.goes_on m.PerformText.follows.none c.new-in-Ok-begin.result c.new.result c.in-Ok-begin.performer (screen_for size given.read)
    c.new-in-Ok-begin.ensures.rows c.new.ensures.performer c.new.ensures.hand
    (c.new-in-Ok-begin.ensures.screen ∙ c.in-Ok.ensures.screen given (begins-first (is_decided size) enough c.args.front.now given begins)) given.calls
    ∙ c.in-Ok-begin.ensures.text (left_of size given) (begins-second (is_decided size) enough c.args.front.now given begins)

pub returns-in-Ok-begin-clause-ending : goal.returns-in-Ok-begin-clause-ending
returns-in-Ok-begin-clause-ending g c = λ given begins.
    let m = g.met.P in
    let size = size_of c.args.self.now in
    let enough = g.B.Begin.enough (begin_in c.args.self.now) in
    let second = begins-second (is_decided size) enough c.args.front.now given begins in
    ending-new m.Resumable.goes_on m.PerformText.follows.none c.new-in-Ok-begin.result c.new.result c.in-Ok-begin.performer (screen_for size given.read)
    c.new-in-Ok-begin.ensures.rows c.new.ensures.performer c.new.ensures.hand
    (c.new-in-Ok-begin.ensures.screen ∙ c.in-Ok.ensures.screen given (begins-first (is_decided size) enough c.args.front.now given begins)) given.calls
    ∙ ap₂ (λ (l r : List ℕ). drop (length l) r) (c.in-Ok-begin.ensures.text (left_of size given) second)
    (ap₂ (λ (l r : List ℕ). l ++ r) (c.in-Ok-begin.ensures.text (shown_of size given) second) (c.in-Ok-begin.ensures.ending (shown_of size given) second))

pub returns-in-Ok-begin-clause-whole : goal.returns-in-Ok-begin-clause-whole
returns-in-Ok-begin-clause-whole g c = λ given begins.
    let m = g.met.P in
    let size = size_of c.args.self.now in
    let enough = g.B.Begin.enough (begin_in c.args.self.now) in
    let second = begins-second (is_decided size) enough c.args.front.now given begins in
    let left = c.in-Ok-begin.ensures.text (left_of size given) second in
    let all = ap₂ (λ (l r : List ℕ). l ++ r) (c.in-Ok-begin.ensures.text (shown_of size given) second) (c.in-Ok-begin.ensures.ending (shown_of size given) second) in
    ap₂ (λ (l r : List ℕ). l ++ drop (length l) r) (sym left) (sym all)
    ∙ whole-new m.Resumable.goes_on m.PerformText.follows.none c.new-in-Ok-begin.result c.new.result c.in-Ok-begin.performer (screen_for size given.read)
    c.new-in-Ok-begin.ensures.rows c.new.ensures.performer c.new.ensures.hand
    (c.new-in-Ok-begin.ensures.screen ∙ c.in-Ok.ensures.screen given (begins-first (is_decided size) enough c.args.front.now given begins)) given.calls
    ∙ all
