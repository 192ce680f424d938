-- What is read of a log, and its inert text.
use Rattle.std.proofs.Common.{List, ℕ, [], ◌∷◌, ◌++◌, sym, ap, ◌∙◌, subst, arith}
use Rattle.anstyle_parse.specs.Machine.AsRead.{as_read, as_read_whole}
use Rattle.anstyle_parse.specs.Stream.Calls.{AreCalls}
use Rattle.ansi_strip.specs.Inert.{inert_text}
use Rattle.ansi_strip.proofs.InertLemmas.{length-inert}
use Rattle.strip_pieces.proofs.LogLemmas.{as_read_whole-inert, as_read_whole-begins, as_read_whole-escape}
use Rattle.ansi_strip.proofs.PieceLength.{length-stripped_text}
use Rattle.strip_pieces.proofs.laws.logs.Goals as goal

pub returns-clause-length : goal.returns-clause-length
returns-clause-length c = λ log calls are. omega (arith, length-inert calls, length-stripped_text calls, c.log_bounds.ensures.text_end log calls are)

pub returns-clause-so_far : goal.returns-clause-so_far
returns-clause-so_far c = λ log calls are. omega (arith, length-inert calls, length-stripped_text calls, c.log_bounds.ensures.text log calls are)

pub returns-clause-parts : goal.returns-clause-parts
returns-clause-parts c = λ before bytes first rest whole are follow together.
    let read = as_read before in
    let (more, begins) = as_read_whole-begins bytes in
    c.inert_cut_before_escape.ensures read more first rest whole
    (subst (λ (l : List ℕ). AreCalls l first) (c.read_logs.ensures.parts_end before [] ∙ ap (λ l. read ++ l) as_read_whole-escape) are)
    (subst (λ (l : List ℕ). AreCalls l rest) begins follow)
    (subst (λ (l : List ℕ). AreCalls l whole) (c.read_logs.ensures.parts_end before bytes ∙ ap (λ l. read ++ l) begins) together)

pub returns-clause-twice : goal.returns-clause-twice
returns-clause-twice c = λ log calls again are more.
    c.inert_twice.ensures.twice (as_read_whole log) calls again are
    (subst (λ (l : List ℕ). AreCalls l again) (as_read_whole-inert (inert_text calls) (c.inert_utf8.ensures.whole (as_read_whole log) calls are)) more)

pub returns-clause-clean : goal.returns-clause-clean
returns-clause-clean c = λ text calls inert are.
    c.inert_clean_text.ensures text calls inert (subst (λ (l : List ℕ). AreCalls l calls) (as_read_whole-inert text inert) are)
