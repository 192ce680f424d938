-- What the row has room for is put, and one character printed by itself.
use Rattle.std.proofs.Common.{◌≡◌, ◌++◌, [], ◌∷◌, take, drop, ap, sym, ◌∙◌, subst, take-append-drop}
use Rattle.std.proofs.lemmas.List.{nil_from_length}
use Rattle.anstyle_parse.specs.Stream.Call.{print}
use Rattle.anstyle_parse.specs.Stream.Items.{EachIs}
use Rattle.anstyle_parse.proofs.Bytes.Passing.{EachIs-parts}
use Rattle.ansi_screen.specs.Runs.{is_printed_ascii}
use Rattle.ansi_screen.proofs.PartLemmas.{run-parted, run-whole, run-more, run-last}
use Rattle.ansi_screen.proofs.texts.print_run.Goals as goal

pub run-preserved : goal.run-preserved
run-preserved g c =
    let before = c.run.invariant in
    let rest = c.run.rest.now in
    let n = c.put_front-count.result in
    let ch = c.in-Some.c.now in
    let further = c.in-Some.further.now in
    let put = c.put_front-count.new.self in
    let after = c.print.new.self in
    let is : drop n rest ≡ ch ∷ further = sym c.split_at.ensures.back ∙ c.in-Some.ensures.cases.0 in
    let whole = sym (take-append-drop n rest) ∙ ap (λ l. take n rest ++ l) is in
    let means = subst (λ x. g.P.Perform.means put (print x) after) c.from.ensures c.print.ensures in
    record {
      passed = before.passed ++ (take n rest ++ ch ∷ []);
      joined = run-parted c.args.run.now before.passed rest further n ch before.joined is;
      ascii = (EachIs-parts is_printed_ascii (take n rest) (ch ∷ further) (subst (EachIs is_printed_ascii) whole before.ascii)).1.1;
      printed = run-more g.P.PutRuns.receives g.met.P.PutRuns.follows.more before.passed (take n rest) ch c.args.performer.now
          c.run.performer put after before.printed c.put_front-count.ensures.put (g.met.P.PutRuns.follows.one put (print ch) after means);
    }

pub returns : goal.returns
returns g c =
    let before = c.run.invariant in
    let rest = c.run.rest.now in
    let n = c.put_front-count.result in
    let empty = rw c.in_default.is at c.split_first.ensures.cases in
    let none : drop n rest ≡ [] = sym c.split_at.ensures.back ∙ nil_from_length c.split_at.result.1.now empty in
    run-last g.P.PutRuns.receives g.met.P.PutRuns.follows.more c.args.run.now before.passed (take n rest) c.args.performer.now
    c.run.performer c.put_front-count.new.self (run-whole c.args.run.now before.passed rest n before.joined none)
    before.printed c.put_front-count.ensures.put
