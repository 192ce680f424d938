-- A run more, and what stands after it.
use Rattle.std.proofs.Common.{◌≡◌, ◌++◌, [], map, length, eqb-true, refl, sym, ap, ◌∙◌, subst}
use Rattle.std.proofs.lemmas.List.{nil_from_length}
use Rattle.std.proofs.lemmas.Str.{chars-nil, IsUtf8-nil, IsUtf8-append}
use Rattle.anstyle_parse.specs.Stream.Call.{print}
use Rattle.lanes.proofs.TextLemmas.{run-utf8, two-parts-taken, last-part-taken}
use Rattle.ansi_screen.specs.Runs.{is_printed_ascii}
use Rattle.ansi_screen.specs.TextsProof.{printed-low}
use Rattle.ansi_screen.proofs.PartLemmas.{text-more, text-run}
use Rattle.ansi_screen.proofs.texts.print_by_runs.Goals as goal

pub rest-init : goal.rest-init
rest-init g c =
    let first = c.args.performer.now in
    record {
      passed = [];
      utf8 = IsUtf8-nil;
      rest_utf8 = c.utf8.text;
      joined = refl;
      printed = subst (λ calls. g.P.PutRuns.receives first calls first) (sym (ap (map print) chars-nil)) (g.met.P.PutRuns.follows.none first);
    }

pub rest-preserved : goal.rest-preserved
rest-preserved g c =
    let before = c.rest.invariant in
    let run = c.split_front.result.0.now in
    let others = c.split_others.result.0.now in
    let ascii = c.split_front.ensures.each in
    record {
      passed = before.passed ++ (run ++ others);
      utf8 = IsUtf8-append before.passed (run ++ others) before.utf8 (IsUtf8-append run others (run-utf8 is_printed_ascii printed-low run ascii) c.split_others.ensures.front);
      rest_utf8 = c.split_others.ensures.back;
      joined = two-parts-taken c.args.text.now before.passed c.rest.rest.now run c.split_front.result.1.now others c.split_others.result.1.now
          before.joined c.split_front.ensures.joined c.split_others.ensures.joined;
      printed = text-more g.P.PutRuns.receives g.met.P.PutRuns.follows.more before.passed run others c.args.performer.now c.rest.performer
          c.print_run.new.performer c.print_each.new.performer before.utf8 ascii before.printed c.print_run.ensures c.print_each.ensures;
    }

pub returns-then-is_empty : goal.returns-then-is_empty
returns-then-is_empty g c =
    let before = c.rest.invariant in
    let run = c.split_front.result.0.now in
    let after = c.split_front.result.1.now in
    let none : after ≡ [] = nil_from_length after (eqb-true (length after) 0 (sym c.is_empty-in-rest.ensures ∙ c.if-is_empty.true)) in
    text-run g.P.PutRuns.receives g.met.P.PutRuns.follows.more c.args.text.now before.passed run c.args.performer.now c.rest.performer
    c.print_run.new.performer (last-part-taken c.args.text.now before.passed c.rest.rest.now run after before.joined c.split_front.ensures.joined none)
    before.utf8 c.split_front.ensures.each before.printed c.print_run.ensures
