-- Plain text more, and what stands after it.
use Rattle.std.proofs.Common.{◌≡◌, List, ℕ, ◌++◌, [], length, eqb-true, refl, sym, ap, ◌∙◌, subst}
use Rattle.std.specs.Str.{chars}
use Rattle.std.proofs.lemmas.List.{nil_from_length}
use Rattle.std.proofs.lemmas.Str.{chars-nil, IsUtf8-nil, IsUtf8-append}
use Rattle.safe_text.specs.Writer.{Takes}
use Rattle.safe_text.specs.TakingProof.{plain-low, Takes-none, Takes-append}
use Rattle.lanes.proofs.TextLemmas.{run-utf8, two-parts-taken, last-part-taken}
use Rattle.safe_text.specs.Plain.{is_plain}
use Rattle.safe_text.proofs.PartLemmas.{chars-more, chars-run}
use Rattle.safe_text.proofs.performer.SafeWriter.take_text.Goals as goal

pub rest-init : goal.rest-init
rest-init g c =
    let first = c.args.self.now in
    record {
      passed = [];
      utf8 = IsUtf8-nil;
      rest_utf8 = c.utf8.text;
      joined = refl;
      taken = subst (λ (cs : List ℕ). Takes g.W.Sink first cs first) (sym chars-nil) (Takes-none g.W.Sink first);
    }

pub rest-preserved : goal.rest-preserved
rest-preserved g c =
    let first = c.args.self.now in
    let before = c.rest.invariant in
    let run = c.split_front.result.0.now in
    let others = c.split_others.result.0.now in
    let plain = c.split_front.ensures.each in
    let after = c.take_each.new.self in
    record {
      passed = before.passed ++ (run ++ others);
      utf8 = IsUtf8-append before.passed (run ++ others) before.utf8 (IsUtf8-append run others (run-utf8 is_plain plain-low run plain) c.split_others.ensures.front);
      rest_utf8 = c.split_others.ensures.back;
      joined = two-parts-taken c.args.text.now before.passed c.rest.rest.now run c.split_front.result.1.now others c.split_others.result.1.now
          before.joined c.split_front.ensures.joined c.split_others.ensures.joined;
      taken = subst (λ (cs : List ℕ). Takes g.W.Sink first cs after) (sym (chars-more before.passed run others before.utf8 plain))
          (Takes-append g.W.Sink first c.take_plain.new.self after (chars before.passed ++ run) (chars others)
          (Takes-append g.W.Sink first c.rest.self c.take_plain.new.self (chars before.passed) run before.taken c.take_plain.ensures) c.take_each.ensures);
    }

pub returns-then-is_empty : goal.returns-then-is_empty
returns-then-is_empty g c =
    let first = c.args.self.now in
    let before = c.rest.invariant in
    let run = c.split_front.result.0.now in
    let rest_after = c.split_front.result.1.now in
    let none : rest_after ≡ [] = nil_from_length rest_after (eqb-true (length rest_after) 0 (sym c.is_empty-in-rest.ensures ∙ c.if-is_empty.true)) in
    let all = last-part-taken c.args.text.now before.passed c.rest.rest.now run rest_after before.joined c.split_front.ensures.joined none in
    subst (λ (cs : List ℕ). Takes g.W.Sink first cs c.take_plain.new.self)
    (sym (ap chars all ∙ chars-run before.passed run before.utf8 c.split_front.ensures.each))
    (Takes-append g.W.Sink first c.rest.self c.take_plain.new.self (chars before.passed) run before.taken c.take_plain.ensures)
