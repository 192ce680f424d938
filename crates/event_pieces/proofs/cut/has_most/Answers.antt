-- The parts are one more than what parts them, and have the other bytes.
use Rattle.std.proofs.Common.{◌+◌, ◌-◌, ◌==◌, length, inl, inr, sym, ◌∙◌, arith}
use Rattle.std.proofs.lemmas.Bool.{true≢false, le-leb, leb-true, leb-false}
use Rattle.std.proofs.lemmas.List.Splits.{length-slice_split}
use Rattle.anstyle_parse.specs.Stream.Bytes.{semicolon}
use Rattle.event_pieces.proofs.CutLemmas.{parts-counted}
use Rattle.event_pieces.proofs.cut.has_most.Goals as goal

pub returns-then-separators-ge-MOST_PARTS : goal.returns-then-separators-ge-MOST_PARTS
returns-then-separators-ge-MOST_PARTS c =
    let text = c.args.text.now in
    let separators = c.separators-separators.result in
    let parts = length-slice_split (λ b. b == semicolon) text in
    record {
      many = λ e. inl (omega (arith, parts, c.separators-separators.ensures, c.if-separators-ge-MOST_PARTS.true));
      few = λ e. absurd (true≢false (sym (le-leb _ _ (omega (arith, c.if-separators-ge-MOST_PARTS.true))) ∙ e));
    }

pub returns-else-separators-ge-MOST_PARTS : goal.returns-else-separators-ge-MOST_PARTS
returns-else-separators-ge-MOST_PARTS c =
    let text = c.args.text.now in
    let left = length text - c.separators-separators.result in
    let parts = length-slice_split (λ b. b == semicolon) text in
    let counted = parts-counted text in
    record {
      many = λ e. inr (omega (arith, parts, counted, c.separators-separators.ensures, leb-true _ _ e));
      few = λ e. (
        omega (arith, parts, c.separators-separators.ensures, c.if-separators-ge-MOST_PARTS.false),
        omega (arith, parts, counted, c.separators-separators.ensures, leb-false _ _ e),
      );
    }
