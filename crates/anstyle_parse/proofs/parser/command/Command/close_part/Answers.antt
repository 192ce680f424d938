-- The bytes after the closed parts become a part, where there are fewer than sixteen.
use Rattle.std.proofs.Common.{◌≡◌, ◌+◌, ◌-◌, length, take, set, arith, ap, sym, ◌∙◌}
use Rattle.std.proofs.lemmas.List.{drop_all}
use Rattle.anstyle_parse.specs.Stream.Groups.{cut, total}
use Rattle.anstyle_parse.specs.Views.Command.{texting_of}
use Rattle.anstyle_parse.proofs.Arguments.Lengths.{total_closed, cut_closed, parts_count}
use Rattle.anstyle_parse.proofs.Machine.Steps.{same_parts, with_part-room}
use Rattle.anstyle_parse.proofs.parser.command.Command.close_part.Goals as goal

pub invariant_of-self : goal.invariant_of-self
invariant_of-self c =
    let p = c.args.self.now in
    record {
      few_parts = omega arith;
      closed_parts = ap (λ n. total (take (p.parts + 1) (set p.lengths p.parts (n - p.closed)))) c.len-end.ensures.value
          ∙ total_closed p.text.items p.lengths p.parts p.closed p.closed_parts p.parts_in_text (omega arith) ∙ sym c.len-end.ensures.value;
      parts_in_text = omega arith;
      text_fits = p.text_fits;
    }

pub returns-then-self-lt-MAX_OSC_PARTS : goal.returns-then-self-lt-MAX_OSC_PARTS
returns-then-self-lt-MAX_OSC_PARTS c =
    let p = c.args.self.now in
    let m = texting_of p in
    let count : length (cut (take p.parts p.lengths) p.text.items) ≡ p.parts
    = parts_count p.text.items p.lengths p.parts p.closed p.closed_parts p.parts_in_text (omega arith) in
    same_parts m
    (ap (λ n. cut (take (p.parts + 1) (set p.lengths p.parts (n - p.closed))) p.text.items) c.len-end.ensures.value
    ∙ cut_closed p.text.items p.lengths p.parts p.closed p.closed_parts p.parts_in_text (omega arith))
    (drop_all c.len-end.result p.text.items (omega (arith, c.len-end.ensures.value)))
    ∙ sym (with_part-room m (λ h. omega (arith, count, h)))
