use Rattle.std.proofs.Common.{◌≡◌, ◌≤◌, ◌+◌, ◌++◌, List, ℕ, length, take, drop, ap, arith, sym, subst, ◌∙◌}
use Rattle.std.proofs.lemmas.List.{take-take}
use Rattle.anstyle_parse.specs.Stream.Bytes.{is_plain_text}
use Rattle.anstyle_parse.specs.Stream.Groups.{cut}
use Rattle.anstyle_parse.specs.Stream.Items.{EachIs}
use Rattle.anstyle_parse.specs.Views.Command.{texting_of}
use Rattle.anstyle_parse.proofs.Arguments.Lengths.{stored_total}
use Rattle.anstyle_parse.proofs.Machine.Steps.{same_parts}
use Rattle.anstyle_parse.proofs.Arguments.Stored.{on_ok, cut_longer, drop_longer}
use Rattle.anstyle_parse.proofs.parser.command.Command.put_plain.Goals as goal

pub returns : goal.returns
returns c =
    let p = c.args.self.now in
    let bytes = c.args.bytes.now in
    let text = c.split_at-2.result.0.now in
    let k = c.plain_length.result in
    let room : k ≤ c.min-room.result = omega (arith, c.plain_length.ensures.within, c.split_at.ensures.front_len) in
    let front : take k c.split_at.result.0.now ≡ text =
    ap (λ xs. take k xs) c.split_at.ensures.front ∙ take-take k c.min-room.result bytes room ∙ sym c.split_at-2.ensures.front in
    let Q : List ℕ → Type 0 = λ xs. EachIs is_plain_text xs in
    let fits : length p.text.items + length text ≤ 1024 = omega (arith, c.remaining_capacity.ensures, c.min-room.ensures, c.split_at-2.ensures.front_len) in
    let stored = on_ok (c.try_extend_from_slice.new.self.items ≡ p.text.items ++ text) c.try_extend_from_slice.result (c.try_extend_from_slice.ensures.variant.1 fits) c.try_extend_from_slice.ensures.ok in
    let total = stored_total p.text.items p.lengths p.parts p.closed p.closed_parts p.parts_in_text in
    record {
      text = text;
      whole = c.split_at-2.ensures.by_index.0;
      plain = subst Q front c.plain_length.ensures.plain;
      room = omega (arith, total, fits);
      stored = same_parts (texting_of p)
          (ap (λ t. cut (take p.parts p.lengths) t) stored ∙ cut_longer p.text.items p.lengths text p.parts p.closed p.closed_parts p.parts_in_text)
          (ap (λ t. drop p.closed t) stored ∙ drop_longer p.text.items p.lengths text p.parts p.closed p.closed_parts p.parts_in_text);
    }
