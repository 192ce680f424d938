-- The text before the first layout is added, and then each control and the text behind it.
use Rattle.std.proofs.Common.{◌≡◌, ◌<◌, ◌+◌, ◌-◌, [], ◌∷◌, length, take, drop, get_or, sym, ap, ◌∙◌, subst, arith, take_all, length-drop}
use Rattle.std.specs.Str.{IsUtf8}
use Rattle.anstyle_parse.specs.Stream.Call.{execute}
use Rattle.anstyle_parse.specs.Stream.Texts.{text_calls, layout_calls}
use Rattle.event_pieces.specs.Writer.{Adds}
use Rattle.event_pieces.proofs.Divided.{IsUtf8-before, Adds-before, IsUtf8-behind, ends-behind, Adds-further}
use Rattle.event_pieces.proofs.writer.EventWriterPerformText.print_padded.Goals as goal

pub put_padded_text-requires : goal.put_padded_text-requires
put_padded_text-requires c = record {
  text = subst IsUtf8 (sym c.first.ensures) (IsUtf8-before c.args.text.now c.requires.text c.before_layout-at.result);
}

pub put_padded_text-requires-in-layout : goal.put_padded_text-requires-in-layout
put_padded_text-requires-in-layout c =
    let text = c.args.text.now in
    let all = c.as_bytes-all.result.now in
    let at = c.layout.at in
    let moved = c.from_place-moved.result in
    let left : length all - at - 1 ≡ length text - (at + 1) = omega (arith, ap length c.as_bytes-all.ensures) in
    let are : c.new-behind.result ≡ drop (at + 1) text = c.new-behind.ensures ∙ ap (λ n. take n moved) left ∙ c.from_place-moved.ensures in
    let short : at < length text = omega (arith, c.layout-test.true, ap length c.as_bytes-all.ensures) in
    record {
      text = subst IsUtf8 (sym c.first-in-layout.ensures)
          (IsUtf8-behind text c.requires.text at c.before_layout-shown.result c.new-behind.result short are);
    }

pub layout-preserved : goal.layout-preserved
layout-preserved c =
    let text = c.args.text.now in
    let all = c.as_bytes-all.result.now in
    let at = c.layout.at in
    let moved = c.from_place-moved.result in
    let behind = c.new-behind.result in
    let n = c.before_layout-shown.result in
    let same = c.as_bytes-all.ensures in
    let left : length all - at - 1 ≡ length text - (at + 1) = omega (arith, ap length same) in
    let are : behind ≡ drop (at + 1) text = c.new-behind.ensures ∙ ap (λ n. take n moved) left ∙ c.from_place-moved.ensures in
    let short : at < length text = omega (arith, c.layout-test.true, ap length same) in
    let executed = subst (λ l. Adds (execute (get_or l at 0) ∷ []) c.layout.self c.execute.new.self) same c.execute.ensures in
    let printed = subst (λ t. Adds (text_calls t) c.execute.new.self c.put_padded_text-in-layout.new.self) c.first-in-layout.ensures c.put_padded_text-in-layout.ensures in
    record {
      within = omega (arith, short, c.before_layout-shown.ensures.within, ap length are, length-drop (at + 1) text);
      ends = ends-behind text c.requires.text at n behind short are c.before_layout-shown.ensures.ends;
      added = λ first adds.
          Adds-further text c.requires.text at n behind short are first c.layout.self c.execute.new.self c.put_padded_text-in-layout.new.self
          (c.layout.invariant.added first adds) (c.layout.invariant.ends short) executed c.before_layout-shown.ensures.shown printed;
    }

pub returns : goal.returns
returns c =
    let text = c.args.text.now in
    let n = c.before_layout-at.result in
    let put = subst (λ t. Adds (text_calls t) c.args.self.now c.put_padded_text.new.self) c.first.ensures c.put_padded_text.ensures in
    let first = Adds-before text c.requires.text n c.args.self.now c.put_padded_text.new.self c.before_layout-at.ensures.shown put in
    let whole : take c.layout.at text ≡ text = take_all c.layout.at text (omega (arith, c.layout-test.false, ap length c.as_bytes-all.ensures)) in
    subst (λ t. Adds (layout_calls t) c.args.self.now c.layout.self) whole (c.layout.invariant.added c.args.self.now first)
