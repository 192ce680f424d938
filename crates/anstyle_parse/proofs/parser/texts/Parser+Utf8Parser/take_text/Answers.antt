use Rattle.std.proofs.Common.{inr, refl, take, subst}
use Rattle.anstyle_parse.specs.Stream.Texts.{layout_calls}
use Rattle.anstyle_parse.proofs.Machine.Texts.{LeadsByTextTo-text, IsTextAt-front}
use Rattle.anstyle_parse.proofs.parser.texts.Parser+Utf8Parser.take_text.Goals as goal

pub returns-in-Some-text_at-clause-leads : goal.returns-in-Some-text_at-clause-leads
returns-in-Some-text_at-clause-leads g c =
    let n = g.P.PerformText in
    let m = g.met.P.PerformText in
    LeadsByTextTo-text g.P.Perform.means n.receives m.follows c.args.self.now c.args.performer.now c.print_with_layout.new.self
    c.args.bytes.now c.in-Some-text_at.text.now c.in-Some-text_at.further.now c.in-Some-text_at.ensures c.print_with_layout.ensures

pub returns-then-is_between_characters-clause-leads : goal.returns-then-is_between_characters-clause-leads
returns-then-is_between_characters-clause-leads g c =
    let n = g.P.PerformText in
    let m = g.met.P.PerformText in
    let chunk = c.in-Some-split_first_chunk.chunk.now in
    let left = c.split_at.result.1.now in
    let count = c.text_count-count.result in
    let after = c.print_padded.new.self in
    let stands = IsTextAt-front c.args.self.now c.args.bytes.now chunk left count c.requires (c.if-is_between_characters.ensures refl)
    (c.if-are_ended.ensures.some refl) (c.if-are_ended.ensures.within refl) c.in-Some-split_first_chunk.ensures.cases.0 c.text_count-count.ensures.text c.split_at.ensures.back in
    let received = subst (λ text. n.receives c.args.performer.now (layout_calls text) after) c.new.ensures c.print_padded.ensures in
    LeadsByTextTo-text g.P.Perform.means n.receives m.follows c.args.self.now c.args.performer.now after
    c.args.bytes.now (take count chunk) left stands received

pub returns-then-is_between_characters-clause-taken : goal.returns-then-is_between_characters-clause-taken
returns-then-is_between_characters-clause-taken g c =
    let chunk = c.in-Some-split_first_chunk.chunk.now in
    let left = c.split_at.result.1.now in
    let count = c.text_count-count.result in
    let stands = IsTextAt-front c.args.self.now c.args.bytes.now chunk left count c.requires (c.if-is_between_characters.ensures refl)
    (c.if-are_ended.ensures.some refl) (c.if-are_ended.ensures.within refl) c.in-Some-split_first_chunk.ensures.cases.0 c.text_count-count.ensures.text c.split_at.ensures.back in
    let received = subst (λ text. g.P.PerformText.receives c.args.performer.now (layout_calls text) c.print_padded.new.self) c.new.ensures c.print_padded.ensures in
    inr (take count chunk, stands, received)
