-- The text is full at 1024 bytes, closed parts included.
use Rattle.std.proofs.Common.{◌≡◌, length, take, drop, ap, sym, ◌∙◌, eqb-true}
use Rattle.std.proofs.lemmas.Bool.{eqb-false}
use Rattle.anstyle_parse.specs.Stream.Groups.{cut}
use Rattle.anstyle_parse.specs.Views.Command.{texting_of}
use Rattle.anstyle_parse.proofs.Arguments.Lengths.{stored_total, cut_stored, drop_stored}
use Rattle.anstyle_parse.proofs.Machine.Steps.{same_parts, storing-full, storing-separator, storing-other}
use Rattle.anstyle_parse.proofs.parser.command.Command.put.Goals as goal

pub returns-then-is_full : goal.returns-then-is_full
returns-then-is_full c =
    let p = c.args.self.now in
    let total = stored_total p.text.items p.lengths p.parts p.closed p.closed_parts p.parts_in_text in
    let full : length p.text.items ≡ 1024 = eqb-true (length p.text.items) 1024 (sym (c.is_full.ensures.value) ∙ c.if-is_full.true) in
    sym (storing-full (texting_of p) c.args.byte (total ∙ full))

pub returns-then-byte-eq59 : goal.returns-then-byte-eq59
returns-then-byte-eq59 c =
    let p = c.args.self.now in
    let total = stored_total p.text.items p.lengths p.parts p.closed p.closed_parts p.parts_in_text in
    let room : length p.text.items ≡ 1024 → ⊥ = eqb-false (length p.text.items) 1024 (sym (c.is_full.ensures.value) ∙ c.if-is_full.false) in
    c.close_part.ensures ∙ sym (storing-separator (texting_of p) c.args.byte (λ h. room (sym total ∙ h)) c.if-byte-eq59.true)

pub returns-else-byte-eq59 : goal.returns-else-byte-eq59
returns-else-byte-eq59 c =
    let p = c.args.self.now in
    let total = stored_total p.text.items p.lengths p.parts p.closed p.closed_parts p.parts_in_text in
    let room : length p.text.items ≡ 1024 → ⊥ = eqb-false (length p.text.items) 1024 (sym (c.is_full.ensures.value) ∙ c.if-is_full.false) in
    same_parts (texting_of p)
    (ap (λ t. cut (take p.parts p.lengths) t) c.push.ensures.items ∙ cut_stored p.text.items p.lengths p.parts p.closed p.closed_parts p.parts_in_text c.args.byte)
    (ap (λ t. drop p.closed t) c.push.ensures.items ∙ drop_stored p.text.items p.lengths p.parts p.closed p.closed_parts p.parts_in_text c.args.byte)
    ∙ sym (storing-other (texting_of p) c.args.byte (λ h. room (sym total ∙ h)) c.if-byte-eq59.false)
