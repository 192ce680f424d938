use Rattle.std.proofs.Common.{List, ℕ, ◌++◌, [], length, eqb-true, refl, sym, ap, ◌∙◌, subst, append_assoc, append-nil}
use Rattle.std.proofs.lemmas.List.{nil_from_length}
use Rattle.anstyle_parse.specs.Stream.Call.{Call}
use Rattle.anstyle_parse.specs.Stream.Texts.{layout_calls}
use Rattle.ansi_strip.specs.Inert.{inert_text}
use Rattle.ansi_strip.proofs.DrivingLemmas.{layout_calls-nil}
use Rattle.strip_pieces.specs.SliceWriter.{Puts}
use Rattle.strip_pieces.specs.PuttingProof.{Puts-nil, Puts-append}
use Rattle.strip_pieces.proofs.SliceWriterLemmas.{inert_text-parts}
use Rattle.strip_pieces.proofs.slice_writer.SliceWriter.put_parts.Goals as goal

pub rest-init : goal.rest-init
rest-init c = (c.utf8.text, [], Puts-nil c.args.self.now, refl)

pub rest-preserved : goal.rest-preserved
rest-preserved c =
    let (utf8, made, puts, are) = c.rest.invariant in
    let inert = c.split_at_driving.result.0.now in
    let behind = c.split_at_driving.result.1.now in
    let parts = inert_text-parts c.rest.rest.now inert behind c.split_at_driving.ensures.front c.split_at_driving.ensures.characters in
    let put = subst (λ (t : List ℕ). Puts t c.rest.self c.put_bytes.new.self) c.as_bytes.ensures.value c.put_bytes.ensures in (
      c.split_at_driving.ensures.text,
      made ++ inert,
      Puts-append made inert c.args.self.now c.rest.self c.put_bytes.new.self puts put,
      are ∙ ap (λ l. made ++ l) parts ∙ sym (append_assoc made inert (inert_text (layout_calls behind))),
    )

pub returns : goal.returns
returns c =
    let (utf8, made, puts, are) = c.rest.invariant in
    let none = layout_calls-nil c.rest.rest.now (nil_from_length c.rest.rest.now (eqb-true (length c.rest.rest.now) 0 (sym c.is_empty.ensures ∙ c.rest-test.false))) in
    subst (λ (t : List ℕ). Puts t c.args.self.now c.rest.self) (sym (are ∙ ap (λ (l : List Call). made ++ inert_text l) none ∙ append-nil made)) puts
