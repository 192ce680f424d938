-- A byte more, and no more.
use Rattle.std.proofs.Common.{ℕ, List, [], ◌∷◌, ◌++◌, refl, sym, ap, ◌∙◌, subst, append_assoc, append-nil}
use Rattle.ansi_strip.specs.LineFeeds.{waiting, decided}
use Rattle.strip_pieces.specs.Lines.{held_in}
use Rattle.strip_pieces.specs.SliceWriter.{Puts}
use Rattle.strip_pieces.specs.PuttingProof.{Puts-append}
use Rattle.strip_pieces.proofs.LineLemmas.{nothing-put, nothing-held, decided-both, waiting-both}
use Rattle.strip_pieces.proofs.lines.LineState.take.Goals as goal

pub rest-init : goal.rest-init
rest-init c = ([], refl, nothing-put c.args.self.now c.args.lines.now, nothing-held c.args.self.now)

pub rest-preserved : goal.rest-preserved
rest-preserved c =
    let (passed, joined, puts, holds) = c.rest.invariant in
    let old = c.args.self.now in
    let middle = c.rest.self in
    let byte = c.in-Some.first.now in
    let behind = c.in-Some.behind.now in (
      passed ++ byte ∷ [],
      joined ∙ ap (λ l. passed ++ l) c.in-Some.ensures.cases.0 ∙ sym (append_assoc passed (byte ∷ []) behind),
      subst (λ t. Puts t c.args.lines.now c.take_byte.new.lines) (sym (decided-both old middle passed (byte ∷ []) holds))
          (Puts-append (decided (held_in old ++ passed)) (decided (held_in middle ++ byte ∷ [])) c.args.lines.now c.rest.lines c.take_byte.new.lines puts c.take_byte.ensures.puts),
      c.take_byte.ensures.held ∙ sym (waiting-both old middle passed (byte ∷ []) holds),
    )
