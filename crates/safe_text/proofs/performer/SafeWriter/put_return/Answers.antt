-- It goes before a line feed.
use Rattle.std.proofs.Common.{◌≡◌, true, eqb, refl, sym, subst}
use Rattle.std.proofs.lemmas.Bool.{ne_eqb}
use Rattle.safe_text.proofs.WriterLemmas.{return-gone, return-visible}
use Rattle.safe_text.proofs.performer.SafeWriter.put_return.Goals as goal

pub returns-then-next-ne10 : goal.returns-then-next-ne10
returns-then-next-ne10 g c =
    return-visible g.W.Sink c.args.self.now c.show.new.self c.args.next (ne_eqb c.args.next 0x0A c.if-next-ne10.true) c.requires c.show.ensures.held
    c.show.ensures.before c.show.ensures.added

pub returns-else-next-ne10 : goal.returns-else-next-ne10
returns-else-next-ne10 g c =
    return-gone g.W.Sink c.args.self.now _ c.args.next (subst (λ k. eqb k 0x0A ≡ true) (sym c.if-next-ne10.false) refl) c.requires refl refl refl
