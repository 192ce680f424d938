-- A new parser stands after nothing, which has no calls.
use Rattle.shown_pieces.proofs.WrittenLemmas.{stands-new, received-none}
use Rattle.shown_pieces.proofs.following.Following.new.Goals as goal

pub returns : goal.returns
returns g c = record {
  stands = stands-new c.new.result c.new.ensures.stands;
  received = received-none g.P.PerformText.receives c.args.performer (g.met.P.PerformText.follows.none c.args.performer);
}
