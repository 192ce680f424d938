-- The sequence is lawful.
use Rattle.screen_draw.proofs.DrawLemmas.{draws-style}
use Rattle.screen_draw.proofs.calls.put_style.Goals as goal

pub returns : goal.returns
returns g c = draws-style g.W.Sink c.args.style _ _ c.write_codes.ensures.text c.write_codes.ensures.lawful
