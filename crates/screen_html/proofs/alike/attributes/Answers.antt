-- Each attribute as a byte.
use Rattle.std.proofs.Common.{◌∙◌}
use Rattle.screen_html.proofs.AlikeLemmas.{bytes-are}
use Rattle.screen_html.proofs.alike.attributes.Goals as goal

pub returns : goal.returns
returns c = c.from_le_bytes.ensures ∙ bytes-are c.args.style.now
