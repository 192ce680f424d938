-- Each of them is a joiner.
use Rattle.std.proofs.Common.{refl}
use Rattle.safe_text.specs.Classes.{is_joiner}
use Rattle.safe_text.proofs.performer.SafeWriter.release.Goals as goal

pub put_joiner-requires-clause-joiner : goal.put_joiner-requires-clause-joiner
unfolding is_joiner
put_joiner-requires-clause-joiner g c = refl

pub put_joiner-requires-in-NonJoiner-clause-joiner : goal.put_joiner-requires-in-NonJoiner-clause-joiner
unfolding is_joiner
put_joiner-requires-in-NonJoiner-clause-joiner g c = refl

pub put_joiner-requires-in-Joiner-clause-joiner : goal.put_joiner-requires-in-Joiner-clause-joiner
unfolding is_joiner
put_joiner-requires-in-Joiner-clause-joiner g c = refl

pub put_joiner-requires-in-TextSelector-clause-joiner : goal.put_joiner-requires-in-TextSelector-clause-joiner
unfolding is_joiner
put_joiner-requires-in-TextSelector-clause-joiner g c = refl

pub put_joiner-requires-in-EmojiSelector-clause-joiner : goal.put_joiner-requires-in-EmojiSelector-clause-joiner
unfolding is_joiner
put_joiner-requires-in-EmojiSelector-clause-joiner g c = refl
