-- The characters so far are written.
use Rattle.std.specs.List.{flat_map}
use Rattle.terminal_keys.specs.Paste.{pasted_character}
use Rattle.terminal_keys.proofs.paste.put_pasted.Given as goal

abbrev pub invariant-loop-character : goal.invariant-loop-character
invariant-loop-character g l = g.T.TakeBytes.takes (flat_map pasted_character l.yielded) l.initial.to l.to
