-- ESC, and then the character.
use Rattle.std.specs.Prelude.{encode_utf8}
use Rattle.terminal_keys.specs.Text.{escape_text}
use Rattle.terminal_keys.proofs.text.put_typed.Goals as goal

pub returns : goal.returns
returns g c =
    g.met.T.TakeBytes.joins.more (escape_text c.args.after_escape) (encode_utf8 c.args.character) c.args.to.now c.put_escape.new.to
    c.put_char.new.to c.put_escape.ensures c.put_char.ensures
