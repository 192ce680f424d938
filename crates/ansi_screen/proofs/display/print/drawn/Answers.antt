-- A character of the table.
use Rattle.std.proofs.Common.{refl}
use Rattle.std.proofs.lemmas.Bool.{le-leb}
use Rattle.anstyle_parse.specs.Stream.Bytes.{is_within}
use Rattle.ansi_screen.specs.Print.{drawn}
use Rattle.ansi_screen.proofs.display.print.drawn.Goals as goal

pub returns-then-c-le126 : goal.returns-then-c-le126
unfolding drawn is_within
returns-then-c-le126 c = rw (c.from.ensures, le-leb 95 c.args.c c.if-c-ge95.true, le-leb c.args.c 126 c.if-c-le126.true) refl
