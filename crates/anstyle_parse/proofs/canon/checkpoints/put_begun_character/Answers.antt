use Rattle.std.proofs.Common.{sym, subst}
use Rattle.anstyle_parse.specs.declared.utf8.Front.{Front}
use Rattle.anstyle_parse.specs.Views.Front.{bytes_of}
use Rattle.anstyle_parse.specs.Io.Output.{Adds}
use Rattle.anstyle_parse.proofs.Written.Output.{Adds-nil}
use Rattle.anstyle_parse.proofs.canon.checkpoints.put_begun_character.Goals as goal

pub returns-in-Empty : goal.returns-in-Empty
returns-in-Empty g c =
    let out = c.args.output.now in
    let Q : Front → Type 0 = λ front. Adds g.W.Sink (bytes_of front) out out in
    subst Q (sym c.in-Empty.is) (Adds-nil g.W.Sink out)
