use Rattle.std.proofs.Common.{ap, length, arith}
use Rattle.std.specs.List.{prefix_len}
use Rattle.std.proofs.lemmas.List.{length-drop}
use Rattle.std.proofs.lemmas.List.Sums.{prefix_len-le-length}
use Rattle.ansi_html.specs.Verbatim.{is_verbatim}
use Rattle.ansi_html.proofs.verbatim.verbatim_length.Goals as goal

pub returns : goal.returns
returns c =
    let bytes = c.args.bytes.now in
    omega (arith, prefix_len-le-length is_verbatim bytes, ap length c.after_front.ensures, length-drop (prefix_len is_verbatim bytes) bytes)
