use Rattle.ansi_html.proofs.ContrastLemmas.{black_read_on}
use Rattle.ansi_html.proofs.contrast.Rgb.ink.Goals as goal

pub returns-else-is_readable-clause-contrast : goal.returns-else-is_readable-clause-contrast
returns-else-is_readable-clause-contrast c = black_read_on c.args.self cc
