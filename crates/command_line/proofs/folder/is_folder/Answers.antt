use Rattle.std.proofs.Common.{codes}
use Rattle.std.proofs.lemmas.Str.Pattern.{ends_text}
use Rattle.command_line.proofs.folder.is_folder.Goals as goal

pub returns : goal.returns
returns c = ends_text c.ends_with.result (codes "/") c.args.output.now c.ends_with.ensures.cases
