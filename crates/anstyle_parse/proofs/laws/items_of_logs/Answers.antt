use Rattle.std.proofs.Common.{sym, ap, ◌∙◌}
use Rattle.anstyle_parse.specs.Laws.LogItems.{read_items, read_items_whole}
use Rattle.anstyle_parse.proofs.Division.Grow.{nothing}
use Rattle.anstyle_parse.proofs.LogDivision.Grow.{divide_log, divided}
use Rattle.anstyle_parse.proofs.LogDivision.Only.{IsLogDivision-only}
use Rattle.anstyle_parse.proofs.LogDivision.Read.{read-divided, read_whole-divided}
use Rattle.anstyle_parse.proofs.laws.items_of_logs.Goals as goal

pub returns-clause-some : goal.returns-clause-some
returns-clause-some c = λ log. (divide_log nothing log, divided nothing log tt tt)

pub returns-clause-only : goal.returns-clause-only
returns-clause-only c = λ log items others is too. IsLogDivision-only others log too ∙ sym (IsLogDivision-only items log is)

pub returns-clause-read : goal.returns-clause-read
returns-clause-read c = λ log items is. read-divided log ∙ ap read_items (sym (IsLogDivision-only items log is))

pub returns-clause-read_end : goal.returns-clause-read_end
returns-clause-read_end c = λ log items is. read_whole-divided log ∙ ap read_items_whole (sym (IsLogDivision-only items log is))
