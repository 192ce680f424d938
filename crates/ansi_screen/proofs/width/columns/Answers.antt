-- The table has the columns of each character.
use Rattle.std.proofs.Common.{◌≤◌, sym, subst}
use Rattle.ansi_screen.proofs.TableLemmas.{table, columns-le}
use Rattle.ansi_screen.proofs.width.columns.Goals as goal

pub looked_up-requires : goal.looked_up-requires
looked_up-requires c = table

pub returns-clause-few : goal.returns-clause-few
returns-clause-few c = subst (λ n. n ≤ 2) (sym c.looked_up.ensures) (columns-le c.args.c)
