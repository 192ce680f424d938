-- What the front says the whole stream says.
use Rattle.std.proofs.Common.{◌++◌, take, sym, ap, ◌∙◌, subst}
use Rattle.std.specs.Io.KnownBytes.{Consumes}
use Rattle.each_source.specs.Begun.{IsFront}
use Rattle.shared_options.proofs.recording.begun.Goals as goal

pub returns-clause-begun : goal.returns-clause-begun
returns-clause-begun g c =
    let read = c.read_first_line-count.ensures in
    let said = c.recorded-size.ensures in
    let front = take c.read_first_line-count.result c.read_first_line-count.new.piece in
    let same = c.new.ensures.reader in
    record {
      front = front;
      consumed = subst (λ r. Consumes (g.R.Source.remaining c.args.source) (g.R.Source.remaining r) front) (sym same) read.consumed;
      is_front = subst (λ r. IsFront g.R.Source r front) (sym same) read.front;
      says = said.size;
      given = λ rest enough. said.given rest enough ∙ ap (λ l. l ++ rest) (sym c.new.ensures.front);
    }
