-- What is written of each source, as rows leave and then at the end, is joined.
use Rattle.std.proofs.Common.{ℕ, List, [], subst}
use Rattle.std.proofs.Math.Path.{fun_ext}
use Rattle.each_source.specs.Each.{Given, WritesEach}
use Rattle.screen_calls.specs.Begin.{size_of}
use Rattle.ansi2text.proofs.VisibleLemmas.{safe-written}
use Rattle.ansi2text.proofs.show_visible_safe.Goals as goal

pub returns : goal.returns
returns g c =
    subst (λ (text : Given → List ℕ). WritesEach g.R.Source g.W.Sink text ([], []) c.args.readers.now c.write_each.new.readers c.args.output c.write_each.result)
    (fun_ext (λ given. safe-written (size_of c.new-showing.result) c.args.size c.new-showing.ensures.size given)) c.write_each.ensures.joined
