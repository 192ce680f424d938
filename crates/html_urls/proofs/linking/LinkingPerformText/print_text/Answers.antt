-- In a link of the stream's own a text is handed on as it is.
use Rattle.std.proofs.Common.{List, sym, subst}
use Rattle.std.specs.Str.{chars}
use Rattle.anstyle_parse.specs.Stream.Call.{Call}
use Rattle.html_urls.specs.Linker.{performer_in, standing_of}
use Rattle.html_urls.proofs.ClearLemmas.{handed-linked, standing-linked}
use Rattle.html_urls.proofs.linking.LinkingPerformText.print_text.Goals as goal

pub returns-then-self : goal.returns-then-self
returns-then-self g c =
    let it = c.args.self.now in
    let cs = chars c.args.text.now in
    record {
      standing = sym (standing-linked cs (standing_of it) c.if-self.true);
      received = subst (λ (calls : List Call). g.P.PerformText.receives (performer_in it) calls c.print_text.new.self) (sym (handed-linked cs (standing_of it) c.if-self.true)) c.print_text.ensures;
    }
