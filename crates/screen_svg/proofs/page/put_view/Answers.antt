use Rattle.std.proofs.Common.{List, ℕ, ◌*◌, codes, sym, subst}
use Rattle.anstyle_parse.specs.Io.Output.{Adds}
use Rattle.anstyle_parse.proofs.Written.Output.{Adds-append}
use Rattle.ansi_html.proofs.DeclarationLemmas.{escaped_text-safe}
use Rattle.screen_svg.specs.Picture.{pair, units_high, corner, view}
use Rattle.screen_svg.proofs.AddsLemmas.{Adds-attribute}
use Rattle.screen_svg.proofs.SafeLemmas.{AreSafe-view}
use Rattle.screen_svg.proofs.page.put_view.Goals as goal

pub returns : goal.returns
returns g c =
    let window = c.args.window in
    let columns = c.args.columns in
    let rows = c.args.rows in
    let value = view window columns rows in
    let begun = c.put.new.self in
    let cornered = c.put-2.new.self in
    let paired = c.put_pair.new.output in
    Adds-attribute g.W.Sink (codes "viewBox") value value c.args.output.now begun paired c.put-3.new.self
    (sym (escaped_text-safe value (AreSafe-view window columns rows))) c.put.ensures
    (Adds-append g.W.Sink (corner window) (pair (10 * columns) (units_high window rows)) begun cornered paired
    (subst (λ (t : List ℕ). Adds g.W.Sink t begun cornered) c.corner.ensures c.put-2.ensures)
    (subst (λ (n : ℕ). Adds g.W.Sink (pair (10 * columns) n) cornered paired) c.units_high.ensures c.put_pair.ensures))
    c.put-3.ensures
