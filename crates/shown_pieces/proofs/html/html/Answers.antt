-- Addresses are links, or as they are.
use Rattle.std.proofs.Common.{sym, subst}
use Rattle.std.specs.Prelude.{IfSome}
use Rattle.shown_pieces.specs.Shown.{seen, kept, linked_where, html_in, IsTextOf}
use Rattle.shown_pieces.proofs.html.html.Goals as goal

pub returns-then-how : goal.returns-then-how
returns-then-how c =
    let how = c.args.how in
    subst (λ t. IfSome c.linked.result (λ written. IsTextOf (λ calls. html_in how.has_lines c.args.styling (linked_where t (kept how.no_hidden (seen c.args.screen calls)))) c.args.log.now written.items))
    (sym c.if-how.true) c.linked.ensures

pub returns-else-how : goal.returns-else-how
returns-else-how c =
    let how = c.args.how in
    subst (λ t. IfSome c.unlinked.result (λ written. IsTextOf (λ calls. html_in how.has_lines c.args.styling (linked_where t (kept how.no_hidden (seen c.args.screen calls)))) c.args.log.now written.items))
    (sym c.if-how.false) c.unlinked.ensures
