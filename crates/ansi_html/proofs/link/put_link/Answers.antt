use Rattle.std.proofs.Common.{Bool, ◌&&◌, [], sym, ap, ap₂, ◌∙◌}
use Rattle.std.specs.Prelude.{if◌then◌else◌}
use Rattle.ansi_html.specs.Links.{is_linkable, uri_of, link_of}
use Rattle.ansi_html.proofs.LinkLemmas.{texts}
use Rattle.ansi_html.proofs.link.put_link.Goals as goal

pub returns-then-not-is_linkable : goal.returns-then-not-is_linkable
unfolding link_of
returns-then-not-is_linkable c =
    let parts = texts c.args.parts.now in
    let uri = c.as_slice.ensures ∙ c.put_uri.ensures in
    let whole = sym c.is_whole.ensures ∙ c.if-is_whole.true in
    let other = sym (ap is_linkable uri) ∙ sym c.is_linkable.ensures ∙ c.if-not-is_linkable.true in
    c.clear-then-not-is_linkable.ensures ∙ sym (ap₂ (λ (x y : Bool). if x && y then uri_of parts else []) whole other)

pub returns-else-not-is_linkable : goal.returns-else-not-is_linkable
unfolding link_of
returns-else-not-is_linkable c =
    let parts = texts c.args.parts.now in
    let uri = c.as_slice.ensures ∙ c.put_uri.ensures in
    let whole = sym c.is_whole.ensures ∙ c.if-is_whole.true in
    let is = sym (ap is_linkable uri) ∙ sym c.is_linkable.ensures ∙ c.if-not-is_linkable.false in
    c.put_uri.ensures ∙ sym (ap₂ (λ (x y : Bool). if x && y then uri_of parts else []) whole is)

pub returns-else-is_whole : goal.returns-else-is_whole
unfolding link_of
returns-else-is_whole c =
    let parts = texts c.args.parts.now in
    let cut = sym c.is_whole.ensures ∙ c.if-is_whole.false in
    c.clear.ensures ∙ sym (ap (λ (x : Bool). if x && is_linkable (uri_of parts) then uri_of parts else []) cut)
