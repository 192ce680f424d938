-- A link to the address, and what stands behind it.
use Rattle.std.proofs.Common.{◌≡◌, ◌≤◌, ℕ, Bool, true, List, [], ◌∷◌, ◌++◌, sym, ap, ◌∙◌, subst}
use Rattle.std.specs.Prelude.{◌==◌, count_by}
use Rattle.anstyle_parse.specs.Stream.Bytes.{semicolon}
use Rattle.html_urls.specs.Addresses.{max_separators, address_of, behind_address, target_of, is_link}
use Rattle.html_urls.specs.Linked.{link_command, prints, released_as}
use Rattle.html_urls.proofs.LinkerLemmas.{received-link}
use Rattle.html_urls.proofs.linking.hand_on.Goals as goal

pub select_link-requires : goal.select_link-requires
select_link-requires g c = record {
  few = subst (λ (l : List ℕ). count_by (λ b. b == semicolon) l ≤ max_separators) (sym c.as_slice.ensures.value) c.in-Some.ensures.few;
}

pub returns-in-Some : goal.returns-in-Some
returns-in-Some g c =
    let text = c.args.text.now in
    let address : c.split_address.result.0.now ≡ address_of text = c.split_address.ensures.address in
    let behind : c.split_address.result.1.now ≡ behind_address text = c.split_address.ensures.behind in
    let target : c.as_slice.result.now ≡ target_of (address_of text) = c.as_slice.ensures.value ∙ c.in-Some.ensures.target ∙ ap target_of address in
    let link : is_link text ≡ true = c.in-Some.ensures.link in
    let receives = g.P.PerformText.receives in
    let old = c.args.performer.now in
    let new = c.print_each-in-Some.new.performer in
    let end = link_command [] ∷ prints c.split_address.result.1.now in
    subst (λ (is : Bool). receives old (released_as is (address_of text) (behind_address text) text) new) (sym link)
    (subst (λ (l : List ℕ). receives old (released_as true (address_of text) l text) new) behind
    (subst (λ (l : List ℕ). receives old (link_command l ∷ prints (address_of text) ++ end) new) target
    (subst (λ (l : List ℕ). receives old (link_command c.as_slice.result.now ∷ prints l ++ end) new) address
    (received-link receives g.met.P.PerformText.follows.more old c.select_link.new.performer c.print_each.new.performer
    c.select_link-in-Some.new.performer new c.as_slice.result.now c.split_address.result.0.now c.split_address.result.1.now
    c.select_link.ensures c.print_each.ensures c.select_link-in-Some.ensures c.print_each-in-Some.ensures))))
