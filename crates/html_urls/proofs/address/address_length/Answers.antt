-- One character less, where more than the address stands in the text.
use Rattle.std.proofs.Common.{◌≡◌, ◌-◌, ℕ, List, [], ◌∷◌, ◌++◌, length, refl, sym, ap, ◌∙◌, append_assoc, append-nil, arith}
use Rattle.html_urls.specs.Addresses.{address_length}
use Rattle.html_urls.proofs.AddressLemmas.{address_length-less, address_length-whole, past-is, length-front, parts-before}
use Rattle.html_urls.proofs.address.address_length.Goals as goal

pub front-init : goal.front-init
front-init c = ([], sym (append-nil _), refl, refl)

pub returns-then-not-goes_past-clause-length : goal.returns-then-not-goes_past-clause-length
returns-then-not-goes_past-clause-length c =
    let (behind, joined, parted, same) = c.front.invariant in
    let text = c.args.text.now in
    let front = c.front.front.now in
    let split = c.in-Some.ensures.cases.0 in
    let long = length-front text front behind c.in-Some.before.now c.in-Some.last.now c.front.is_parted joined split parted in
    let past = past-is text front behind c.in-Some.before.now c.in-Some.last.now c.front.is_parted joined split parted in
    sym (same ∙ address_length-whole (length front) text (omega (arith, long)) (past ∙ sym c.goes_past.ensures ∙ c.if-not-goes_past.true))

pub front-preserved : goal.front-preserved
front-preserved c =
    let (behind, joined, parted, same) = c.front.invariant in
    let text = c.args.text.now in
    let front = c.front.front.now in
    let before = c.in-Some.before.now in
    let last = c.in-Some.last.now in
    let split = c.in-Some.ensures.cases.0 in
    let long = length-front text front behind before last c.front.is_parted joined split parted in
    let past = past-is text front behind before last c.front.is_parted joined split parted in
    let less : length front - 1 ≡ length before = omega (arith, long) in (
      last ∷ behind,
      joined ∙ ap (λ (l : List ℕ). l ++ behind) split ∙ append_assoc before (last ∷ []) behind,
      c.parts_entity-is_parted.ensures ∙ parts-before text front behind before last c.front.is_parted joined split parted,
      same ∙ address_length-less (length front) text (omega (arith, long)) (past ∙ sym c.goes_past.ensures ∙ c.if-not-goes_past.false)
          ∙ ap (λ (k : ℕ). address_length k text) less,
    )
