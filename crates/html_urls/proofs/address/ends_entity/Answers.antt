-- A letter or digit more, or what stands before them.
use Rattle.std.proofs.Common.{◌≡◌, ℕ, false, List, [], ◌∷◌, ◌++◌, refl, sym, ap, ◌∙◌, append_assoc, append-nil, ne_eqb}
use Rattle.std.proofs.lemmas.List.{nil_from_length}
use Rattle.html_urls.specs.Addresses.{ends_entity}
use Rattle.html_urls.proofs.EntityLemmas.{ends-at, named, ends-other, never-named}
use Rattle.html_urls.proofs.address.ends_entity.Goals as goal

pub rest-init : goal.rest-init
rest-init c = ([], sym (append-nil _), tt, refl)

-- the text, parted at its last character that was looked at
parted : (text rest before behind : List ℕ) (last : ℕ) → text ≡ rest ++ behind → rest ≡ before ++ last ∷ [] → text ≡ before ++ last ∷ behind
parted text rest before behind last joined split = joined ∙ ap (λ (l : List ℕ). l ++ behind) split ∙ append_assoc before (last ∷ []) behind

pub rest-preserved : goal.rest-preserved
rest-preserved c =
    let (behind, joined, each, some) = c.rest.invariant in
    let last = c.in-Some.last.now in (
      last ∷ behind,
      parted c.args.text.now c.rest.rest.now c.in-Some.before.now behind last joined c.in-Some.ensures.cases.0,
      (sym c.is_ascii_alphanumeric.ensures.value ∙ c.if-not-is_ascii_alphanumeric.false, each),
      refl,
    )

pub returns-then-last-eq38 : goal.returns-then-last-eq38
returns-then-last-eq38 c =
    let (behind, joined, each, some) = c.rest.invariant in
    let before = c.in-Some.before.now in
    let whole = parted c.args.text.now c.rest.rest.now before behind c.in-Some.last.now joined c.in-Some.ensures.cases.0 in
    some
    ∙ sym (ap (ends_entity false false) (whole ∙ ap (λ (k : ℕ). before ++ k ∷ behind) c.if-last-eq38.true)
    ∙ ends-at before behind false false ∙ named behind each)

pub returns-then-not-is_ascii_alphanumeric : goal.returns-then-not-is_ascii_alphanumeric
returns-then-not-is_ascii_alphanumeric c =
    let (behind, joined, each, some) = c.rest.invariant in
    let before = c.in-Some.before.now in
    let last = c.in-Some.last.now in
    sym (ap (ends_entity false false) (parted c.args.text.now c.rest.rest.now before behind last joined c.in-Some.ensures.cases.0)
    ∙ ends-other before behind last false false (ne_eqb last 0x26 c.if-last-eq38.false)
    (sym c.is_ascii_alphanumeric.ensures.value ∙ c.if-not-is_ascii_alphanumeric.true) each)

pub returns : goal.returns
returns c =
    let (behind, joined, each, some) = c.rest.invariant in
    let none = nil_from_length c.rest.rest.now c.in_default.ensures.cases in
    sym (ap (ends_entity false false) (joined ∙ ap (λ (l : List ℕ). l ++ behind) none) ∙ never-named behind false each)
