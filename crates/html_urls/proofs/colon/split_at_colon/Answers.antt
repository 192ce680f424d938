-- The first colon parts the text.
use Rattle.std.proofs.Common.{◌≡◌, ◌+◌, ◌-◌, ◌++◌, ◌∷◌, length, length-append, take, drop, arith, subst, sym, ap, ap₂, ◌∙◌}
use Rattle.std.specs.Str.{IsCharBoundary}
use Rattle.anstyle_parse.proofs.Characters.Layout.{front-parted, back-parted, IsCharBoundary-parted}
use Rattle.html_urls.specs.Colon.{AreAtColon}
use Rattle.html_urls.proofs.colon.split_at_colon.Goals as goal

pub range_from-requires : goal.range_from-requires
range_from-requires c = λ _.
    let text = c.args.text.now in
    let b = c.in-Some.field-0-0.now in
    let more = c.in-Some.field-0-1.now in
    let passed = c.from_colon-rest.ensures.passed in
    let rest = c.in-Some.ensures.cases.0 in
    let joined = sym c.as_bytes-bytes.ensures.value ∙ c.from_colon-rest.ensures.joined ∙ ap (λ l. passed ++ l) rest in
    let is : b ≡ 0x3A = subst AreAtColon rest c.from_colon-rest.ensures.at in
    let at : length passed + 1 ≡ length c.as_bytes-bytes.result.now - length c.from_colon-rest.result.now + 1 =
    omega (arith, ap length c.from_colon-rest.ensures.joined, length-append passed c.from_colon-rest.result.now) in
    subst (IsCharBoundary text) at (IsCharBoundary-parted text passed b more joined c.utf8.text (omega (arith, is)))

pub returns-in-Some-clause-found : goal.returns-in-Some-clause-found
returns-in-Some-clause-found c =
    let text = c.args.text.now in
    let b = c.in-Some.field-0-0.now in
    let more = c.in-Some.field-0-1.now in
    let passed = c.from_colon-rest.ensures.passed in
    let rest = c.in-Some.ensures.cases.0 in
    let is : b ≡ 0x3A = subst AreAtColon rest c.from_colon-rest.ensures.at in
    let joined = sym c.as_bytes-bytes.ensures.value ∙ c.from_colon-rest.ensures.joined ∙ ap (λ l. passed ++ l) rest in
    let at : length passed ≡ length c.as_bytes-bytes.result.now - length c.from_colon-rest.result.now =
    omega (arith, ap length c.from_colon-rest.ensures.joined, length-append passed c.from_colon-rest.result.now) in
    let front : c.range.result.now ≡ passed =
    c.range.ensures.value ∙ ap (λ n. take n text) (omega (arith, at)) ∙ front-parted text passed b more joined in
    let back : c.range_from.result.now ≡ more =
    c.range_from.ensures.value ∙ ap (λ n. drop (n + 1) text) (sym at) ∙ back-parted text passed b more joined in
    joined ∙ ap (λ n. passed ++ n ∷ more) is ∙ ap₂ (λ x y. x ++ 0x3A ∷ y) (sym front) (sym back)
