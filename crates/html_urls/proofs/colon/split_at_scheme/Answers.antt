-- What is left ends with a character that is none of a scheme.
use Rattle.std.proofs.Common.{◌≡◌, ◌+◌, true, List, ℕ, [], ◌∷◌, ◌++◌, length, take, refl, sym, ap, ap₂, ◌∙◌, subst, append_assoc, append-nil, take-append-drop, inr}
use Rattle.std.specs.Prelude.{not, nat_lt}
use Rattle.std.specs.Str.{IsUtf8, IsCharBoundary}
use Rattle.std.proofs.lemmas.Bool.{and_parts, ltb-true}
use Rattle.std.proofs.lemmas.List.{take_at}
use Rattle.std.proofs.lemmas.Str.{IsUtf8-take}
use Rattle.anstyle_parse.proofs.Characters.Layout.{IsCharBoundary-parted}
use Rattle.html_urls.specs.Colon.{is_of_scheme, is_end}
use Rattle.html_urls.proofs.colon.split_at_scheme.Goals as goal

-- a text that is parted behind such a character
boundary : (text rest before behind : List ℕ) (last : ℕ) → IsUtf8 text → text ≡ rest ++ behind → rest ≡ before ++ last ∷ [] → length before + 1 ≡ length rest
    → is_end last ≡ true → IsCharBoundary text (length rest)
boundary text rest before behind last utf8 joined split long is =
    let parts = and_parts (nat_lt last 0x80) (not (is_of_scheme last)) is in
    let whole = joined ∙ ap (λ (l : List ℕ). l ++ behind) split ∙ append_assoc before (last ∷ []) behind in
    subst (IsCharBoundary text) long (IsCharBoundary-parted text before last behind whole utf8 (ltb-true last 0x80 parts.0))

pub bytes-init : goal.bytes-init
bytes-init c = ([], sym c.as_bytes-rest.ensures.value ∙ sym (append-nil _))

pub bytes-preserved : goal.bytes-preserved
bytes-preserved c =
    let (behind, joined) = c.bytes.invariant in
    let last = c.in-Some.last.now in
    let before = c.in-Some.before.now in
    (last ∷ behind, joined ∙ ap (λ (l : List ℕ). l ++ behind) c.in-Some.ensures.cases.0 ∙ append_assoc before (last ∷ []) behind)

pub split_at-requires : goal.split_at-requires
split_at-requires c =
    let (behind, joined) = c.bytes.invariant in
    boundary c.args.text.now c.bytes.rest.now c.in-Some.before.now behind c.in-Some.last.now c.utf8.text joined c.in-Some.ensures.cases.0 c.in-Some.ensures.cases.1
    (sym c.is_end.ensures ∙ c.if-is_end.true)

pub returns-then-is_end-clause-front : goal.returns-then-is_end-clause-front
returns-then-is_end-clause-front c =
    let (behind, joined) = c.bytes.invariant in
    let rest = c.bytes.rest.now in
    inr (
      c.in-Some.before.now,
      c.in-Some.last.now,
      c.split_at.ensures.front ∙ ap (take (length rest)) joined ∙ take_at rest behind (length rest) refl ∙ c.in-Some.ensures.cases.0,
      sym c.is_end.ensures ∙ c.if-is_end.true,
    )

pub returns-then-is_end-clause-joined : goal.returns-then-is_end-clause-joined
returns-then-is_end-clause-joined c =
    sym (ap₂ (λ (l m : List ℕ). l ++ m) c.split_at.ensures.front c.split_at.ensures.back ∙ take-append-drop (length c.bytes.rest.now) c.args.text.now)

pub returns-then-is_end-clause-utf8 : goal.returns-then-is_end-clause-utf8
returns-then-is_end-clause-utf8 c =
    let (behind, joined) = c.bytes.invariant in
    let rest = c.bytes.rest.now in
    subst IsUtf8 (sym c.split_at.ensures.front)
    (IsUtf8-take c.args.text.now (length rest) c.utf8.text
    (boundary c.args.text.now rest c.in-Some.before.now behind c.in-Some.last.now c.utf8.text joined c.in-Some.ensures.cases.0 c.in-Some.ensures.cases.1
    (sym c.is_end.ensures ∙ c.if-is_end.true)))
