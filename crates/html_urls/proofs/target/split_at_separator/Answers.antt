-- The first separator parts the bytes.
use Rattle.std.proofs.Common.{◌≡◌, ◌<◌, ◌+◌, ◌-◌, ℕ, suc, false, List, [], ◌∷◌, ◌++◌, length, get_or, take, drop, refl, sym, ap, ◌∙◌, subst, take-append-drop, drop-cons, take_all, length-drop, ne_eqb, arith}
use Rattle.std.specs.Prelude.{◌==◌, All}
use Rattle.std.specs.List.{slice_split}
use Rattle.std.proofs.lemmas.List.{take_more}
use Rattle.std.proofs.lemmas.List.Elements.{All-append, All-from_recursion}
use Rattle.std.proofs.lemmas.List.Splits.{slice_split_at, slice_split_none}
use Rattle.anstyle_parse.specs.Stream.Bytes.{semicolon}
use Rattle.html_urls.proofs.target.split_at_separator.Goals as goal

abbrev split : List ℕ → List (List ℕ)
split bytes = slice_split (λ b. b == semicolon) bytes

abbrev Lacks : ℕ → Type 0
Lacks b = (b == semicolon) ≡ false

split-first : (bytes : List ℕ) (n d : ℕ) → n < length bytes → All Lacks (take n bytes) → get_or bytes n d ≡ 0x3B
    → split bytes ≡ take n bytes ∷ split (take (length bytes - (n + 1)) (drop (n + 1) bytes))
split-first bytes n d some none is =
    let next : suc n ≡ n + 1 = omega arith in
    let all : take (length bytes - (n + 1)) (drop (n + 1) bytes) ≡ drop (n + 1) bytes =
    take_all (length bytes - (n + 1)) (drop (n + 1) bytes) (omega (arith, length-drop (n + 1) bytes)) in
    ap split (sym (take-append-drop n bytes) ∙ ap (λ (l : List ℕ). take n bytes ++ l) (drop-cons bytes n d some ∙ ap (λ (b : ℕ). b ∷ drop (suc n) bytes) is))
    ∙ slice_split_at (λ b. b == semicolon) (take n bytes) 0x3B (drop (suc n) bytes) none refl
    ∙ ap (λ (l : List ℕ). take n bytes ∷ split l) (ap (λ (k : ℕ). drop k bytes) next ∙ sym all)

lacks-more : (bytes : List ℕ) (n d : ℕ) → n < length bytes → All Lacks (take n bytes) → Lacks (get_or bytes n d) → All Lacks (take (n + 1) bytes)
lacks-more bytes n d some none other =
    subst (All Lacks) (sym (take_more bytes n d some))
    (All-append Lacks (take n bytes) (get_or bytes n d ∷ []) none (All-from_recursion Lacks (get_or bytes n d ∷ []) (other, tt)))

pub returns-then-bytes-count-eq59-clause-some : goal.returns-then-bytes-count-eq59-clause-some
returns-then-bytes-count-eq59-clause-some c =
    split-first c.args.bytes.now c.bytes.count _ c.bytes-test.true c.bytes.invariant.1 c.if-bytes-count-eq59.true

pub bytes-preserved : goal.bytes-preserved
bytes-preserved c = (
  let some = c.bytes-test.true in omega (arith, some),
  lacks-more c.args.bytes.now c.bytes.count _ c.bytes-test.true c.bytes.invariant.1 (ne_eqb _ 0x3B c.if-bytes-count-eq59.false),
)

pub returns-clause-none : goal.returns-clause-none
returns-clause-none c =
    let bytes = c.args.bytes.now in
    let most = c.bytes-test.false in
    slice_split_none (λ b. b == semicolon) bytes (subst (All Lacks) (take_all c.bytes.count bytes most) c.bytes.invariant.1)
