-- A stream has its addresses in one way alone.
use Rattle.std.proofs.Common.{◌≡◌, ◌≤◌, ℕ, zero, suc, Bool, true, false, List, [], ◌∷◌, ◌++◌, length, refl, sym, ap, ap₂, ◌∙◌, subst, arith, ◌⊎◌, inl, inr}
use Rattle.std.proofs.lemmas.Bool.{false≢true}
use Rattle.std.proofs.lemmas.List.{append_cancel_left}
use Rattle.anstyle_parse.specs.Stream.Call.{Call, unhook}
use Rattle.anstyle_parse.specs.Stream.Items.{EachIs}
use Rattle.html_urls.specs.Addresses.{is_of_address, max_held, may_begin, joins_after, IsOffAddress, IsRun}
use Rattle.html_urls.specs.Linked.{prints, linked_after}
use Rattle.html_urls.specs.Found.{printed, Part, as_is, in_run, joins_call, AreFound, AreParts}
use Rattle.html_urls.proofs.FrontLemmas.{head-of, tail-of, head-of-is, tail-of-is, no-begin-end}

-- a run that could be longer, of another length at most
record Goes (most : ℕ) (text run : List ℕ) : Type 0 where
  behind : List ℕ
  joined : text ≡ run ++ behind
  each : EachIs is_of_address run
  ends : (length run ≡ most) ⊎ IsOffAddress behind
  within : length run ≤ most

goes-of : (text run : List ℕ) → IsRun text run → Goes max_held text run
goes-of text run is = record { behind = is.behind; joined = is.joined; each = is.each; ends = is.ends; within = is.most }

-- nothing goes no further than some
none-only : (most : ℕ) (text : List ℕ) (b : ℕ) (run : List ℕ) → Goes most text [] → Goes most text (b ∷ run) → [] ≡ b ∷ run
none-only most text b run none some = by none.ends
  where
    same : none.behind ≡ b ∷ (run ++ some.behind)
    same = sym none.joined ∙ some.joined

    off-first : IsOffAddress none.behind → is_of_address b ≡ false
    off-first off = subst IsOffAddress same off

    by : (0 ≡ most) ⊎ IsOffAddress none.behind → [] ≡ b ∷ run
    by (inl full) = let over = some.within in absurd (omega (arith, full, over))
    by (inr off) = absurd (false≢true (sym (off-first off) ∙ some.each.0))

ends-less : (most : ℕ) (b : ℕ) (run behind : List ℕ) → (length (b ∷ run) ≡ suc most) ⊎ IsOffAddress behind → (length run ≡ most) ⊎ IsOffAddress behind
ends-less most b run behind (inl full) = inl (omega (arith, full))
ends-less most b run behind (inr off) = inr off

goes-less : (most : ℕ) (text : List ℕ) (b : ℕ) (run : List ℕ) → Goes (suc most) text (b ∷ run) → Goes most (tail-of text) run
goes-less most text b run goes = record {
  behind = goes.behind;
  joined = ap tail-of goes.joined ∙ tail-of-is b (run ++ goes.behind);
  each = goes.each.1;
  ends = ends-less most b run goes.behind goes.ends;
  within = let most_is = goes.within in omega (arith, most_is);
}

goes-only : (one other : List ℕ) (most : ℕ) (text : List ℕ) → Goes most text one → Goes most text other → one ≡ other
goes-only [] [] most text first second = refl
goes-only [] (b ∷ other) most text first second = none-only most text b other first second
goes-only (b ∷ one) [] most text first second = sym (none-only most text b one second first)
goes-only (b ∷ one) (d ∷ other) zero text first second = absurd (let over = first.within in omega (arith, over))
goes-only (b ∷ one) (d ∷ other) (suc most) text first second =
    ap₂ (λ (x : ℕ) (l : List ℕ). x ∷ l)
    (sym (head-of-is b (one ++ first.behind)) ∙ ap head-of (sym first.joined ∙ second.joined) ∙ head-of-is d (other ++ second.behind))
    (goes-only one other most (tail-of text) (goes-less most text b one first) (goes-less most text d other second))

run-only : (text one other : List ℕ) → IsRun text one → IsRun text other → one ≡ other
run-only text one other first second = goes-only one other max_held text (goes-of text one first) (goes-of text other second)

-- the first call, and those after it
first-call : List Call → Call
first-call [] = unhook
first-call (call ∷ calls) = call

after-first : List Call → List Call
after-first [] = []
after-first (call ∷ calls) = calls

same-first : (a b : Call) (one other : List Call) → a ∷ one ≡ b ∷ other → (a ≡ b) × (one ≡ other)
unfolding first-call after-first
same-first a b one other same = (ap first-call same, ap after-first same)

never : {A : Type 0} (joins : Bool) (calls : List Call) → calls ≡ [] → may_begin joins (printed calls) ≡ true → A
never joins calls none begins =
    absurd (false≢true (sym (no-begin-end joins) ∙ ap (λ (l : List Call). may_begin joins (printed l)) (sym none) ∙ begins))

-- a call as it is stands where no run begins
apart : {A : Type 0} (is_linked : Bool) (begins : Bool) → (is_linked ≡ true) ⊎ (begins ≡ false) → is_linked ≡ false → begins ≡ true → A
apart is_linked begins (inl linked) unlinked some = absurd (false≢true (sym unlinked ∙ linked))
apart is_linked begins (inr off) unlinked some = absurd (false≢true (sym off ∙ some))

some-call : {A : Type 0} (calls : List Call) (call : Call) (rest : List Call) → calls ≡ [] → calls ≡ call ∷ rest → A
some-call calls call rest none some = let clash : [] ≡ call ∷ rest = sym none ∙ some in absurd (cc clash)

only : (one other : List Part) (joins is_linked : Bool) (calls : List Call) → AreFound joins is_linked calls one → AreFound joins is_linked calls other → one ≡ other
only [] [] joins is_linked calls first second = refl
only [] (as_is call ∷ other) joins is_linked calls first second = some-call calls call second.0 first second.1
only [] (in_run run ∷ other) joins is_linked calls first second = never joins calls first second.3
only (as_is call ∷ one) [] joins is_linked calls first second = some-call calls call first.0 second first.1
only (in_run run ∷ one) [] joins is_linked calls first second = never joins calls second first.3
only (as_is call ∷ one) (in_run run ∷ other) joins is_linked calls first second =
    apart is_linked (may_begin joins (printed calls)) first.2 second.2 second.3
only (in_run run ∷ one) (as_is call ∷ other) joins is_linked calls first second =
    apart is_linked (may_begin joins (printed calls)) second.2 first.2 first.3
only (as_is a ∷ one) (as_is b ∷ other) joins is_linked calls first second =
    let same = same-first a b first.0 second.0 (sym first.1 ∙ second.1) in
    let there : AreFound (joins_call a) (linked_after a is_linked) first.0 other =
    subst (λ (l : List Call). AreFound (joins_call a) (linked_after a is_linked) l other) (sym same.1)
    (subst (λ (c : Call). AreFound (joins_call c) (linked_after c is_linked) second.0 other) (sym same.0) second.3) in
    ap₂ (λ (c : Call) (l : List Part). as_is c ∷ l) same.0 (only one other (joins_call a) (linked_after a is_linked) first.0 first.3 there)
only (in_run r ∷ one) (in_run s ∷ other) joins is_linked calls first second =
    let same = run-only (printed calls) r s first.4 second.4 in
    let rest : first.0 ≡ second.0 =
    append_cancel_left (prints r) first.0 second.0 (sym first.1 ∙ second.1 ∙ ap (λ (l : List ℕ). prints l ++ second.0) (sym same)) in
    let there : AreFound (joins_after joins r) false first.0 other =
    subst (λ (l : List Call). AreFound (joins_after joins r) false l other) (sym rest)
    (subst (λ (l : List ℕ). AreFound (joins_after joins l) false second.0 other) (sym same) second.5) in
    ap₂ (λ (l : List ℕ) (more : List Part). in_run l ∷ more) same (only one other (joins_after joins r) false first.0 first.5 there)

pub parts-only : (calls : List Call) (one other : List Part) → AreParts calls one → AreParts calls other → one ≡ other
parts-only calls one other first second = only one other false false calls first second
