-- Numbers one after another, in a table of 1,024 places: each has its link until 1,024 more have begun.
use Rattle.std.proofs.Common.{◌≡◌, ◌≢◌, ◌<◌, ◌≤◌, ◌+◌, ◌%◌, ℕ, true, false, List, [], ◌∷◌, ◌++◌, length, set, get_or, ⊎_elim, refl, sym, ap, ◌∙◌, subst, arith}
use Rattle.std.specs.Prelude.{◌==◌}
use Rattle.std.proofs.lemmas.Bool.{eq-eqb, ne_eqb}
use Rattle.std.proofs.lemmas.Bool.Decides.{eqb_tells}
use Rattle.std.proofs.lemmas.List.{get_or-set_same, get_or-set_other, length-set}
use Rattle.ansi_html.specs.Links.{is_link_command, link_of}
use Rattle.screen_html.specs.Links.{Kept, kept, most_kept, place_of, link_at, links_after, numbered, AreLinkCommands}

-- a command that begins a link sets the place of its number
set-place : (number : ℕ) (parts : List (List ℕ)) (links : List Kept) → is_link_command parts ≡ true → number ≢ 0
    → links_after number parts links ≡ set links (number % 1024) (kept number (link_of parts))
unfolding links_after
set-place number parts links is some = rw (is, ne_eqb number 0 some) refl

length-after : (number : ℕ) (parts : List (List ℕ)) (links : List Kept) → is_link_command parts ≡ true → number ≢ 0 → length (links_after number parts links) ≡ length links
length-after number parts links is some = ap length (set-place number parts links is some) ∙ length-set links (number % 1024) (kept number (link_of parts))

at-place : (n number : ℕ) (parts : List (List ℕ)) (links : List Kept) → is_link_command parts ≡ true → number ≢ 0 → length links ≡ most_kept → n % 1024 ≡ number % 1024
    → place_of n (links_after number parts links) ≡ kept number (link_of parts)
at-place n number parts links is some long same =
    ap (λ l. get_or l (n % 1024) (kept 0 [])) (set-place number parts links is some)
    ∙ ap (λ i. get_or (set links (number % 1024) (kept number (link_of parts))) i (kept 0 [])) same
    ∙ get_or-set_same links (number % 1024) (kept number (link_of parts)) (kept 0 []) (omega (arith, long))

other-place : (n number : ℕ) (parts : List (List ℕ)) (links : List Kept) → is_link_command parts ≡ true → number ≢ 0 → n % 1024 ≢ number % 1024
    → place_of n (links_after number parts links) ≡ place_of n links
other-place n number parts links is some apart =
    ap (λ l. get_or l (n % 1024) (kept 0 [])) (set-place number parts links is some)
    ∙ get_or-set_other links (number % 1024) (n % 1024) (kept number (link_of parts)) (kept 0 []) apart

-- fewer than 1,024 more leave it
stays : (n first : ℕ) (commands : List (List (List ℕ))) (links : List Kept) → AreLinkCommands commands → n < first → first + length commands ≤ n + 1024
    → place_of n (numbered first commands links) ≡ place_of n links
stays n first [] links are below few = refl
stays n first (parts ∷ commands) links are below few =
    stays n (first + 1) commands (links_after first parts links) are.1 (omega (arith, below)) (omega (arith, few))
    ∙ other-place n first parts links are.0 (λ none. omega (arith, none, below)) (λ same. omega (arith, same, below, few))

-- a greater number in its place is followed by none but greater ones
greater-after : (n first : ℕ) (parts : List (List ℕ)) (links : List Kept) → is_link_command parts ≡ true → n < first → length links ≡ most_kept
    → n < (place_of n links).number → n < (place_of n (links_after first parts links)).number
greater-after n first parts links is below long greater =
    let some : first ≢ 0 = λ none. omega (arith, none, below) in
    ⊎_elim
    (λ (yes : ((n % 1024 == first % 1024) ≡ true) × (n % 1024 ≡ first % 1024)). subst (λ (place : Kept). n < place.number) (sym (at-place n first parts links is some long yes.1)) below)
    (λ (no : ((n % 1024 == first % 1024) ≡ false) × (n % 1024 ≢ first % 1024)). subst (λ (place : Kept). n < place.number) (sym (other-place n first parts links is some no.1)) greater)
    (eqb_tells (n % 1024) (first % 1024))

stays-greater : (n first : ℕ) (commands : List (List (List ℕ))) (links : List Kept) → AreLinkCommands commands → n < first → length links ≡ most_kept
    → n < (place_of n links).number → n < (place_of n (numbered first commands links)).number
stays-greater n first [] links are below long greater = greater
stays-greater n first (parts ∷ commands) links are below long greater =
    stays-greater n (first + 1) commands (links_after first parts links) are.1 (omega (arith, below))
    (length-after first parts links are.0 (λ none. omega (arith, none, below)) ∙ long)
    (greater-after n first parts links are.0 below long greater)

-- and the 1,024th behind it comes into its place
comes : (n first : ℕ) (commands : List (List (List ℕ))) (links : List Kept) → AreLinkCommands commands → n < first → first ≤ n + 1024 → n + 1024 < first + length commands
    → length links ≡ most_kept → n < (place_of n (numbered first commands links)).number
comes n first [] links are below near past long = absurd (omega (arith, near, past))
comes n first (parts ∷ commands) links are below near past long =
    let some : first ≢ 0 = λ none. omega (arith, none, below) in
    let as_long = length-after first parts links are.0 some ∙ long in
    ⊎_elim
    (λ (yes : ((first == n + 1024) ≡ true) × (first ≡ n + 1024)).
    stays-greater n (first + 1) commands (links_after first parts links) are.1 (omega (arith, below)) as_long
    (subst (λ (place : Kept). n < place.number) (sym (at-place n first parts links are.0 some long (omega (arith, yes.1)))) below))
    (λ (no : ((first == n + 1024) ≡ false) × (first ≢ n + 1024)).
    comes n (first + 1) commands (links_after first parts links) are.1 (omega (arith, below)) (omega (arith, near, no.1)) (omega (arith, past)) as_long)
    (eqb_tells first (n + 1024))

-- some commands and then others
numbered-append : (first : ℕ) (commands more : List (List (List ℕ))) (links : List Kept)
    → numbered first (commands ++ more) links ≡ numbered (first + length commands) more (numbered first commands links)
numbered-append first [] more links = ap (λ n. numbered n more links) (omega arith)
numbered-append first (parts ∷ commands) more links =
    numbered-append (first + 1) commands more (links_after first parts links)
    ∙ ap (λ n. numbered n more (numbered (first + 1) commands (links_after first parts links))) (omega arith)

length-numbered : (first : ℕ) (commands more : List (List (List ℕ))) (links : List Kept) → AreLinkCommands (commands ++ more) → 0 < first
    → length (numbered first commands links) ≡ length links
length-numbered first [] more links are some = refl
length-numbered first (parts ∷ commands) more links are some =
    length-numbered (first + 1) commands more (links_after first parts links) are.1 (omega arith)
    ∙ length-after first parts links are.0 (λ none. omega (arith, none, some))

back : (commands more : List (List (List ℕ))) → AreLinkCommands (commands ++ more) → AreLinkCommands more
back [] more are = are
back (parts ∷ commands) more are = back commands more are.1

-- what a number has, by its place
link-there : (n : ℕ) (links : List Kept) (link : List ℕ) → place_of n links ≡ kept n link → link_at n links ≡ link
unfolding link_at
link-there n links link there =
    let number : (place_of n links).number ≡ n = ap (λ (it : Kept). it.number) there in
    rw (eq-eqb (place_of n links).number n number) (ap (λ (it : Kept). it.link) there)

link-gone : (n : ℕ) (links : List Kept) → n < (place_of n links).number → link_at n links ≡ []
unfolding link_at
link-gone n links greater = rw (ne_eqb (place_of n links).number n (λ same. omega (arith, same, greater))) refl

module _ (before : List Kept) (earlier later : List (List (List ℕ))) (parts : List (List ℕ)) (long : length before ≡ most_kept) (are : AreLinkCommands (earlier ++ parts ∷ later)) where
  abbrev n : ℕ
  n = length earlier + 1

  abbrev first : List Kept
  first = numbered 1 earlier before

  rest : AreLinkCommands (parts ∷ later)
  rest = back earlier (parts ∷ later) are

  as_long : length first ≡ most_kept
  as_long = length-numbered 1 earlier (parts ∷ later) before are (omega arith) ∙ long

  whole : numbered 1 (earlier ++ parts ∷ later) before ≡ numbered (n + 1) later (links_after n parts first)
  whole = numbered-append 1 earlier (parts ∷ later) before ∙ ap (λ k. numbered k (parts ∷ later) first) (omega arith)

  there : place_of n (links_after n parts first) ≡ kept n (link_of parts)
  there = at-place n n parts first rest.0 (λ none. omega (arith, none)) as_long refl

  pub last-kept : length later < most_kept → link_at n (numbered 1 (earlier ++ parts ∷ later) before) ≡ link_of parts
  last-kept few =
      ap (link_at n) whole
      ∙ link-there n (numbered (n + 1) later (links_after n parts first)) (link_of parts)
      (stays n (n + 1) later (links_after n parts first) rest.1 (omega arith) (omega (arith, few)) ∙ there)

  pub last-lost : most_kept ≤ length later → link_at n (numbered 1 (earlier ++ parts ∷ later) before) ≡ []
  last-lost many =
      ap (link_at n) whole
      ∙ link-gone n (numbered (n + 1) later (links_after n parts first))
      (comes n (n + 1) later (links_after n parts first) rest.1 (omega arith) (omega arith) (omega (arith, many))
      (length-after n parts first rest.0 (λ none. omega (arith, none)) ∙ as_long))
