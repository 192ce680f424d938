-- A link has no room for the text, where it has none for its front.
use Rattle.std.proofs.Common.{◌≡◌, ◌<◌, ◌≤◌, ℕ, Bool, true, false, List, ◌++◌, length, get_or, take, refl, sym, ap, ◌∙◌, length-append, ltb-true, arith}
use Rattle.std.specs.Prelude.{nat_lt}
use Rattle.std.specs.List.{flat_map}
use Rattle.std.proofs.lemmas.List.Folds.{length-flat_map-take}
use Rattle.html_urls.specs.Addresses.{in_link, max_held}
use Rattle.html_urls.proofs.target.put_text.Goals as goal

over : (old text : List ℕ) (i d : ℕ) → i < length text → max_held ≤ length ((old ++ flat_map in_link (take i text)) ++ in_link (get_or text i d))
    → nat_lt (length (old ++ flat_map in_link text)) max_held ≡ false
over old text i d some long = by (nat_lt (length (old ++ flat_map in_link text)) max_held) refl
  where
    all : max_held ≤ length (old ++ flat_map in_link text)
    all =
        let front = flat_map in_link (take i text) in
        omega (
          arith,
          long,
          length-append (old ++ front) (in_link (get_or text i d)),
          length-append old front,
          length-append old (flat_map in_link text),
          length-flat_map-take in_link text i d some,
        )

    by : (t : Bool) → nat_lt (length (old ++ flat_map in_link text)) max_held ≡ t → t ≡ false
    by false is = refl
    by true is = let short = ltb-true (length (old ++ flat_map in_link text)) max_held is in absurd (omega (arith, short, all))

pub returns-then-len-ge-ROOM-clause-room : goal.returns-then-len-ge-ROOM-clause-room
returns-then-len-ge-ROOM-clause-room c =
    let old = c.args.target.now.items in
    let text = c.args.text.now in
    let i = c.loop-c.c-index in
    let item = c.c-item.result in
    let front = flat_map in_link (take i text) in
    let whole : c.put_character.new.target.items ≡ (old ++ front) ++ in_link (get_or text i item) =
    c.put_character.ensures ∙ ap (λ (l : List ℕ). l ++ in_link item) c.loop-c.invariant.0 ∙ ap (λ (k : ℕ). (old ++ front) ++ in_link k) c.c-item.is in
    let long = c.if-len-ge-ROOM.true in
    let same = c.len.ensures.value in
    let all = ap length whole in
    sym (over old text i item c.loop-c-test.true (omega (arith, long, same, all)))
