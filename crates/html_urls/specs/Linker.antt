-- What a performer that makes links of addresses shows, and what calls do to it.
use Rattle.std.specs.Prelude.{◌≡◌, ℕ, List, [], ◌∷◌, ◌++◌, if◌then◌else◌}
use Rattle.anstyle_parse.specs.Stream.Call.{Call, print}
use Rattle.html_urls.specs.declared.linking.Linking.{Linking}
use Rattle.html_urls.specs.Held.{held_in}
use Rattle.html_urls.specs.Linked.{Standing, standing, released, begins, handed, standing_after, handed_from, standing_at_end, left_from}

-- the performer that it hands on to, and where it stands
abbrev pub performer_in : {P : Type 0} → Linking P → P
performer_in linking = linking.performer

abbrev pub standing_of : {P : Type 0} → Linking P → Standing
standing_of linking = standing (held_in linking.held) linking.is_within linking.is_linked

-- what is held is handed on, and all else stays
pub record Releases {P : Type 0} (receives : P → List Call → P → Type 0) (old new : Linking P) : Type 0 where
  pub standing : standing_of new ≡ standing [] (standing_of old).is_within (standing_of old).is_linked
  pub received : receives (performer_in old) (released (standing_of old).held) (performer_in new)

-- where nothing was held, a character is what is held, if an address begins with it, and else it is handed on
pub record Begins {P : Type 0} (receives : P → List Call → P → Type 0) (old : Linking P) (c : ℕ)
    (new : Linking P) : Type 0 where
  pub standing : standing_of new
      ≡ standing (if begins (standing_of old) c then c ∷ [] else (standing_of old).held)
      (standing_of old).is_within (standing_of old).is_linked
  pub received : receives (performer_in old) (if begins (standing_of old) c then [] else print c ∷ [])
      (performer_in new)

-- By a call it goes on, and hands on what that leads to.
pub record TakesCall {P : Type 0} (receives : P → List Call → P → Type 0)
    (old : Linking P) (call : Call) (new : Linking P) : Type 0 where
  pub standing : standing_of new ≡ standing_after (standing_of old) call
  pub received : receives (performer_in old) (handed (standing_of old) call) (performer_in new)

-- The calls, one after another.
pub record Takes {P : Type 0} (receives : P → List Call → P → Type 0)
    (old : Linking P) (calls : List Call) (new : Linking P) : Type 0 where
  pub standing : standing_of new ≡ standing_at_end (standing_of old) calls
  pub received : receives (performer_in old) (handed_from (standing_of old) calls) (performer_in new)

-- What one that writes has written by calls; and then what is still held, and the ending.
abbrev pub text_from : {P : Type 0} → (P → List Call → List ℕ) → Linking P → List Call → List ℕ
text_from written linking calls = written (performer_in linking) (handed_from (standing_of linking) calls)

abbrev pub text_after : {P : Type 0} → (P → (calls more : List Call) → List ℕ) → Linking P → (calls more : List Call)
    → List ℕ
text_after written_after linking calls more =
    let at = standing_of linking in
    written_after (performer_in linking) (handed_from at calls) (handed_from (standing_at_end at calls) more)

abbrev pub ending_from : {P : Type 0} → (P → (calls more : List Call) → List ℕ) → (P → List Call → List ℕ)
    → Linking P → List Call → List ℕ
ending_from written_after ending linking calls =
    let at = standing_of linking in
    written_after (performer_in linking) (handed_from at calls) (left_from at calls)
    ++ ending (performer_in linking) (handed_from at calls ++ left_from at calls)
