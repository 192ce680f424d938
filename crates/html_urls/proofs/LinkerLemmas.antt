-- What a performer that makes links of addresses does by a call, step by step.
use Rattle.std.proofs.Common.{◌≡◌, ℕ, Bool, true, false, List, [], ◌∷◌, ◌++◌, refl, sym, ap, ap₂, ◌∙◌, subst}
use Rattle.std.specs.Prelude.{if◌then◌else◌}
use Rattle.anstyle_parse.specs.Stream.Call.{Call, print}
use Rattle.ansi_html.specs.Links.{has_scheme}
use Rattle.html_urls.specs.declared.linking.Linking.{Linking}
use Rattle.html_urls.specs.Addresses.{is_of_word, goes_on, is_address}
use Rattle.html_urls.specs.Linked.{Standing, standing, link_command, prints, released, begins, handed_character, held_character}
use Rattle.html_urls.specs.Linker.{performer_in, standing_of, Releases, Begins, TakesCall}

pub released-none : released [] ≡ []
unfolding is_address has_scheme
released-none = refl

module _ {P : Type 0} (receives : P → List Call → P → Type 0)
    (join : (old middle new : P) (calls more : List Call) → receives old calls middle → receives middle more new → receives old (calls ++ more) new) where
  -- an address as a link, and what stands behind it
  pub received-link : (old a b c new : P) (target address behind : List ℕ) → receives old (link_command target ∷ []) a → receives a (prints address) b
      → receives b (link_command [] ∷ []) c → receives c (prints behind) new
      → receives old (link_command target ∷ prints address ++ (link_command [] ∷ prints behind)) new
  received-link old a b c new target address behind one two three four =
      join old a new (link_command target ∷ []) (prints address ++ (link_command [] ∷ prints behind)) one
      (join a b new (prints address) (link_command [] ∷ prints behind) two (join b c new (link_command [] ∷ []) (prints behind) three four))

  -- a character where no link is open
  taken-character : (old new : Linking P) (c : ℕ) → (standing_of old).is_linked ≡ false
      → standing_of new ≡ standing (held_character (standing_of old) c) (is_of_word c) false
      → receives (performer_in old) (handed_character (standing_of old) c) (performer_in new)
      → TakesCall receives old (print c) new
  taken-character old new c unlinked stands received =
      let at = standing_of old in
      record {
        standing = stands ∙ sym (ap (λ (t : Bool). if t then at else standing (held_character at c) (is_of_word c) false) unlinked);
        received = subst (λ (calls : List Call). receives (performer_in old) calls (performer_in new))
            (sym (ap (λ (t : Bool). if t then print c ∷ [] else handed_character at c) unlinked)) received;
      }

  -- one with which what is held goes on, or does not
  pub taken-on : (none : (performer : P) → receives performer [] performer) → (old new : Linking P) (c : ℕ) → (standing_of old).is_linked ≡ false
      → goes_on (standing_of old).held c ≡ true
      → standing_of new ≡ standing ((standing_of old).held ++ c ∷ []) (is_of_word c) (standing_of old).is_linked
      → performer_in new ≡ performer_in old → TakesCall receives old (print c) new
  taken-on none old new c unlinked on stands same =
      let at = standing_of old in
      taken-character old new c unlinked
      (stands ∙ ap₂ (λ (held : List ℕ) (l : Bool). standing held (is_of_word c) l)
      (sym (ap (λ (t : Bool). if t then at.held ++ c ∷ [] else if begins at c then c ∷ [] else []) on)) unlinked)
      (subst (λ (calls : List Call). receives (performer_in old) calls (performer_in new))
      (sym (ap (λ (t : Bool). if t then [] else released at.held ++ (if begins at c then [] else print c ∷ [])) on))
      (subst (λ (p : P). receives (performer_in old) [] p) (sym same) (none (performer_in old))))

  pub taken-off : (old released_to begun new : Linking P) (c : ℕ) → (standing_of old).is_linked ≡ false
      → goes_on (standing_of old).held c ≡ false → Releases receives old released_to → Begins receives released_to c begun
      → standing_of new ≡ standing (standing_of begun).held (is_of_word c) (standing_of begun).is_linked
      → performer_in new ≡ performer_in begun → TakesCall receives old (print c) new
  taken-off old released_to begun new c unlinked off releases begin stands same =
      let at = standing_of old in
      let it = standing [] at.is_within at.is_linked in
      let starts : begins (standing_of released_to) c ≡ begins at c = ap (λ (s : Standing). begins s c) releases.standing in
      taken-character old new c unlinked
      (stands ∙ ap (λ (s : Standing). standing s.held (is_of_word c) s.is_linked) begin.standing
      ∙ ap (λ (s : Standing). standing (if begins s c then c ∷ [] else s.held) (is_of_word c) s.is_linked) releases.standing
      ∙ ap₂ (λ (held : List ℕ) (l : Bool). standing held (is_of_word c) l)
      (sym (ap (λ (t : Bool). if t then at.held ++ c ∷ [] else if begins at c then c ∷ [] else []) off)) unlinked)
      (subst (λ (calls : List Call). receives (performer_in old) calls (performer_in new))
      (sym (ap (λ (t : Bool). if t then [] else released at.held ++ (if begins at c then [] else print c ∷ [])) off))
      (subst (λ (p : P). receives (performer_in old) (released at.held ++ (if begins at c then [] else print c ∷ [])) p) (sym same)
      (join (performer_in old) (performer_in released_to) (performer_in begun) (released at.held) (if begins at c then [] else print c ∷ []) releases.received
      (subst (λ (t : Bool). receives (performer_in released_to) (if t then [] else print c ∷ []) (performer_in begun)) starts begin.received))))
