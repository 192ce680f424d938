-- Checkpoints, as they are put together.
use Rattle.std.proofs.Common.{◌≡◌, ℕ, Bool, List, [], ◌∷◌, ◌++◌, length, ◌+◌, take, drop, drop-drop, sym, ap, ◌∙◌, append_assoc}
use Rattle.std.specs.Prelude.{decimal, if◌then◌else◌}
use Rattle.std.specs.List.{flat_map, concat}
use Rattle.std.proofs.lemmas.Bool.{eq-eqb, ne_eqb}
use Rattle.anstyle_parse.specs.Stream.Arguments.{max_fields, after_marker}
use Rattle.anstyle_parse.specs.Stream.Bytes.{semicolon}
use Rattle.anstyle_parse.specs.Stream.Canon.{leading_marker, escape_text}
use Rattle.anstyle_parse.specs.Laws.Checkpoint.{last_separator, header_so_far, number_so_far, command_text}
use Rattle.anstyle_parse.specs.Stream.Groups.{total, cut, groups_text, shown_groups}
use Rattle.anstyle_parse.specs.Machine.Step.{Machine, field_count}

-- an escape sequence that has begun
pub escape_text-begun : (a intermediates more : List ℕ) (ignoring : Bool) (collected : List ℕ) → intermediates ≡ collected → more ≡ (if ignoring then 0x20 ∷ [] else [])
    → (a ++ intermediates) ++ more ≡ a ++ escape_text collected ignoring
unfolding escape_text
escape_text-begun a intermediates more ignoring collected e h =
    append_assoc a intermediates more ∙ ap (λ x. a ++ (x ++ more)) e ∙ ap (λ x. a ++ (collected ++ x)) h

-- one part more of a command is done
command_regroup : (done part f r : List ℕ) → ((done ++ part) ++ semicolon ∷ []) ++ (f ++ r) ≡ done ++ (((part ++ semicolon ∷ []) ++ f) ++ r)
command_regroup done part f r = simp append_assoc

pub command_text-more : (done whole rest part behind : List ℕ) (l : ℕ) (left ls : List ℕ) → left ≡ l ∷ ls → part ≡ take l rest → behind ≡ drop l rest
    → done ++ command_text (cut left rest) (drop (total left) rest) ≡ whole
    → ((done ++ part) ++ semicolon ∷ []) ++ command_text (cut ls behind) (drop (total ls) behind) ≡ whole
command_text-more done whole rest part behind l left ls e p q h =
    command_regroup done part (flat_map (λ x. x ++ semicolon ∷ []) (cut ls behind)) (drop (total ls) behind)
    ∙ ap (λ x. done ++ (((x ++ semicolon ∷ []) ++ flat_map (λ y. y ++ semicolon ∷ []) (cut ls behind)) ++ drop (total ls) behind)) p
    ∙ ap (λ x. done ++ (((take l rest ++ semicolon ∷ []) ++ flat_map (λ y. y ++ semicolon ∷ []) (cut ls x)) ++ drop (total ls) x)) q
    ∙ ap (λ x. done ++ (((take l rest ++ semicolon ∷ []) ++ flat_map (λ y. y ++ semicolon ∷ []) (cut ls (drop l rest))) ++ x)) (drop-drop (total ls) l rest)
    ∙ ap (λ x. done ++ command_text (cut x rest) (drop (total x) rest)) (sym e)
    ∙ h

-- all parts of a command are done
pub command_text-none : (done whole rest : List ℕ) (left : List ℕ) → left ≡ [] → done ++ command_text (cut left rest) (drop (total left) rest) ≡ whole → done ++ rest ≡ whole
command_text-none done whole rest left e h = sym (ap (λ x. done ++ command_text (cut x rest) (drop (total x) rest)) e) ∙ h

-- the parts of a header, one after another, up to the number
header_regroup : (marker fields separator a b : List ℕ) → (((marker ++ fields) ++ separator) ++ a) ++ b ≡ marker ++ ((fields ++ separator) ++ (a ++ b))
header_regroup marker fields separator a b = simp append_assoc

module _ {A : Type 0} (m : Machine A) (closed : List (List ℕ)) (open_group marker separator others : List ℕ) (same_closed : closed ≡ m.closed_groups) (same_open : open_group ≡ m.open_group)
    (is_marker : marker ≡ leading_marker m.collected) (is_separator : separator ≡ last_separator closed open_group) (are_others : others ≡ after_marker m.collected) where
  header_so_far-number : (number : List ℕ) → number ≡ number_so_far m → marker ++ ((groups_text (shown_groups closed open_group) ++ separator) ++ number) ≡ header_so_far m
  header_so_far-number number e =
      ap (λ x. marker ++ ((groups_text (shown_groups closed open_group) ++ x) ++ number)) is_separator
      ∙ ap (λ x. marker ++ ((groups_text (shown_groups x open_group) ++ last_separator x open_group) ++ number)) same_closed
      ∙ ap (λ x. marker ++ ((groups_text (shown_groups m.closed_groups x) ++ last_separator m.closed_groups x) ++ number)) same_open
      ∙ ap (λ x. x ++ ((groups_text (shown_groups m.closed_groups m.open_group) ++ last_separator m.closed_groups m.open_group) ++ number)) is_marker
      ∙ ap (λ x. leading_marker m.collected ++ ((groups_text (shown_groups m.closed_groups m.open_group) ++ last_separator m.closed_groups m.open_group) ++ x)) e

  -- the fields that the parameters show are counted
  field_count-same : field_count m ≡ length (concat closed) + length open_group
  field_count-same = ap (λ x. length (concat x) + length m.open_group) (sym same_closed) ∙ ap (λ x. length (concat closed) + length x) (sym same_open)

  -- where all fields are stored
  pub header_so_far-full : (more : List ℕ) → length (concat closed) + length open_group ≡ max_fields → more ≡ (if m.ignoring then semicolon ∷ [] else [])
      → (((marker ++ groups_text (shown_groups closed open_group)) ++ separator) ++ more) ++ others ≡ header_so_far m
  header_so_far-full more full e =
      header_regroup marker (groups_text (shown_groups closed open_group)) separator more others
      ∙ header_so_far-number (more ++ others)
      (ap (λ x. x ++ others) e ∙ ap (λ x. (if m.ignoring then semicolon ∷ [] else []) ++ x) are_others
      ∙ sym (ap (λ t. if t then (if m.ignoring then semicolon ∷ [] else []) ++ after_marker m.collected else decimal m.number ++ (after_marker m.collected ++ (if m.ignoring then 0x20 ∷ [] else [])))
      (eq-eqb (field_count m) max_fields (field_count-same ∙ full))))

  -- and where there is room for more
  pub header_so_far-room : (number : ℕ) (more : List ℕ) → (length (concat closed) + length open_group ≡ max_fields → ⊥) → number ≡ m.number → more ≡ (if m.ignoring then 0x20 ∷ [] else [])
      → ((((marker ++ groups_text (shown_groups closed open_group)) ++ separator) ++ decimal number) ++ others) ++ more ≡ header_so_far m
  header_so_far-room number more room n e =
      append_assoc (((marker ++ groups_text (shown_groups closed open_group)) ++ separator) ++ decimal number) others more
      ∙ header_regroup marker (groups_text (shown_groups closed open_group)) separator (decimal number) (others ++ more)
      ∙ header_so_far-number (decimal number ++ (others ++ more))
      (ap (λ x. decimal x ++ (others ++ more)) n ∙ ap (λ x. decimal m.number ++ (x ++ more)) are_others ∙ ap (λ x. decimal m.number ++ (after_marker m.collected ++ x)) e
      ∙ sym (ap (λ t. if t then (if m.ignoring then semicolon ∷ [] else []) ++ after_marker m.collected else decimal m.number ++ (after_marker m.collected ++ (if m.ignoring then 0x20 ∷ [] else [])))
      (ne_eqb (field_count m) max_fields (λ h. room (sym field_count-same ∙ h)))))
