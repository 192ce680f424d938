-- Files of a page that were written, one after another.
use Rattle.std.proofs.Common.{◌≡◌, ℕ, ◌+◌, ◌<◌, ◌≤◌, suc, true, false, List, [], ◌∷◌, ◌++◌, Result, Ok, Err, is_err, length, take, drop, set, get_or, refl, sym, ap, ◌∙◌, subst, arith, append_assoc, append-nil}
use Rattle.std.proofs.lemmas.List.{drop_more, take_more_set, set_split, drop-set-lt, take_all, drop_all}
use Rattle.anstyle_parse.specs.declared.io.devices.Sink.{Ghosts as SinkOf}
use Rattle.anstyle_parse.specs.declared.io.devices.Source.{Ghosts as SourceOf}
use Rattle.each_source.specs.Each.{Given}
use Rattle.each_source.specs.declared.Stopped.{Stopped}
use Rattle.ansi2html.specs.declared.parts.Part.{Part}
use Rattle.ansi2html.specs.Parts.{GoesOn, WritesPart, WritesParts}

goes_on : {next : Type 0} (none : Type 0) (first : Result (Unit {0}) Stopped) → is_err first ≡ false → next → GoesOn first next none
goes_on none (Ok done) is next = next
goes_on none (Err stopped) is next = absurd (let clash : true ≡ false = is in cc)

stops : {none : Type 0} (next : Type 0) (first : Result (Unit {0}) Stopped) → is_err first ≡ true → none → GoesOn first next none
stops next (Ok done) is none = absurd (let clash : false ≡ true = is in cc)
stops next (Err stopped) is none = none

-- lists that are the same from a place on are the same from the next one on
pub same-next : {A : Type 0} (done parts : List A) (i : ℕ) (d : A) → i < length done → i < length parts → drop i done ≡ drop i parts
    → drop (i + 1) done ≡ drop (i + 1) parts
same-next done parts i d there below same = ap (drop 1) (sym (drop_more done i d there) ∙ same ∙ drop_more parts i d below)

pub same-set : {A : Type 0} (done parts : List A) (i : ℕ) (d part : A) → i < length done → i < length parts → drop i done ≡ drop i parts
    → drop (i + 1) (set done i part) ≡ drop (i + 1) parts
same-set done parts i d part there below same = drop-set-lt (i + 1) done i part (omega arith) ∙ same-next done parts i d there below same

module _ {R W : Type 0} (source : SourceOf R) (sink : SinkOf W) (text : Given → List ℕ) where
  -- what is written from a place on, with what was written before it, is all
  abbrev pub Continues : (parts done : List (Part R)) (writer now : W) (i : ℕ) → Type 0
  Continues parts done writer now i =
      (rest : List (Part R)) (final : W) (answer : Result (Unit {0}) Stopped) → WritesParts source sink text (drop i parts) rest now final answer
      → WritesParts source sink text parts (take i done ++ rest) writer final answer

  -- the files from a place on, of which the first is the one there
  split : (parts done : List (Part R)) (i : ℕ) (d : Part R) → i < length done → i < length parts → drop i done ≡ drop i parts
      → drop i parts ≡ get_or done i d ∷ drop (i + 1) parts
  split parts done i d there below same =
      sym same ∙ drop_more done i d there ∙ ap (λ r. get_or done i d ∷ r) (same-next done parts i d there below same)

  -- one more
  pub written-next : (parts done : List (Part R)) (writer now middle : W) (i : ℕ) (d after : Part R) (first : Result (Unit {0}) Stopped)
      → i < length done → i < length parts → drop i done ≡ drop i parts → is_err first ≡ false
      → WritesPart source sink text (get_or done i d) after now middle first → Continues parts done writer now i
      → Continues parts (set done i after) writer middle (i + 1)
  written-next parts done writer now middle i d after first there below same fine one before rest final answer written =
      let goes = goes_on _ first fine written in
      let next = subst (λ ps. WritesParts source sink text ps (after ∷ rest) now final answer) (sym (split parts done i d there below same)) (middle, first, one, goes) in
      let joined = ap (λ t. t ++ rest) (take_more_set done i after there) ∙ append_assoc (take i done) (after ∷ []) rest in
      subst (λ ps. WritesParts source sink text parts ps writer final answer) (sym joined) (before (after ∷ rest) final answer next)

  -- the last, which was not written whole
  pub written-last : (parts done : List (Part R)) (writer now middle : W) (i : ℕ) (d after : Part R) (first : Result (Unit {0}) Stopped)
      → i < length done → i < length parts → drop i done ≡ drop i parts → is_err first ≡ true
      → WritesPart source sink text (get_or done i d) after now middle first → Continues parts done writer now i
      → WritesParts source sink text parts (set done i after) writer middle first
  written-last parts done writer now middle i d after first there below same failed one before =
      let rest = drop (i + 1) done in
      let up : suc i ≡ i + 1 = omega arith in
      let placed = set_split done i after there ∙ ap (λ k. take i done ++ after ∷ drop k done) up in
      let goes = stops _ first failed (same-next done parts i d there below same, refl, refl) in
      let next = subst (λ ps. WritesParts source sink text ps (after ∷ rest) now middle first) (sym (split parts done i d there below same)) (middle, first, one, goes) in
      subst (λ ps. WritesParts source sink text parts ps writer middle first) (sym placed) (before (after ∷ rest) middle first next)

  -- all
  pub written-all : (parts done : List (Part R)) (writer now : W) (i : ℕ) → length done ≤ i → length parts ≤ i → Continues parts done writer now i
      → WritesParts source sink text parts done writer now (Ok tt)
  written-all parts done writer now i there below before =
      let none = subst (λ ps. WritesParts source sink text ps [] now now (Ok tt)) (sym (drop_all i parts below)) (refl, refl, refl) in
      subst (λ ps. WritesParts source sink text parts ps writer now (Ok tt)) (append-nil (take i done) ∙ take_all i done there) (before [] now (Ok tt) none)
