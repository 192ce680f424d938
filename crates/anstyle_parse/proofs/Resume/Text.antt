-- The text of an operating system command so far is stored again, part by part.
use Rattle.std.proofs.Common.{◌≡◌, ℕ, ◌+◌, ◌<◌, ◌≤◌, Bool, true, false, not, List, [], ◌∷◌, ◌++◌, length, eqb, refl, sym, ap, ◌∙◌, subst, cond, append_assoc, append-nil, length-append, arith}
use Rattle.std.specs.Prelude.{◌==◌, IsTrue}
use Rattle.std.specs.List.{AllByRecursion, concat, flat_map}
use Rattle.std.proofs.lemmas.Bool.{cond-true, eqb-false, not-true, not_from_false, and_from}
use Rattle.anstyle_parse.specs.Stream.Bytes.{semicolon, bell}
use Rattle.anstyle_parse.specs.Stream.Arguments.{max_osc_bytes, max_osc_parts, is_kept}
use Rattle.anstyle_parse.specs.Stream.Items.{EachIs, is_text_byte}
use Rattle.anstyle_parse.specs.Laws.Lawful.{is_stored}
use Rattle.anstyle_parse.specs.Machine.Step.{Machine, new_machine, stored_count, after_osc_put}
use Rattle.anstyle_parse.specs.Laws.Checkpoint.{text_so_far}
use Rattle.anstyle_parse.proofs.Lists.Splits.{length-concat_push}
use Rattle.anstyle_parse.proofs.Bytes.Passing.{EachIs-append, EachIs-push, EachIs-weaker}
use Rattle.anstyle_parse.proofs.Machine.Steps.{with_part-room, storing-separator, storing-other}
use Rattle.anstyle_parse.proofs.Arguments.TextFold.{text_step, text_after, text_after-append}
use Rattle.anstyle_parse.proofs.Machine.Actions.{storing_by}
use Rattle.anstyle_parse.proofs.Arguments.Decimals.{AllByRecursion-push}
use Rattle.anstyle_parse.proofs.Canonical.Parts.{stored-kept, stored-no_semicolon, kept-text, semicolon-kept}

-- What the registers of a text hold: a part is closed only where there is room for a byte.
pub record HoldsText (m : Machine (List ℕ)) : Type 0 where
  pub parts_fit : length m.closed_parts ≤ max_osc_parts
  pub bytes_fit : stored_count m ≤ max_osc_bytes
  pub room : length (concat m.closed_parts) < max_osc_bytes
  pub closed : AllByRecursion (EachIs is_stored) m.closed_parts
  pub opened : EachIs is_stored m.open_part

-- a kept byte that is no separator is stored
is_stored-from : (b : ℕ) → is_kept b ≡ true → (b == semicolon) ≡ false → IsTrue (is_stored b)
unfolding is_stored
is_stored-from b kept e = and_from (is_kept b) (not (eqb b semicolon)) kept (not_from_false (eqb b semicolon) e)

-- one byte more
storing_by-holds : (full separates parts_full : Bool) (b : ℕ) (m : Machine (List ℕ)) → (stored_count m == max_osc_bytes) ≡ full → (b == semicolon) ≡ separates → (length m.closed_parts == max_osc_parts) ≡ parts_full
    → is_kept b ≡ true → HoldsText m → HoldsText (storing_by full separates parts_full b m)
storing_by-holds true separates parts_full b m e1 e2 e3 kept h = h
storing_by-holds false true true b m e1 e2 e3 kept h = h
storing_by-holds false true false b m e1 e2 e3 kept h =
    let some = eqb-false (stored_count m) max_osc_bytes e1 in
    let few = eqb-false (length m.closed_parts) max_osc_parts e3 in
    record {
      parts_fit = omega (arith, few, h.parts_fit, length-append m.closed_parts (m.open_part ∷ []));
      bytes_fit = omega (arith, h.bytes_fit, length-concat_push m.closed_parts m.open_part);
      room = omega (arith, some, h.bytes_fit, length-concat_push m.closed_parts m.open_part);
      closed = AllByRecursion-push (EachIs is_stored) m.closed_parts m.open_part h.closed h.opened;
      opened = tt;
    }
storing_by-holds false false parts_full b m e1 e2 e3 kept h =
    let some = eqb-false (stored_count m) max_osc_bytes e1 in
    record {
      parts_fit = h.parts_fit;
      bytes_fit = omega (arith, some, h.bytes_fit, length-append m.open_part (b ∷ []));
      room = h.room;
      closed = h.closed;
      opened = EachIs-push is_stored m.open_part b h.opened (is_stored-from b kept e2);
    }

-- a byte of the text, kept or not
text_step-holds : (kept : Bool) (b : ℕ) (m : Machine (List ℕ)) → is_kept b ≡ kept → HoldsText m → HoldsText (cond kept (after_osc_put b m) m)
text_step-holds true b m e h = storing_by-holds (stored_count m == max_osc_bytes) (b == semicolon) (length m.closed_parts == max_osc_parts) b m refl refl refl e h
text_step-holds false b m e h = h

-- and byte after byte
text_after-holds : (text : List ℕ) (m : Machine (List ℕ)) → HoldsText m → HoldsText (text_after text m)
text_after-holds [] m h = h
text_after-holds (b ∷ text) m h = text_after-holds text (text_step b m) (text_step-holds (is_kept b) b m refl h)

-- The registers of a whole text.
pub HoldsText-registers : (text : List ℕ) → HoldsText (text_after text (new_machine []))
HoldsText-registers text =
    text_after-holds text (new_machine []) (record { parts_fit = omega arith; bytes_fit = omega arith; room = omega arith; closed = tt; opened = tt })

-- a new machine with this text
abbrev pub telling : List (List ℕ) → List ℕ → Machine (List ℕ)
telling closed part = record (new_machine []) { closed_parts = closed; open_part = part }

-- Bytes that lead from one machine to another, one for each byte that is stored and each part that is closed.
record Tells (text : List ℕ) (m next : Machine (List ℕ)) : Type 0 where
  each : EachIs is_kept text
  after : text_after text m ≡ next
  size : length text + (stored_count m + length m.closed_parts) ≡ stored_count next + length next.closed_parts

-- some bytes after others
Tells-append : (first second : List ℕ) (m n next : Machine (List ℕ)) → Tells first m n → Tells second n next → Tells (first ++ second) m next
Tells-append first second m n next a b = record {
  each = EachIs-append is_kept first second a.each b.each;
  after = text_after-append first second m ∙ (ap (text_after second) a.after ∙ b.after);
  size = omega (arith, a.size, b.size, length-append first second);
}

-- no byte, where both machines are the same
Tells-none : (m next : Machine (List ℕ)) → m ≡ next → Tells [] m next
Tells-none m next e = record { each = tt; after = e; size = omega (arith, ap (λ (r : Machine (List ℕ)). stored_count r + length r.closed_parts) e) }

-- bytes of a part
Tells-part : (closed : List (List ℕ)) (part more : List ℕ) → EachIs is_stored more → length (concat closed) + length part + length more ≤ max_osc_bytes
    → Tells more (telling closed part) (telling closed (part ++ more))
Tells-part closed part [] each few = Tells-none (telling closed part) (telling closed (part ++ [])) (ap (telling closed) (sym (append-nil part)))
Tells-part closed part (b ∷ more) each few =
    let kept = stored-kept b each.0 in
    let stored : text_step b (telling closed part) ≡ telling closed (part ++ b ∷ []) =
    cond-true (is_kept b) (after_osc_put b (telling closed part)) (telling closed part) kept
    ∙ storing-other (telling closed part) b (λ e. omega arith) (eqb-false b semicolon (not-true (eqb b semicolon) (stored-no_semicolon b each.0))) in
    subst (λ list. Tells (b ∷ more) (telling closed part) (telling closed list)) (append_assoc part (b ∷ []) more)
    (Tells-append (b ∷ []) more (telling closed part) (telling closed (part ++ b ∷ [])) (telling closed ((part ++ b ∷ []) ++ more))
    (record { each = (kept, tt); after = stored; size = omega (arith, length-append part (b ∷ [])) })
    (Tells-part closed (part ++ b ∷ []) more each.1 (omega (arith, length-append part (b ∷ [])))))

-- the separator that closes it
Tells-separator : (closed : List (List ℕ)) (part : List ℕ) → length closed < max_osc_parts → length (concat closed) + length part < max_osc_bytes
    → Tells (semicolon ∷ []) (telling closed part) (telling (closed ++ part ∷ []) [])
Tells-separator closed part few room = record {
  each = (semicolon-kept, tt);
  after = cond-true (is_kept semicolon) (after_osc_put semicolon (telling closed part)) (telling closed part) semicolon-kept
      ∙ (storing-separator (telling closed part) semicolon (λ e. omega arith) refl ∙ with_part-room (telling closed part) (λ e. omega arith));
  size = omega (arith, length-concat_push closed part, length-append closed (part ∷ []));
}

-- closed parts
Tells-parts : (closed more : List (List ℕ)) → AllByRecursion (EachIs is_stored) more → length closed + length more ≤ max_osc_parts → length (concat closed) + length (concat more) < max_osc_bytes
    → Tells (flat_map (λ part. part ++ semicolon ∷ []) more) (telling closed []) (telling (closed ++ more) [])
Tells-parts closed [] each few room = Tells-none (telling closed []) (telling (closed ++ []) []) (ap (λ list. telling list []) (sym (append-nil closed)))
Tells-parts closed (part ∷ more) each few room =
    let total = length-append part (concat more) in
    subst (λ list. Tells (flat_map (λ part. part ++ semicolon ∷ []) (part ∷ more)) (telling closed []) (telling list [])) (append_assoc closed (part ∷ []) more)
    (Tells-append (part ++ semicolon ∷ []) (flat_map (λ part. part ++ semicolon ∷ []) more) (telling closed []) (telling (closed ++ part ∷ []) []) (telling ((closed ++ part ∷ []) ++ more) [])
    (Tells-append part (semicolon ∷ []) (telling closed []) (telling closed part) (telling (closed ++ part ∷ []) [])
    (Tells-part closed [] part each.0 (omega (arith, total)))
    (Tells-separator closed part (omega arith) (omega (arith, total))))
    (Tells-parts (closed ++ part ∷ []) more each.1 (omega (arith, length-append closed (part ∷ []))) (omega (arith, total, length-concat_push closed part))))

-- all of them, and the rest
Tells-text : (m : Machine (List ℕ)) → HoldsText m → Tells (text_so_far m) (new_machine []) (telling m.closed_parts m.open_part)
Tells-text m h =
    Tells-append (flat_map (λ part. part ++ semicolon ∷ []) m.closed_parts) m.open_part (new_machine []) (telling m.closed_parts []) (telling m.closed_parts m.open_part)
    (Tells-parts [] m.closed_parts h.closed (omega (arith, h.parts_fit)) (omega (arith, h.room)))
    (Tells-part m.closed_parts [] m.open_part h.opened (omega (arith, h.bytes_fit)))

-- From here on m holds what a text leaves.
module _ (m : Machine (List ℕ)) (h : HoldsText m) where
  -- the text so far leads a new machine to the parts and the rest
  pub text_after-text_so_far : text_after (text_so_far m) (new_machine []) ≡ telling m.closed_parts m.open_part
  text_after-text_so_far = (Tells-text m h).after

  -- it can stand in a command
  pub EachIs-text_so_far : EachIs (is_text_byte bell) (text_so_far m)
  EachIs-text_so_far = EachIs-weaker is_kept (is_text_byte bell) kept-text (text_so_far m) (Tells-text m h).each

  -- and has a byte for each that is stored and for each part that is closed
  pub length-text_so_far : length (text_so_far m) ≤ 1040
  length-text_so_far =
      let sized : length (text_so_far m) + 0 ≡ stored_count m + length m.closed_parts = (Tells-text m h).size in
      omega (arith, h.bytes_fit, h.parts_fit)
