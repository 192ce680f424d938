-- After one ESC nothing that came before counts, and after 18 or 1A a parser stands as a new one.
use Rattle.std.proofs.Common.{◌≡◌, ℕ, Bool, true, false, List, [], ◌∷◌, ◌++◌, IsTrue, ⊎_elim, refl, sym, ap, ◌∙◌, subst, ◌↔◌}
use Rattle.std.specs.Prelude.{◌==◌}
use Rattle.std.proofs.lemmas.Bool.{both_ways, or_cases, eqb-true}
use Rattle.std.proofs.lemmas.List.{append_cancel_left}
use Rattle.anstyle_parse.specs.Stream.Bytes.{is_within, is_cancel, escape_byte}
use Rattle.anstyle_parse.specs.Stream.Characters.{is_proper_front}
use Rattle.anstyle_parse.specs.Stream.Call.{Call}
use Rattle.anstyle_parse.specs.Stream.Calls.{Continues}
use Rattle.anstyle_parse.specs.Stream.Items.{Body, escape, EachIs}
use Rattle.anstyle_parse.specs.Machine.Decoder.{decoded}
use Rattle.anstyle_parse.specs.Machine.Step.{Machine, new_machine, machine_after, machine_calls}
use Rattle.anstyle_parse.specs.Machine.Stands.{counted, StandsAfter}
use Rattle.anstyle_parse.proofs.Bytes.Classes.{Class, cancel_byte, class_below, class_of, is_cancel_at, is_cancel-class}
use Rattle.anstyle_parse.proofs.Division.Grow.{Open, nothing, front, inside, start, grow, grow_body, open_after}
use Rattle.anstyle_parse.proofs.Division.Split.{open_after-append}
use Rattle.anstyle_parse.proofs.Characters.Table.{EachIs-front, is_proper_front-nil}
use Rattle.anstyle_parse.proofs.Characters.Tests.{IsFront-test}
use Rattle.anstyle_parse.proofs.Division.Exists.{IsOpen, IsOpen-open_after}
use Rattle.anstyle_parse.proofs.Division.Only.{AreCalls-only, grow-broken}
use Rattle.anstyle_parse.proofs.Machine.Counted.{counted-machine}
use Rattle.anstyle_parse.proofs.Agreement.Values.{value_at}
use Rattle.anstyle_parse.proofs.Agreement.Whole.{machine-division, StandsAfter-value, AreCalls-machine, Continues-machine}

-- a machine of which what counts is what an open item leaves stands after the bytes that leave it
pub StandsAfter-from_value : (m : Machine (List ℕ)) (bytes : List ℕ) → counted m ≡ value_at (open_after nothing bytes) → StandsAfter m bytes
StandsAfter-from_value m bytes e = e ∙ sym (machine-division bytes).0

-- what leaves the same open is the same to stand after
pub StandsAfter-open : (m : Machine (List ℕ)) (before other : List ℕ) → open_after nothing before ≡ open_after nothing other
    → StandsAfter m before → StandsAfter m other
StandsAfter-open m before other e stands = StandsAfter-from_value m other (StandsAfter-value m before stands ∙ ap value_at e)

-- what holds of each byte holds of the last
EachIs-last : (test : ℕ → Bool) (a : List ℕ) (b : ℕ) → EachIs test (a ++ b ∷ []) → IsTrue (test b)
EachIs-last test [] b each = each.0
EachIs-last test (x ∷ a) b each = EachIs-last test a b each.1

-- a byte that goes on with no character breaks one that is begun, and then it is as after nothing
grow-front_stopped : (bytes : List ℕ) (b : ℕ) → is_within 0x80 0xBF b ≡ false → IsTrue (is_proper_front bytes) → (grow (front bytes) b).next ≡ (grow nothing b).next
grow-front_stopped [] b stops proper = absurd (both_ways (is_proper_front []) is_proper_front-nil proper)
grow-front_stopped (a ∷ x) b stops proper =
    ap (λ growth. growth.next)
    (grow-broken (a ∷ x) b (λ is. both_ways (is_within 0x80 0xBF b) stops
    (EachIs-last (is_within 0x80 0xBF) x b (EachIs-front a (x ++ b ∷ []) ((IsFront-test (a ∷ (x ++ b ∷ []))).1 is)))))

-- after such a byte the same is open after anything, if it is so after nothing and after a body
stops_open : (o next : Open) (b : ℕ) → is_within 0x80 0xBF b ≡ false → IsOpen o → (grow nothing b).next ≡ next
    → ((body : Body) → (grow (inside body) b).next ≡ next) → open_after o (b ∷ []) ≡ next
stops_open nothing next b stops is begins ends = begins
stops_open (front bytes) next b stops is begins ends = grow-front_stopped bytes b stops is ∙ begins
stops_open (inside body) next b stops is begins ends = ends body

-- ESC begins a sequence, whatever is open
escape_begins : (o : Open) → IsOpen o → open_after o (escape_byte ∷ []) ≡ inside (escape [])
unfolding grow class_of class_below is_within
escape_begins o is = stops_open o (inside (escape [])) escape_byte refl is refl (λ body. refl)

-- 18 and 1A end a body
cancel_body_next : (body : Body) (b : ℕ) (class : Class) → is_cancel_at class ≡ true → (grow_body body b class).next ≡ nothing
cancel_body_next body b cancel_byte t = refl
cancel_body_next body b class t = cc

-- and begin nothing
cancel_start_next : (b : ℕ) (class : Class) → is_cancel_at class ≡ true → (start b class).next ≡ nothing
cancel_start_next b cancel_byte t = refl
cancel_start_next b class t = cc

-- they go on with no character
cancel_stops : (b : ℕ) → IsTrue (is_cancel b) → is_within 0x80 0xBF b ≡ false
unfolding is_cancel is_within
cancel_stops b cancels =
    ⊎_elim (λ e. ap (is_within 0x80 0xBF) (eqb-true b 0x18 e)) (λ e. ap (is_within 0x80 0xBF) (eqb-true b 0x1A e)) (or_cases (b == 0x18) (b == 0x1A) cancels)

-- so nothing is open after them, whatever was
cancel_ends : (o : Open) (b : ℕ) → IsTrue (is_cancel b) → IsOpen o → open_after o (b ∷ []) ≡ nothing
unfolding grow
cancel_ends o b cancels is =
    let class : is_cancel_at (class_of b) ≡ true = sym (is_cancel-class b) ∙ cancels in
    stops_open o nothing b (cancel_stops b cancels) is (cancel_start_next b (class_of b) class) (λ body. cancel_body_next body b (class_of b) class)

-- what is open after some bytes can come about
is_open : (bytes : List ℕ) → IsOpen (open_after nothing bytes)
is_open bytes = IsOpen-open_after nothing bytes tt

-- After one ESC byte a machine stands as after ESC alone, whatever came before.
pub forgotten : (m : Machine (List ℕ)) (g : List ℕ) → StandsAfter m (g ++ escape_byte ∷ []) → StandsAfter m (escape_byte ∷ [])
forgotten m g stands =
    StandsAfter-open m (g ++ escape_byte ∷ []) (escape_byte ∷ [])
    (open_after-append nothing g (escape_byte ∷ []) ∙ (escape_begins (open_after nothing g) (is_open g) ∙ sym (escape_begins nothing tt))) stands

-- And after 18 or 1A a machine stands as a new one.
pub cancelled_is_new : (m : Machine (List ℕ)) (g : List ℕ) (b : ℕ) → IsTrue (is_cancel b) → StandsAfter m (g ++ b ∷ []) → StandsAfter m []
cancelled_is_new m g b cancels stands =
    StandsAfter-open m (g ++ b ∷ []) [] (open_after-append nothing g (b ∷ []) ∙ cancel_ends (open_after nothing g) b cancels (is_open g)) stands

-- machines of which the same counts make the same calls for all bytes
pub same_calls : (m n : Machine (List ℕ)) → counted m ≡ counted n → (bytes : List ℕ) → machine_calls decoded bytes m ≡ machine_calls decoded bytes n
same_calls m n e bytes = (counted-machine bytes m n e).1

-- what continues the calls of the bytes before is what a machine calls that stands there
pub Continues-only : (m : Machine (List ℕ)) (before bytes : List ℕ) (more : List Call) → StandsAfter m before → Continues before bytes more → more ≡ machine_calls decoded bytes m
Continues-only m before bytes more stands continues =
    let first : List Call = machine_calls decoded before (new_machine []) in
    append_cancel_left first more (machine_calls decoded bytes m)
    (AreCalls-only (before ++ bytes) (first ++ more) (first ++ machine_calls decoded bytes m)
    (continues first (AreCalls-machine before)) (Continues-machine m before bytes stands first (AreCalls-machine before)))

-- where one machine stands after two lists, the same calls continue those of both
pub Continues-same : (m : Machine (List ℕ)) (before other bytes : List ℕ) (more : List Call) → StandsAfter m before → StandsAfter m other
    → Continues before bytes more → Continues other bytes more
Continues-same m before other bytes more stands too continues =
    subst (λ calls. Continues other bytes calls) (sym (Continues-only m before bytes more stands continues)) (Continues-machine m other bytes too)

-- The calls for what follows ESC are those for what follows ESC alone, whatever came before.
pub Continues-forgotten : (g bytes : List ℕ) (more : List Call) → Continues (escape_byte ∷ []) bytes more ↔ Continues (g ++ escape_byte ∷ []) bytes more
Continues-forgotten g bytes more =
    let m : Machine (List ℕ) = machine_after decoded (g ++ escape_byte ∷ []) (new_machine []) in (
      Continues-same m (escape_byte ∷ []) (g ++ escape_byte ∷ []) bytes more (forgotten m g refl) refl,
      Continues-same m (g ++ escape_byte ∷ []) (escape_byte ∷ []) bytes more refl (forgotten m g refl),
    )

-- And those for what follows 18 or 1A are those for what follows nothing.
pub Continues-cancelled : (g bytes : List ℕ) (b : ℕ) (more : List Call) → IsTrue (is_cancel b) → Continues [] bytes more ↔ Continues (g ++ b ∷ []) bytes more
Continues-cancelled g bytes b more cancels =
    let m : Machine (List ℕ) = machine_after decoded (g ++ b ∷ []) (new_machine []) in (
      Continues-same m [] (g ++ b ∷ []) bytes more (cancelled_is_new m g b cancels refl) refl,
      Continues-same m (g ++ b ∷ []) [] bytes more refl (cancelled_is_new m g b cancels refl),
    )
