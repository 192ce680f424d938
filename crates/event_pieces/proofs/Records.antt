-- The records of some calls and then of others, and where the bytes of records stand.
use Rattle.std.proofs.Common.{◌≡◌, ◌+◌, ℕ, Bool, true, false, List, [], ◌∷◌, ◌++◌, length, refl, sym, ap, ◌∙◌, subst, length-append, arith}
use Rattle.anstyle_parse.specs.Stream.Call.{Call}
use Rattle.event_pieces.specs.declared.event.Event.{Event}
use Rattle.event_pieces.specs.Event.{with_length, is_text, joined, record_of, records_of, call_bytes, calls_bytes}

-- records and then others: two texts at their seam are one
abbrev pub glued : List Event → List Event → List Event
glued [] others = others
glued (event ∷ []) others = joined event others
glued (event ∷ next ∷ events) others = event ∷ glued (next ∷ events) others

-- two texts, and two records of which one is no text
pub joined-text : (a b : Event) (rest : List Event) → is_text a ≡ true → is_text b ≡ true → joined a (b ∷ rest) ≡ with_length a (a.length + b.length) ∷ rest
joined-text a b rest p q = rw (p, q) refl

pub joined-first : (a b : Event) (rest : List Event) → is_text a ≡ false → joined a (b ∷ rest) ≡ a ∷ b ∷ rest
joined-first a b rest p = rw p refl

pub joined-second : (a b : Event) (rest : List Event) → is_text b ≡ false → joined a (b ∷ rest) ≡ a ∷ b ∷ rest
joined-second a b rest q = by_text (is_text a) refl
  where
    by_text : (text : Bool) → is_text a ≡ text → joined a (b ∷ rest) ≡ a ∷ b ∷ rest
    by_text true p = rw (p, q) refl
    by_text false p = rw p refl

-- one record before the first of two lists, or before both
module _ (r x : Event) (others : List Event) where
  joined-alone : (a b : Bool) → is_text r ≡ a → is_text x ≡ b → joined r (x ∷ []) ≡ glued (joined r (x ∷ [])) []
  joined-alone true true p q = joined-text r x [] p q ∙ sym (ap (λ l. glued l []) (joined-text r x [] p q))
  joined-alone false b p q = joined-first r x [] p ∙ sym (ap (λ l. glued l []) (joined-first r x [] p))
  joined-alone true false p q = joined-second r x [] q ∙ sym (ap (λ l. glued l []) (joined-second r x [] q))

  seam : (y : Event) (ys : List Event) (a b c : Bool) → is_text r ≡ a → is_text x ≡ b → is_text y ≡ c → joined r (joined x (y ∷ ys)) ≡ glued (joined r (x ∷ [])) (y ∷ ys)
  seam y ys true true true p q s =
      ap (joined r) (joined-text x y ys q s)
      ∙ joined-text r (with_length x (x.length + y.length)) ys p q
      ∙ ap (λ n. with_length r n ∷ ys) (omega arith)
      ∙ sym (ap (λ l. glued l (y ∷ ys)) (joined-text r x [] p q) ∙ joined-text (with_length r (r.length + x.length)) y ys p s)
  seam y ys true true false p q s =
      ap (joined r) (joined-second x y ys s)
      ∙ joined-text r x (y ∷ ys) p q
      ∙ sym (ap (λ l. glued l (y ∷ ys)) (joined-text r x [] p q) ∙ joined-second (with_length r (r.length + x.length)) y ys s)
  seam y ys true false c p q s = ap (joined r) (joined-first x y ys q) ∙ joined-second r x (y ∷ ys) q ∙ sym (ap (λ l. glued l (y ∷ ys)) (joined-second r x [] q) ∙ ap (λ l. r ∷ l) (joined-first x y ys q))
  seam y ys false true true p q s =
      ap (joined r) (joined-text x y ys q s) ∙ joined-first r (with_length x (x.length + y.length)) ys p
      ∙ sym (ap (λ l. glued l (y ∷ ys)) (joined-first r x [] p) ∙ ap (λ l. r ∷ l) (joined-text x y ys q s))
  seam y ys false true false p q s = ap (joined r) (joined-second x y ys s) ∙ joined-first r x (y ∷ ys) p ∙ sym (ap (λ l. glued l (y ∷ ys)) (joined-first r x [] p) ∙ ap (λ l. r ∷ l) (joined-second x y ys s))
  seam y ys false false c p q s = ap (joined r) (joined-first x y ys q) ∙ joined-first r x (y ∷ ys) p ∙ sym (ap (λ l. glued l (y ∷ ys)) (joined-first r x [] p) ∙ ap (λ l. r ∷ l) (joined-first x y ys q))

  deeper : (next : Event) (xs : List Event) (a b : Bool) → is_text r ≡ a → is_text x ≡ b → joined r (x ∷ glued (next ∷ xs) others) ≡ glued (joined r (x ∷ next ∷ xs)) others
  deeper next [] true true p q = joined-text r x (joined next others) p q ∙ sym (ap (λ l. glued l others) (joined-text r x (next ∷ []) p q))
  deeper next [] true false p q = joined-second r x (joined next others) q ∙ sym (ap (λ l. glued l others) (joined-second r x (next ∷ []) q))
  deeper next [] false b p q = joined-first r x (joined next others) p ∙ sym (ap (λ l. glued l others) (joined-first r x (next ∷ []) p))
  deeper next (third ∷ xs) true true p q = joined-text r x (next ∷ glued (third ∷ xs) others) p q ∙ sym (ap (λ l. glued l others) (joined-text r x (next ∷ third ∷ xs) p q))
  deeper next (third ∷ xs) true false p q = joined-second r x (next ∷ glued (third ∷ xs) others) q ∙ sym (ap (λ l. glued l others) (joined-second r x (next ∷ third ∷ xs) q))
  deeper next (third ∷ xs) false b p q = joined-first r x (next ∷ glued (third ∷ xs) others) p ∙ sym (ap (λ l. glued l others) (joined-first r x (next ∷ third ∷ xs) p))

pub joined-glued : (r : Event) (xs others : List Event) → joined r (glued xs others) ≡ glued (joined r xs) others
joined-glued r [] others = refl
joined-glued r (x ∷ []) [] = joined-alone r x [] (is_text r) (is_text x) refl refl
joined-glued r (x ∷ []) (y ∷ ys) = seam r x [] y ys (is_text r) (is_text x) (is_text y) refl refl refl
joined-glued r (x ∷ next ∷ xs) others = deeper r x others next xs (is_text r) (is_text x) refl refl

pub records_of-append : (start : ℕ) (calls more : List Call)
    → records_of start (calls ++ more) ≡ glued (records_of start calls) (records_of (start + length (calls_bytes calls)) more)
records_of-append start [] more = ap (λ n. records_of n more) (omega arith)
records_of-append start (call ∷ calls) more =
    let place_behind = start + length (call_bytes call) in
    let place : place_behind + length (calls_bytes calls) ≡ start + length (calls_bytes (call ∷ calls)) = omega (arith, length-append (call_bytes call) (calls_bytes calls)) in
    ap (λ rs. joined (record_of start call) rs) (records_of-append place_behind calls more)
    ∙ joined-glued (record_of start call) (records_of place_behind calls) (records_of (place_behind + length (calls_bytes calls)) more)
    ∙ ap (λ n. glued (joined (record_of start call) (records_of place_behind calls)) (records_of n more)) place

-- the last record before others
pub glued-last : (events : List Event) (last : Event) (others : List Event) → glued (events ++ last ∷ []) others ≡ events ++ joined last others
glued-last [] last others = refl
glued-last (event ∷ []) last others = refl
glued-last (event ∷ next ∷ events) last others = ap (λ es. event ∷ es) (glued-last (next ∷ events) last others)

-- the last of some records
pub record SplitsLast (events : List Event) : Type 0 where
  pub front : List Event
  pub last : Event
  pub whole : events ≡ front ++ last ∷ []

pub splits-last : (event : Event) (events : List Event) → SplitsLast (event ∷ events)
splits-last event [] = record { front = []; last = event; whole = refl }
splits-last event (next ∷ events) =
    let rest = splits-last next events in
    record { front = event ∷ rest.front; last = rest.last; whole = ap (λ es. event ∷ es) rest.whole }

-- Records whose bytes stand one after another, from a place to another.
abbrev pub Follow : (start : ℕ) → List Event → (end : ℕ) → Type 0
Follow start [] end = start ≡ end
Follow start (event ∷ events) end = (event.start ≡ start) × Follow (start + event.length) events end

joined-follow : (start end : ℕ) (event next : Event) (events : List Event) (a b : Bool) → is_text event ≡ a → is_text next ≡ b
    → Follow start (event ∷ next ∷ events) end → Follow start (joined event (next ∷ events)) end
joined-follow start end event next events true true p q follow =
    subst (λ es. Follow start es end) (sym (joined-text event next events p q))
    (follow.0, subst (λ n. Follow n events end) (omega arith) follow.1.1)
joined-follow start end event next events true false p q follow = subst (λ es. Follow start es end) (sym (joined-second event next events q)) follow
joined-follow start end event next events false b p q follow = subst (λ es. Follow start es end) (sym (joined-first event next events p)) follow

Follow-joined : (start end : ℕ) (event : Event) (events : List Event) → Follow start (event ∷ events) end → Follow start (joined event events) end
Follow-joined start end event [] follow = follow
Follow-joined start end event (next ∷ events) follow = joined-follow start end event next events (is_text event) (is_text next) refl refl follow

pub records-follow : (start : ℕ) (calls : List Call) → Follow start (records_of start calls) (start + length (calls_bytes calls))
records-follow start [] = omega arith
records-follow start (call ∷ calls) =
    let place_behind = start + length (call_bytes call) in
    let end : place_behind + length (calls_bytes calls) ≡ start + length (calls_bytes (call ∷ calls)) = omega (arith, length-append (call_bytes call) (calls_bytes calls)) in
    Follow-joined start (start + length (calls_bytes (call ∷ calls))) (record_of start call) (records_of place_behind calls)
    (refl, subst (λ n. Follow place_behind (records_of place_behind calls) n) end (records-follow place_behind calls))

pub last-ends : (start end : ℕ) (events : List Event) (last : Event) → Follow start (events ++ last ∷ []) end → last.start + last.length ≡ end
last-ends start end [] last (at, ends) = ap (λ n. n + last.length) at ∙ ends
last-ends start end (event ∷ events) last (at, follow) = last-ends (start + event.length) end events last follow
