-- The number of modifiers says which they are.
use Rattle.std.proofs.Common.{◌≡◌, ℕ, ◌+◌, ◌<◌, ◌≤◌, Bool, true, false, refl, ap, ◌∙◌, arith, lit<}
use Rattle.terminal_keys.specs.declared.key.Modifiers.{Modifiers}
use Rattle.terminal_keys.specs.Keys.{bit, number_of_modifiers}

bit-le : (b : Bool) (n : ℕ) → bit b n ≤ n
bit-le true n = omega arith
bit-le false n = omega arith

-- the greatest of several, each less than the next
top : (p q : Bool) (n x y : ℕ) → x < n → y < n → x + bit p n ≡ y + bit q n → (p ≡ q) × (x ≡ y)
top true true n x y h k e = (refl, omega arith)
top true false n x y h k e = absurd (omega arith)
top false true n x y h k e = absurd (omega arith)
top false false n x y h k e = (refl, omega arith)

abbrev made : (s a c u h m l n : Bool) → Modifiers
made s a c u h m l n = record {
  shift = s;
  alt = a;
  control = c;
  super_key = u;
  hyper = h;
  meta = m;
  caps_lock = l;
  num_lock = n;
}

-- the sum of the first of them
abbrev sum3 : Modifiers → ℕ
sum3 m = bit m.shift 1 + bit m.alt 2 + bit m.control 4

sum3-lt : (m : Modifiers) → sum3 m < 8
sum3-lt m = omega (arith, bit-le m.shift 1, bit-le m.alt 2, bit-le m.control 4)

abbrev sum6 : Modifiers → ℕ
sum6 m = sum3 m + (bit m.super_key 8 + bit m.hyper 16 + bit m.meta 32)

sum6-lt : (m : Modifiers) → sum6 m < 64
sum6-lt m = omega (arith, sum3-lt m, bit-le m.super_key 8, bit-le m.hyper 16, bit-le m.meta 32)

pub modifiers-few : (m : Modifiers) → number_of_modifiers m ≤ 256
modifiers-few m = omega (arith, sum6-lt m, bit-le m.caps_lock 64, bit-le m.num_lock 128)

record Three (a b : Modifiers) : Type 0 where
  shift : a.shift ≡ b.shift
  alt : a.alt ≡ b.alt
  control : a.control ≡ b.control

three : (a b : Modifiers) → sum3 a ≡ sum3 b → Three a b
three a b e =
    let third = top a.control b.control 4 (bit a.shift 1 + bit a.alt 2) (bit b.shift 1 + bit b.alt 2)
    (omega (arith, bit-le a.shift 1, bit-le a.alt 2)) (omega (arith, bit-le b.shift 1, bit-le b.alt 2)) e in
    let second = top a.alt b.alt 2 (bit a.shift 1) (bit b.shift 1) (omega (arith, bit-le a.shift 1)) (omega (arith, bit-le b.shift 1)) third.1 in
    let first = top a.shift b.shift 1 0 0 (lit< tt) (lit< tt) (omega (arith, second.1)) in
    record { shift = first.0; alt = second.0; control = third.0 }

record Six (a b : Modifiers) : Type 0 where
  near : Three a b
  super_key : a.super_key ≡ b.super_key
  hyper : a.hyper ≡ b.hyper
  meta : a.meta ≡ b.meta

six : (a b : Modifiers) → sum6 a ≡ sum6 b → Six a b
six a b e =
    let third = top a.meta b.meta 32 (sum3 a + bit a.super_key 8 + bit a.hyper 16) (sum3 b + bit b.super_key 8 + bit b.hyper 16)
    (omega (arith, sum3-lt a, bit-le a.super_key 8, bit-le a.hyper 16)) (omega (arith, sum3-lt b, bit-le b.super_key 8, bit-le b.hyper 16))
    (omega (arith, e)) in
    let second = top a.hyper b.hyper 16 (sum3 a + bit a.super_key 8) (sum3 b + bit b.super_key 8)
    (omega (arith, sum3-lt a, bit-le a.super_key 8)) (omega (arith, sum3-lt b, bit-le b.super_key 8)) third.1 in
    let first = top a.super_key b.super_key 8 (sum3 a) (sum3 b) (sum3-lt a) (sum3-lt b) second.1 in
    record { near = three a b first.1; super_key = first.0; hyper = second.0; meta = third.0 }

pub modifiers-once : (a b : Modifiers) → number_of_modifiers a ≡ number_of_modifiers b → a ≡ b
modifiers-once a b e =
    let last = top a.num_lock b.num_lock 128 (sum6 a + bit a.caps_lock 64) (sum6 b + bit b.caps_lock 64)
    (omega (arith, sum6-lt a, bit-le a.caps_lock 64)) (omega (arith, sum6-lt b, bit-le b.caps_lock 64)) (omega (arith, e)) in
    let caps = top a.caps_lock b.caps_lock 64 (sum6 a) (sum6 b) (sum6-lt a) (sum6-lt b) last.1 in
    let rest = six a b caps.1 in
    ap (λ v. made v a.alt a.control a.super_key a.hyper a.meta a.caps_lock a.num_lock) rest.near.shift
    ∙ (ap (λ v. made b.shift v a.control a.super_key a.hyper a.meta a.caps_lock a.num_lock) rest.near.alt
    ∙ (ap (λ v. made b.shift b.alt v a.super_key a.hyper a.meta a.caps_lock a.num_lock) rest.near.control
    ∙ (ap (λ v. made b.shift b.alt b.control v a.hyper a.meta a.caps_lock a.num_lock) rest.super_key
    ∙ (ap (λ v. made b.shift b.alt b.control b.super_key v a.meta a.caps_lock a.num_lock) rest.hyper
    ∙ (ap (λ v. made b.shift b.alt b.control b.super_key b.hyper v a.caps_lock a.num_lock) rest.meta
    ∙ (ap (λ v. made b.shift b.alt b.control b.super_key b.hyper b.meta v a.num_lock) caps.0
    ∙ ap (λ v. made b.shift b.alt b.control b.super_key b.hyper b.meta b.caps_lock v) last.0))))))
