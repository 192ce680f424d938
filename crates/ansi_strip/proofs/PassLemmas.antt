-- Bytes that pass a test, piece by piece.
use Rattle.std.proofs.Common.{◌≡◌, ◌+◌, ℕ, Bool, List, [], ◌++◌, length, take, drop, refl, sym, ap, ap₂, ◌∙◌, subst, append_assoc, take-append-drop, arith}
use Rattle.std.proofs.lemmas.List.{length-take-le}
use Rattle.anstyle_parse.specs.Stream.Items.{EachIs}
use Rattle.anstyle_parse.proofs.Bytes.Passing.{EachIs-append}
use Rattle.ansi_strip.specs.Driving.{PassTo}

module _ (test : ℕ → Bool) where
  -- none so far
  pub PassTo_none : (bytes : List ℕ) → PassTo test bytes bytes
  PassTo_none bytes = record { passed = []; joined = refl; before = tt }

  -- and then others
  pub PassTo_more : (bytes rest passed left : List ℕ) → PassTo test bytes rest → rest ≡ passed ++ left → EachIs test passed → PassTo test bytes left
  PassTo_more bytes rest passed left so_far joined each = record {
    passed = so_far.passed ++ passed;
    joined = so_far.joined ∙ ap (λ l. so_far.passed ++ l) joined ∙ sym (append_assoc so_far.passed passed left);
    before = EachIs-append test so_far.passed passed so_far.before each;
  }

  pub PassTo_then : (bytes rest left : List ℕ) → PassTo test bytes rest → PassTo test rest left → PassTo test bytes left
  PassTo_then bytes rest left so_far more = PassTo_more bytes rest more.passed left so_far more.joined more.before

  -- all of them, where what is left passes too
  pub PassTo_all : (bytes left : List ℕ) → PassTo test bytes left → EachIs test left → EachIs test bytes
  PassTo_all bytes left so_far rest = subst (EachIs test) (sym so_far.joined) (EachIs-append test so_far.passed left so_far.before rest)

-- a chunk, and what comes after it
pub chunk_and_behind : (n : ℕ) (whole chunk behind : List ℕ) → chunk ≡ take n whole → behind ≡ drop n whole → whole ≡ chunk ++ behind
chunk_and_behind n whole chunk behind front back = sym (take-append-drop n whole) ∙ ap₂ (λ xs ys. xs ++ ys) (sym front) (sym back)

pub length-chunk : (n : ℕ) (whole chunk behind : List ℕ) → chunk ≡ take n whole → length behind + n ≡ length whole → length chunk ≡ n
length-chunk n whole chunk behind front room = ap length front ∙ length-take-le n whole (omega (arith, room))
