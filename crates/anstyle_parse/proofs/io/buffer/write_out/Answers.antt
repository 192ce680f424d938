-- The bytes that a write took join those before.
use Rattle.std.proofs.Common.{◌≡◌, ◌-◌, ◌++◌, List, ℕ, length, take, drop, sym, ap, subst, ◌∙◌, arith, length-take, length-drop, take_all}
use lib.Seq.{take-add}
use Rattle.std.specs.Io.KnownBytes.{Appends}
use Rattle.std.proofs.KnownBytes.{Appends-trans}
use Rattle.anstyle_parse.proofs.io.buffer.write_out.Goals as goal

-- what is after the first n bytes, whole
rest_whole : (bytes : List ℕ) (n : ℕ) → take (length bytes - n) (drop n bytes) ≡ drop n bytes
rest_whole bytes n = take_all (length bytes - n) (drop n bytes) (omega (arith, length-drop n bytes))

pub loop-written-preserved : goal.loop-written-preserved
loop-written-preserved g c =
    let bytes = c.args.bytes.now in
    let n = c.loop-written.written in
    let count = c.in-Some.count in
    let before = c.loop-written.invariant in
    let S : List ℕ → Type 0 = λ t. Appends (g.W.Sink.contents c.args.writer.now) (g.W.Sink.contents c.write.new.self) t in
    record {
      within = omega (arith, c.in-Some.ensures.within, before.within, length-take (length bytes - n) (drop n bytes), length-drop n bytes);
      passed = subst S (ap (λ l. take n bytes ++ take count l) (rest_whole bytes n) ∙ sym (take-add n count bytes))
          (Appends-trans _ _ _ _ _ before.passed c.in-Some.ensures.passed);
      not_failed = c.in-Some.ensures.not_failed ∙ before.not_failed;
    }
