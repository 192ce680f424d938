-- One byte more, and the end.
use Rattle.std.proofs.Common.{◌≡◌, ◌<◌, ◌-◌, length, drop, get_or, ap, subst, arith}
use Rattle.std.proofs.lemmas.Bool.{ne_eqb}
use Rattle.std.specs.Prelude.{◌==◌}
use Rattle.screen_text.specs.Recording.{after_line}
use Rattle.screen_text.proofs.RecordingLemmas.{after-next, after-here, after-all}
use Rattle.screen_text.proofs.recording.after_line.Goals as goal

pub returns-then-byte-eq10 : goal.returns-then-byte-eq10
returns-then-byte-eq10 c =
    let bytes = c.args.bytes.now in
    let i = c.loop-i.i in
    let inside : i < length bytes = omega (arith, c.loop-i-test.true, c.min-most.ensures) in
    let below : i < 4096 = omega (arith, c.loop-i-test.true, c.min-most.ensures) in
    let is : get_or bytes i 0 ≡ 0x0A = omega (arith, c.if-byte-eq10.true) in
    after-here 4096 i bytes inside below (ap (λ k. k == 0x0A) is) c.loop-i.invariant

pub loop-i-preserved : goal.loop-i-preserved
loop-i-preserved c =
    let bytes = c.args.bytes.now in
    let i = c.loop-i.i in
    let inside : i < length bytes = omega (arith, c.loop-i-test.true, c.min-most.ensures) in
    let below : i < 4096 = omega (arith, c.loop-i-test.true, c.min-most.ensures) in
    after-next 4096 i bytes inside below (ne_eqb (get_or bytes i 0) 0x0A (λ e. omega (arith, e, c.if-byte-eq10.false))) c.loop-i.invariant

pub returns : goal.returns
returns c =
    let bytes = c.args.bytes.now in
    let at : c.loop-i.i ≡ c.min-most.result = omega (arith, c.loop-i-test.false, c.loop-i.auto.i-end) in
    after-all 4096 c.min-most.result bytes c.min-most.ensures
    (subst (λ k. after_line (4096 - k) (drop k bytes) ≡ after_line 4096 bytes) at c.loop-i.invariant)
