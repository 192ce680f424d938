-- What is moved to the front is what stood after the first.
use Rattle.std.proofs.Common.{◌≡◌, ◌≤◌, ◌+◌, ◌-◌, take, drop, sym, ap, ◌∙◌, arith, length-take, length-drop}
use Rattle.std.proofs.lemmas.List.{drop-take}
use Rattle.std.proofs.lemmas.List.Edits.{take-paste}
use Rattle.std.specs.List.{copy_within}
use Rattle.anstyle_parse.proofs.io.held.Held.drop_front.Goals as goal

pub returns : goal.returns
returns c =
    let held = c.args.self.now in
    let count = c.args.count in
    let left = held.len - count in
    let after = copy_within held.bytes count held.len 0 in
    let within : count ≤ held.len = omega (arith, c.requires, length-take held.len held.bytes) in
    let all : count + left ≡ held.len = omega arith in
    let alone : left ≡ 0 + left = omega arith in
    let moved : take (0 + left) after ≡ take left (drop count held.bytes) =
    take-paste held.bytes 0 (drop count held.bytes) left (omega arith) (omega (arith, length-drop count held.bytes)) in
    ap (take left) c.copy_within.ensures.after ∙ ap (λ n. take n after) alone ∙ moved
    ∙ sym (drop-take count left held.bytes) ∙ ap (λ n. drop count (take n held.bytes)) all
