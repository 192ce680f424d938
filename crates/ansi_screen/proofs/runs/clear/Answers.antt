-- As many cells more as are cleared; those that are cleared at the end are all.
use Rattle.std.proofs.Common.{◌≡◌, ◌≤◌, length, drop, ap, sym, ◌∙◌, arith, rules}
use Rattle.std.specs.Prelude.{replicate}
use Rattle.std.proofs.lemmas.List.{take_at, take_all, length-append, length-drop, length-replicate, length-take-le}
use Rattle.ansi_screen.proofs.CellLemmas.{cleared-more, length-copied}
use Rattle.ansi_screen.proofs.runs.clear.Goals as goal

pub copies-init : goal.copies-init
copies-init c =
    let n = c.min-cleared.result in
    let cells = c.args.cells.now in
    let few : c.fill.new.self ≡ replicate n c.args.blank = search rules in
    let short : length c.fill.new.self ≡ n = ap length few ∙ length-replicate n c.args.blank in
    record {
      long = omega (arith, length-append c.fill.new.self (drop n cells), length-drop n cells, short, c.min-cleared.ensures);
      within = omega (arith, length-append c.fill.new.self (drop n cells), length-drop n cells, short, c.min-cleared.ensures);
      some = λ is. omega (arith, is, length-append c.fill.new.self (drop n cells), length-drop n cells, short, c.min-cleared.ensures);
      cleared = take_at c.fill.new.self (drop n cells) n short ∙ few;
    }

pub copies-smaller : goal.copies-smaller
copies-smaller c =
    let before = c.copies.invariant in
    let front = c.split_at_mut-front.result.0.now in
    let rest = c.split_at_mut-front.result.1.now in
    let new = c.copy_from_slice.new.self in
    let k = c.min-count.result in
    let some = before.some (omega (arith, c.copies-test.true)) in
    let few : k ≤ length rest = omega (arith, c.min-most.ensures, c.min-count.ensures, c.split_at_mut-front.ensures.back_len) in
    let short : length new ≡ k = c.copy_from_slice.ensures.len ∙ length-take-le k rest few in
    let long = length-copied k c.copies.cells front rest new c.split_at_mut-front.ensures.value short few in
    omega (arith, some, c.copies-test.true, c.min-most.ensures, c.min-count.ensures, long)

pub copies-preserved : goal.copies-preserved
copies-preserved c =
    let before = c.copies.invariant in
    let front = c.split_at_mut-front.result.0.now in
    let rest = c.split_at_mut-front.result.1.now in
    let new = c.copy_from_slice.new.self in
    let n = c.copies.cleared in
    let k = c.min-count.result in
    let few : k ≤ length rest = omega (arith, c.min-most.ensures, c.min-count.ensures, c.split_at_mut-front.ensures.back_len) in
    let short : length new ≡ k = c.copy_from_slice.ensures.len ∙ length-take-le k rest few in
    let long = length-copied k c.copies.cells front rest new c.split_at_mut-front.ensures.value short few in
    record {
      long = long ∙ before.long;
      within = omega (arith, long, before.within, c.min-most.ensures, c.min-count.ensures);
      some = λ is. omega (arith, before.some (omega (arith, is, long)));
      cleared = cleared-more n k c.args.blank front rest new (omega (arith, c.min-most.ensures, c.min-count.ensures))
          (c.split_at_mut-front.ensures.front ∙ before.cleared) c.copy_from_slice.ensures.after;
    }

pub returns : goal.returns
returns c =
    let last = c.copies.invariant in
    let all : c.copies.cleared ≡ length c.copies.cells = omega (arith, last.within, c.copies-test.false) in
    sym (take_all c.copies.cleared c.copies.cells (omega (arith, all)))
    ∙ (last.cleared ∙ ap (λ n. replicate n c.args.blank) (all ∙ last.long))
