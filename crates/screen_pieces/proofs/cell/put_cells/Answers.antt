-- Ten cells more are written, and at last those that are left.
use Rattle.std.proofs.Common.{◌≤◌, ◌+◌, ◌-◌, length, ◌∙◌, arith}
use Rattle.std.proofs.Math.Seq.{take-length}
use Rattle.screen_pieces.proofs.PartLemmas.{written-more, reserved-more, rest-same}
use Rattle.screen_pieces.proofs.cell.put_cells.Goals as goal

pub tens-preserved : goal.tens-preserved
tens-preserved c =
    let n = c.tens.done in let before = c.tens.invariant in
    let fits : n + 10 ≤ length c.args.cells.now = omega (arith, before.within, c.tens-test.true) in
    let inside : n + 10 ≤ length c.tens.room = omega (arith, fits, c.requires, c.tens.auto.room) in
    record {
      within = fits;
      written = written-more n (n + 10 - n) (n + 10) c.tens.room c.put_few.new.room c.args.cells.now (omega arith) fits inside c.put_few.auto.room
          before.written c.put_few.ensures.written;
      reserved = reserved-more n (n + 10 - n) (n + 10) c.tens.room c.put_few.new.room c.args.cells.now (omega arith) fits inside c.put_few.auto.room
          before.reserved c.put_few.ensures.reserved;
      rest = rest-same n (n + 10 - n) (n + 10) c.tens.room c.put_few.new.room c.args.cells.now (omega arith) fits inside c.put_few.auto.room
          (length c.args.cells.now) fits ∙ before.rest;
    }

pub returns-clause-written : goal.returns-clause-written
returns-clause-written c =
    let n = c.tens.done in let before = c.tens.invariant in let end = length c.args.cells.now in
    let inside : end ≤ length c.tens.room = omega (arith, c.requires, c.tens.auto.room) in
    written-more n (end - n) end c.tens.room c.put_each.new.room c.args.cells.now (omega (arith, before.within)) (omega arith) inside
    c.put_each.auto.room before.written c.put_each.ensures.written
    ∙ take-length c.args.cells.now

pub returns-clause-reserved : goal.returns-clause-reserved
returns-clause-reserved c =
    let n = c.tens.done in let before = c.tens.invariant in let end = length c.args.cells.now in
    let inside : end ≤ length c.tens.room = omega (arith, c.requires, c.tens.auto.room) in
    reserved-more n (end - n) end c.tens.room c.put_each.new.room c.args.cells.now (omega (arith, before.within)) (omega arith) inside
    c.put_each.auto.room before.reserved c.put_each.ensures.reserved

pub returns-clause-rest : goal.returns-clause-rest
returns-clause-rest c =
    let n = c.tens.done in let before = c.tens.invariant in let end = length c.args.cells.now in
    let inside : end ≤ length c.tens.room = omega (arith, c.requires, c.tens.auto.room) in
    rest-same n (end - n) end c.tens.room c.put_each.new.room c.args.cells.now (omega (arith, before.within)) (omega arith) inside
    c.put_each.auto.room end (omega arith) ∙ before.rest
