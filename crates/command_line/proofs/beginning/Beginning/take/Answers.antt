-- What has room of the piece is put after what has come.
use Rattle.std.proofs.Common.{◌≡◌, length, arith, rules}
use Rattle.command_line.proofs.BeginningLemmas.{none-added, some-added}
use Rattle.command_line.proofs.beginning.Beginning.take.Goals as goal

pub returns-then-more-eq0-clause-bytes : goal.returns-then-more-eq0-clause-bytes
returns-then-more-eq0-clause-bytes c =
    let self = c.args.self.now in
    none-added self.count c.min-more.result self.bytes c.args.piece.now (search (rules, arith)) self.within c.min-more.ensures
    (omega (arith, c.if-more-eq0.true))

pub returns-in-Some-clause-bytes : goal.returns-in-Some-clause-bytes
returns-in-Some-clause-bytes c =
    let self = c.args.self.now in
    some-added self.count c.min-more.result self.bytes c.args.piece.now c.copy_from_slice.new.self (search (rules, arith)) self.within c.min-more.ensures
    c.copy_from_slice.ensures.after

pub returns-in-None-clause-bytes : goal.returns-in-None-clause-bytes
returns-in-None-clause-bytes c =
    let self = c.args.self.now in
    some-added self.count c.min-more.result self.bytes c.args.piece.now c.copy_from_slice.new.self (search (rules, arith)) self.within c.min-more.ensures
    c.copy_from_slice.ensures.after
