-- What differs was noted, and stays noted.
use Rattle.std.proofs.Common.{ap, sym}
use Rattle.anstyle_parse.specs.Machine.Step.{machine_calls}
use Rattle.anstyle_parse.specs.Views.Accumulator.{parser_after}
use Rattle.anstyle_parse.specs.Views.Parser.{machine_of}
use Rattle.ansi_screen.specs.After.{State, as_shown}
use Rattle.ansi_screen.specs.Leaving.{unkept}
use Rattle.ansi_screen.proofs.CallLemmas.{after_all-goes}
use Rattle.screen_draw.proofs.NotedLemmas.{still-noted}
use Rattle.screen_tests.proofs.tests.draw.show_piece.Goals as goal

pub update_noted-requires : goal.update_noted-requires
update_noted-requires g c =
    let calls = machine_calls parser_after c.args.piece.now (machine_of c.args.parser.now) in
    record {
      noted = still-noted c.args.shown.now c.args.wanted.now c.forget.new.self c.advance_all.new.performer calls (sym c.requires) c.forget.ensures
          c.columns.ensures.sized (after_all-goes calls c.forget.new.self c.advance_all.new.performer c.advance_all.ensures.calls);
    }

pub catch_up-requires : goal.catch_up-requires
catch_up-requires g c =
    let calls = machine_calls parser_after c.args.piece.now (machine_of c.args.parser.now) in
    still-noted c.args.shown.now c.args.wanted.now c.forget.new.self c.advance_all.new.performer calls (sym c.requires) c.forget.ensures
    c.columns.ensures.sized (after_all-goes calls c.forget.new.self c.advance_all.new.performer c.advance_all.ensures.calls)

pub returns-clause-screens : goal.returns-clause-screens
returns-clause-screens g c = ap (λ (s : State). as_shown (unkept s)) c.catch_up.ensures
