use Rattle.std.proofs.Common.{◌≡◌, ◌≢◌, ◌<◌, get_or, sym, ◌∙◌, arith}
use Rattle.anstyle_parse.specs.declared.state.definitions.State.TheVariants.{Anywhere}
use Rattle.anstyle_parse.specs.Machine.Table.{change_at}
use Rattle.anstyle_parse.specs.Machine.Packed.{packed, cells}
use Rattle.anstyle_parse.proofs.Machine.Packed.{own_decides, anywhere_decides, same_state, same_action}
use Rattle.anstyle_parse.proofs.state.state_change.Goals as goal
use Rattle.anstyle_parse.proofs.state.state_change.Goals.{then-anywhere-eq-NO_CHANGE, else-anywhere-eq-NO_CHANGE}

pub returns : goal.returns
returns c =
    let below : c.args.byte < 256 = omega arith in
    let decided : c.if-anywhere-eq-NO_CHANGE.cell ≡ packed (change_at c.args.state c.args.byte).state (change_at c.args.state c.args.byte).action
    = elim c.if-anywhere-eq-NO_CHANGE.branch [
      | then-anywhere-eq-NO_CHANGE w ↦
          let none : get_or (cells Anywhere) c.args.byte 0 ≡ 0 = cc in
          let decides = own_decides c.args.state c.args.byte below none in cc
      | else-anywhere-eq-NO_CHANGE w ↦
          let some : get_or (cells Anywhere) c.args.byte 0 ≢ 0 = (λ none. w.if-anywhere-eq-NO_CHANGE.false (cc none)) in
          let decides = anywhere_decides c.args.state c.args.byte below some in cc
    ] in
    let same = sym c.unpack.ensures ∙ decided in
    record { state = same_state _ _ _ _ same; action = same_action _ _ _ _ same }
