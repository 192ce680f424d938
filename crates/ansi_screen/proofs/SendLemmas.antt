-- A screen may go to another thread: it owns its memory alone, and what it keeps for clauses takes none.
use denote.Struct.Declared.{shape, fields}
use denote.Param.Send.{IsSend, AllSend, sendable, view_send, recorded_send, struct_send}
use Rattle.std.proofs.Crossing.{crosses}
use Rattle.ansi_screen.specs.contracts.display.Display as display
use Rattle.ansi_screen.specs.contracts.display.Display.TheInside as inside
use Rattle.ansi_screen.specs.contracts.damage.Shown as shown
use Rattle.ansi_screen.specs.contracts.screen.Screen as screen
use Rattle.ansi_screen.proofs.covered.Covered.TheSendSync as covered_send
use Rattle.ansi_screen.proofs.damage.Damage.TheSendSync as damage_send
use Rattle.ansi_screen.proofs.grid.Grid.TheSendSync as grid_send
use Rattle.ansi_screen.proofs.history.History.TheSendSync as history_send
use Rattle.ansi_screen.proofs.place.Place.TheSendSync as place_send

shown_send : IsSend (shown.the_field).row
shown_send = search (sendable, crosses) depth 20

inside_send : IsSend inside.the_row
inside_send =
    let grid = grid_send.the_send in
    let place = place_send.the_field_send in
    let all : AllSend (fields inside.the_type) = (
      grid,
      (
        place,
        (
          place,
          (
            search sendable,
            (
              search sendable,
              (
                search (sendable, crosses) depth 20,
                (
                  search sendable,
                  (
                    search sendable,
                    (
                      search sendable,
                      (
                        search sendable,
                        (search sendable, (search sendable, (covered_send.the_send, (place, (damage_send.the_send, (shown_send, (search (sendable, crosses, history_send.the_send) depth 20, (search (sendable, crosses) depth 20, tt)))))))),
                      ),
                    ),
                  ),
                ),
              ),
            ),
          ),
        ),
      ),
    ) in
    let of = inside.the_type in
    recorded_send _ of.D of.to of.to_one (struct_send (shape of) all)

display_send : IsSend display.the_row
display_send = view_send _ _ _ _ _ inside_send

pub screen_send : IsSend screen.the_row
screen_send = search (sendable, crosses, display_send) depth 20
