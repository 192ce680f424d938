-- What gives rows on has, and what rows and commands do to it.
use Rattle.std.specs.Prelude.{◌≡◌, ℕ, false, List, []}
use Rattle.anstyle_parse.specs.Stream.Call.{Call}
use Rattle.ansi_html.specs.ShownLinks.{link_in}
use Rattle.ansi_screen.specs.declared.cell.Cell.{Cell}
use Rattle.screen_html.specs.Links.{Kept}
use Rattle.screen_html.specs.Paid.{purse, purse_of}
use Rattle.screen_calls.specs.declared.rows.CallRows.{CallRows}
use Rattle.screen_calls.specs.declared.rows.Pen.{Pen as HeldPen}
use Rattle.screen_calls.specs.Calls.{Pen, pen, Hand, row_calls, hand_after, hand_told}

-- what the calls so far leave
abbrev pub pen_in : HeldPen → Pen
pen_in held = pen held.style (purse_of held.last held.spare)

-- a pen and links, where no line is said to be open
abbrev pub hand_in : List Kept → Pen → Hand
hand_in places at = record { pen = at; places = places; is_open = false }

-- the performer that it gives on to, and where its rows stand
abbrev pub performer_in : {P W : Type 0} → CallRows P W → P
performer_in rows = rows.performer

abbrev pub hand_of : {P W : Type 0} → CallRows P W → Hand
hand_of rows = record {
  pen = pen rows.pen.style (purse (link_in rows.pen.last) rows.links.spare);
  places = rows.links.places;
  is_open = rows.is_open;
}

-- By a row its performer receives the calls of that, by a command none, and none where it hands on what it holds back.
pub record TakesRow {P W : Type 0} (receives : P → List Call → P → Type 0) (old : CallRows P W) (row : List Cell)
    (new : CallRows P W) : Type 0 where
  pub received : receives (performer_in old) (row_calls (hand_of old) row) (performer_in new)
  pub hand : hand_of new ≡ hand_after (hand_of old) row

pub record TakesCommand {P W : Type 0} (old : CallRows P W) (number : ℕ) (parts : List (List ℕ))
    (new : CallRows P W) : Type 0 where
  pub performer : performer_in new ≡ performer_in old
  pub hand : hand_of new ≡ hand_told (hand_of old) number parts

pub record PassesOn {P W : Type 0} (receives : P → List Call → P → Type 0) (old new : CallRows P W) : Type 0 where
  pub received : receives (performer_in old) [] (performer_in new)
  pub hand : hand_of new ≡ hand_of old
