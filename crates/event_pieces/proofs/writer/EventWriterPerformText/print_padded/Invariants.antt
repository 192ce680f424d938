-- The calls of what is passed so far are added, and a layout control comes next.
use Rattle.std.proofs.Common.{◌≤◌, ◌<◌, ◌-◌, length, take, get_or, IsTrue}
use Rattle.anstyle_parse.specs.Stream.Texts.{is_layout, layout_calls}
use Rattle.event_pieces.specs.declared.writer.EventWriter.{EventWriter}
use Rattle.event_pieces.specs.Writer.{Adds}
use Rattle.event_pieces.proofs.writer.EventWriterPerformText.print_padded.Given as goal

abbrev pub invariant-layout : goal.invariant-layout
invariant-layout l = record {
  within : l.at ≤ length l.text;
  ends : l.at < length l.text → IsTrue (is_layout (get_or l.text l.at 0));
  added : (first : EventWriter) → Adds (layout_calls (take l.initial.at l.text)) first l.initial.self → Adds (layout_calls (take l.at l.text)) first l.self;
}

abbrev pub decreases-layout : goal.decreases-layout
decreases-layout l = length l.text - l.at
