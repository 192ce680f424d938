-- The private fields of an operating system command, as a machine that has nothing beside them.
use Rattle.std.specs.Prelude.{◌≡◌, ◌≤◌, ◌+◌, ◌++◌, List, ℕ, length, take, drop, ⊤}
use Rattle.anstyle_parse.specs.declared.parser.command.Command.{Command}
use Rattle.anstyle_parse.specs.Stream.Bytes.{is_plain_text}
use Rattle.anstyle_parse.specs.Stream.Items.{EachIs}
use Rattle.anstyle_parse.specs.Stream.Arguments.{max_osc_bytes}
use Rattle.anstyle_parse.specs.Stream.Groups.{cut}
use Rattle.anstyle_parse.specs.Machine.Step.{Machine, new_machine, stored_count}

abbrev pub texting_of : Command → Machine ⊤
texting_of command = record (new_machine tt) {
  closed_parts = cut (take command.parts command.lengths) command.text.items;
  open_part = drop command.closed command.text.items;
}

-- Plain text from the front of the bytes, for which there is room, is stored after the open part.
pub record StoresPlain (old : Machine ⊤) (bytes : List ℕ) (new : Machine ⊤) (left : List ℕ) : Type 0 where
  pub text : List ℕ
  pub whole : bytes ≡ text ++ left
  pub plain : EachIs is_plain_text text
  pub room : stored_count old + length text ≤ max_osc_bytes
  pub stored : new ≡ record old { open_part = old.open_part ++ text }
