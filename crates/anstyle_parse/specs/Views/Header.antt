-- A header's private fields, as a machine that has nothing beside it.
use Rattle.std.specs.Prelude.{take, ⊤}
use Rattle.anstyle_parse.specs.declared.parser.header.Header.{Header}
use Rattle.anstyle_parse.specs.Views.Params.{closed_groups_of, open_group_of}
use Rattle.anstyle_parse.specs.Machine.Step.{Machine, new_machine}

abbrev pub heading_of : Header → Machine ⊤
heading_of header = record (new_machine tt) {
  collected = take header.intermediate_count header.intermediates;
  ignoring = header.ignoring;
  closed_groups = closed_groups_of header.params;
  open_group = open_group_of header.params;
  number = header.number;
}
