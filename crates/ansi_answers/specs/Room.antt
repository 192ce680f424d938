-- What is in the room for an answer.
use Rattle.std.specs.Prelude.{ℕ, Bool, List}
use Rattle.ansi_answers.specs.declared.bytes.AnswerRoom.{AnswerRoom}

abbrev pub bytes_in : AnswerRoom → List ℕ
bytes_in room = room.bytes.items

abbrev pub has_overflowed : AnswerRoom → Bool
has_overflowed room = room.overflowed
