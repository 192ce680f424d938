-- The digits so far are read.
use Rattle.std.proofs.Common.{◌≡◌, ◌≤◌, length}
use Rattle.screen_text.specs.Recording.{number_from, after_number}
use Rattle.screen_text.proofs.recording.number.Given as goal

abbrev pub invariant-rest : goal.invariant-rest
invariant-rest l = record {
  number : number_from 0 l.bytes ≡ number_from l.number l.rest;
  rest : after_number 0 l.bytes ≡ after_number l.number l.rest;
  most : l.number ≤ 10009;
}

abbrev pub decreases-rest : goal.decreases-rest
decreases-rest l = length l.rest
