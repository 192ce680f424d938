use Rattle.anstyle_parse.proofs.Characters.Tests.{IsProperFront-test}
use Rattle.anstyle_parse.proofs.laws.front_of_a_character.Goals as goal

pub returns : goal.returns
returns c = IsProperFront-test
