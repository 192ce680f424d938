use Rattle.std.proofs.Common.{ap}
use Rattle.anstyle_parse.specs.Stream.Canon.{canon}
use Rattle.anstyle_parse.proofs.Canonical.Twice.{canon_injective}
use Rattle.anstyle_parse.proofs.Lawful.Calls.{lawful}
use Rattle.anstyle_parse.proofs.laws.equal_texts.Goals as goal

pub returns : goal.returns
returns c = λ bytes others calls other_calls are too.
    (λ same. ap canon same, canon_injective calls other_calls (lawful bytes calls are) (lawful others other_calls too))
