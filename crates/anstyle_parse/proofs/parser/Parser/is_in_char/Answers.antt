use Rattle.std.proofs.Common.{refl}
use Rattle.std.proofs.lemmas.Bool.{false≢true}
use Rattle.anstyle_parse.specs.Views.Parser.{machine_of}
use Rattle.anstyle_parse.specs.Machine.Stands.{seen, unseen}
use Rattle.anstyle_parse.proofs.Division.Ends.{EndsInCharacter-state}
use Rattle.anstyle_parse.proofs.Machine.Unseen.{StandsAfter-outside}
use Rattle.anstyle_parse.proofs.parser.Parser.is_in_char.Goals as goal

pub returns-in-Utf8-clause-stream : goal.returns-in-Utf8-clause-stream
returns-in-Utf8-clause-stream g c = λ before decodes stands.
    let same = EndsInCharacter-state (seen g.C.CharAccumulator.front (machine_of c.args.self.now)) before stands in
    (λ _. same.0 c.in-Utf8.is, λ _. refl)

pub returns-in-Utf8-clause-ascii : goal.returns-in-Utf8-clause-ascii
returns-in-Utf8-clause-ascii g c = λ before stands.
    absurd (StandsAfter-outside (unseen (machine_of c.args.self.now)) before stands.0 stands.1 c.in-Utf8.is)

pub returns-in_default-clause-stream : goal.returns-in_default-clause-stream
returns-in_default-clause-stream g c = λ before decodes stands.
    let same = EndsInCharacter-state (seen g.C.CharAccumulator.front (machine_of c.args.self.now)) before stands in
    (λ h. absurd (false≢true h), λ ends. absurd (c.in_default.not-Utf8 (same.1 ends)))
