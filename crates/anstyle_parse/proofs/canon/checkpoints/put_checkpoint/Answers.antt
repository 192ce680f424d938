-- By the state, what is puted is what the checkpoint says.
use Rattle.std.proofs.Common.{ℕ, List, [], ◌∷◌, ⊎_elim, ◌∙◌, sym, ap, ap₂, subst}
use Rattle.std.specs.Prelude.{if◌then◌else◌}
use Rattle.anstyle_parse.specs.declared.state.definitions.State.{State}
use Rattle.anstyle_parse.specs.Views.Accumulator.{front_of}
use Rattle.anstyle_parse.specs.Stream.Bytes.{escape_byte}
use Rattle.anstyle_parse.specs.Laws.Checkpoint.{checkpoint_in, command_text}
use Rattle.anstyle_parse.specs.Views.Parser.{machine_of}
use Rattle.anstyle_parse.specs.Io.Output.{Adds}
use Rattle.anstyle_parse.specs.Machine.Stands.{seen}
use Rattle.anstyle_parse.proofs.Written.Output.{Adds-nil, Adds-append, Adds-append3}
use Rattle.anstyle_parse.proofs.Resume.Written.{escape_text-begun}
use Rattle.anstyle_parse.proofs.canon.checkpoints.put_checkpoint.Goals as goal

pub returns-in-Ground : goal.returns-in-Ground
returns-in-Ground g c =
    let out = c.args.output.now in
    let m = seen front_of (machine_of c.args.parser.now) in
    let Q : State → Type 0 = λ s. Adds g.W.Sink (checkpoint_in s m) out out in
    let none = Adds-nil g.W.Sink out in
    ⊎_elim (λ is. subst Q (sym is ∙ c.state.ensures) none) (λ is. subst Q (sym is ∙ c.state.ensures) none) c.in-Ground.is

pub returns-in-EscapeIntermediate : goal.returns-in-EscapeIntermediate
returns-in-EscapeIntermediate g c =
    let m = seen front_of (machine_of c.args.parser.now) in
    let Q : State → Type 0 = λ s. Adds g.W.Sink (checkpoint_in s m) c.args.output.now c.put-in-EscapeIntermediate-3.new.self in
    let R : List ℕ → Type 0 = λ t. Adds g.W.Sink t c.args.output.now c.put-in-EscapeIntermediate-3.new.self in
    subst Q (sym c.in-EscapeIntermediate.is ∙ c.state.ensures)
    (subst R
    (escape_text-begun (escape_byte ∷ []) c.collected.result.now c.text_if.result.now m.ignoring m.collected c.collected.ensures
    (c.text_if.ensures ∙ ap (λ b. if b then 0x20 ∷ [] else []) c.is_ignoring.ensures))
    (Adds-append3 g.W.Sink _ _ _ c.args.output.now c.put-in-EscapeIntermediate.new.self c.put-in-EscapeIntermediate-2.new.self c.put-in-EscapeIntermediate-3.new.self
    c.put-in-EscapeIntermediate.ensures c.put-in-EscapeIntermediate-2.ensures c.put-in-EscapeIntermediate-3.ensures))

pub returns-in-CsiParam : goal.returns-in-CsiParam
returns-in-CsiParam g c =
    let m = seen front_of (machine_of c.args.parser.now) in
    let Q : State → Type 0 = λ s. Adds g.W.Sink (checkpoint_in s m) c.args.output.now c.put_header.new.output in
    let all = Adds-append g.W.Sink _ _ c.args.output.now c.put-in-CsiParam.new.self c.put_header.new.output c.put-in-CsiParam.ensures c.put_header.ensures in
    ⊎_elim (λ is. subst Q (sym is ∙ c.state.ensures) all) (λ is. subst Q (sym is ∙ c.state.ensures) all) c.in-CsiParam.is

pub returns-in-DcsParam : goal.returns-in-DcsParam
returns-in-DcsParam g c =
    let m = seen front_of (machine_of c.args.parser.now) in
    let Q : State → Type 0 = λ s. Adds g.W.Sink (checkpoint_in s m) c.args.output.now c.put_header-in-DcsParam.new.output in
    let all = Adds-append g.W.Sink _ _ c.args.output.now c.put-in-DcsParam.new.self c.put_header-in-DcsParam.new.output c.put-in-DcsParam.ensures c.put_header-in-DcsParam.ensures in
    ⊎_elim (λ is. subst Q (sym is ∙ c.state.ensures) all) (λ is. subst Q (sym is ∙ c.state.ensures) all) c.in-DcsParam.is

pub returns-in-OscString : goal.returns-in-OscString
returns-in-OscString g c =
    let m = seen front_of (machine_of c.args.parser.now) in
    let Q : State → Type 0 = λ s. Adds g.W.Sink (checkpoint_in s m) c.args.output.now c.put_command.new.output in
    let R : List ℕ → Type 0 = λ t. Adds g.W.Sink t c.args.output.now c.put_command.new.output in
    subst Q (sym c.in-OscString.is ∙ c.state.ensures)
    (subst R
    (ap (λ l. escape_byte ∷ 0x5D ∷ l) (ap₂ command_text c.command.ensures.closed c.command.ensures.rest))
    (Adds-append g.W.Sink _ _ c.args.output.now c.put-in-OscString.new.self c.put_command.new.output c.put-in-OscString.ensures c.put_command.ensures))
