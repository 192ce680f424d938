use Rattle.std.proofs.Common.{List, [], ℕ, ap, append-nil, arith, sym, subst, ◌∙◌, length, length-append}
use Rattle.anstyle_parse.specs.Views.Parser.{machine_of, CanTakeAll}
use Rattle.anstyle_parse.specs.Machine.Step.{machine_after, machine_calls}
use Rattle.anstyle_parse.proofs.Machine.Actions.{with_text_of}
use Rattle.anstyle_parse.proofs.Arguments.Stored.{CanTakeAll-later, stored_run, plain_of_command}
use Rattle.anstyle_parse.proofs.parser.Parser.store_plain.Goals as goal

pub returns-clause-leads : goal.returns-clause-leads
returns-clause-leads g c =
    let n = g.C.CharAccumulator in
    let p = c.args.self.now in
    let m = machine_of p in
    let stores = c.put_plain.ensures in
    let text = stores.text in
    let rest = c.put_plain.result.now in
    let run = stored_run n.taken text [] m c.requires.command stores.plain stores.room in
    let e = ap (λ t. with_text_of t m) stores.stored in
    let R : List ℕ → Type 0 = λ l. CanTakeAll n.takes p l in
    record {
      passed = text;
      joined = stores.whole;
      each = plain_of_command text stores.plain;
      machine = e ∙ run.0 ∙ ap (λ l. machine_after n.taken l m) (append-nil text);
      none = sym (run.1 ∙ ap (λ l. machine_calls n.taken l m) (append-nil text));
      can = CanTakeAll-later n.takes p text rest (subst R stores.whole c.requires.can);
    }

pub returns-clause-within : goal.returns-clause-within
returns-clause-within g c =
    let stores = c.put_plain.ensures in
    omega (arith, ap (λ l. length l) stores.whole, length-append stores.text c.put_plain.result.now)
