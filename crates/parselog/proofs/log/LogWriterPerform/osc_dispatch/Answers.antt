use Rattle.std.proofs.Common.{◌++◌, List, ℕ, [], ◌∷◌, map, codes, sym, ap, ◌∙◌, subst, append_assoc}
use Rattle.anstyle_parse.specs.Io.Output.{Adds}
use Rattle.anstyle_parse.proofs.Written.Output.{Adds-append}
use Rattle.parselog.specs.Lines.{truth, parts_text, newline}
use Rattle.parselog.specs.Log.{output_of}
use Rattle.parselog.proofs.log.LogWriterPerform.osc_dispatch.Goals as goal

pub returns : goal.returns
returns g c =
    let old = output_of c.args.self.now in
    let last = c.put_byte.new.self in
    let Q : List ℕ → Type 0 = λ t. Adds g.W.Sink t old last in
    let append = Adds-append g.W.Sink in
    let parts = parts_text (map (λ part. part.now) c.args.params.now) in
    subst Q
    (ap (λ t. codes "osc_dispatch " ++ (t ++ (parts ++ newline ∷ []))) c.truth_text.ensures
    ∙ ap (λ l. codes "osc_dispatch " ++ l) (sym (append_assoc (truth c.args.bell_terminated) parts (newline ∷ []))))
    (append _ _ old c.put.new.self last c.put.ensures
    (append _ _ c.put.new.self c.put-2.new.self last c.put-2.ensures
    (append _ _ c.put-2.new.self c.put_parts.new.output last c.put_parts.ensures c.put_byte.ensures)))
