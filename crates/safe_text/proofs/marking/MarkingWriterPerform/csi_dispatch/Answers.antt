-- Nothing is taken; the style is what it is after the call.
use Rattle.std.proofs.Common.{refl}
use Rattle.anstyle_parse.specs.Stream.Call.{Call, csi_dispatch}
use Rattle.anstyle_parse.specs.Views.Params.{groups_shown}
use Rattle.safe_text.specs.MarkingWriter.{open_in}
use Rattle.safe_text.proofs.MarkLemmas.{hiding-same, none-marked}
use Rattle.safe_text.proofs.marking.MarkingWriterPerform.csi_dispatch.Goals as goal

pub returns : goal.returns
returns g c =
    let self = c.args.self.now in
    let call : Call = csi_dispatch (groups_shown c.args.params.now) c.args.intermediates.now c.args.ignore c.args.action in
    none-marked g.W.Sink self _ call refl refl refl (hiding-same _ _ (open_in self) (open_in self) c.csi_dispatch.ensures refl)
