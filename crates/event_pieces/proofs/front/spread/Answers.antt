-- Two bytes of each field, and a zero.
use Rattle.event_pieces.proofs.Fields.{first_fields}
use Rattle.event_pieces.proofs.front.spread.Goals as goal

pub returns : goal.returns
returns c = λ count few. first_fields c.args.fields count few c.fits-fields.0 c.fits-fields.1
