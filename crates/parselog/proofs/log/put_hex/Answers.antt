-- Two digits more are done.
use Rattle.std.proofs.Common.{◌++◌, ◌+◌, [], ◌∷◌, get_or, drop, refl, sym, ap, ◌∙◌}
use Rattle.std.specs.List.{flat_map}
use Rattle.std.proofs.lemmas.List.{at_drop_more}
use Rattle.anstyle_parse.proofs.Written.Output.{Adds-nil, Adds-append}
use Rattle.parselog.specs.Lines.{hex_byte}
use Rattle.parselog.proofs.LineLemmas.{hex_byte-digits, done_more}
use Rattle.parselog.proofs.log.put_hex.Goals as goal

pub loop-byte-init : goal.loop-byte-init
loop-byte-init g c = record { done = []; whole = refl; added = Adds-nil g.W.Sink c.args.output.now }

pub loop-byte-preserved : goal.loop-byte-preserved
loop-byte-preserved g c =
    let bytes = c.args.bytes.now in
    let i = c.loop-byte.byte-index in
    let before = c.loop-byte.invariant in
    let rest = flat_map hex_byte (drop (i + 1) bytes) in
    let digits = hex_byte-digits (get_or bytes i 0) c.from-n.result c.digit.result c.digit-in-loop-byte.result c.from-n.ensures c.digit.ensures c.digit-in-loop-byte.ensures in
    record {
      done = before.done ++ (c.digit.result ∷ c.digit-in-loop-byte.result ∷ []);
      whole = done_more before.done (c.digit.result ∷ c.digit-in-loop-byte.result ∷ []) rest (flat_map hex_byte bytes) (flat_map hex_byte (drop i bytes))
          (at_drop_more (λ bs. flat_map hex_byte bs) bytes i 0 c.loop-byte-test.true ∙ ap (λ l. l ++ rest) (sym digits)) before.whole;
      added = Adds-append g.W.Sink _ _ c.args.output.now c.loop-byte.output c.put.new.self before.added c.put.ensures;
    }
