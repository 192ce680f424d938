-- As many bytes as surely find room for their rows lose none.
use Rattle.std.proofs.Common.{◌≡◌, ◌≤◌, length, take, length-take-le, arith}
use Rattle.screen_pieces.specs.Keeping.{FeedsKeeping}
use Rattle.screen_pieces.specs.Terminal.{display_of, history_of}
use Rattle.screen_pieces.proofs.KeepingLemmas.{room-enough, none-lost}
use Rattle.screen_pieces.proofs.terminal.Terminal.feed_keeping.Goals as goal

pub returns : goal.returns
returns c =
    let old = c.args.self.now in
    let count = c.min-count.result in
    let within : count ≤ length c.args.piece.now = omega (arith, c.min-count.ensures) in
    let few : count ≤ c.sure_bytes.result = omega (arith, c.min-count.ensures) in
    let many : length (take count c.args.piece.now) ≡ count = length-take-le count c.args.piece.now within in
    record {
      within = within;
      fed = c.feed.ensures;
      all = λ n inside room. omega (arith, c.min-count.ensures, inside, c.sure_bytes.ensures.all n room);
      kept = λ bytes stands are.
          none-lost (display_of old).width (display_of old).height c.args.seen bytes (take count c.args.piece.now) old c.feed.new.self stands c.feed.ensures
          (room-enough c.args.seen (display_of old).height c.sure_bytes.result (length (take count c.args.piece.now)) (history_of old)
          (omega (arith, many, few)) c.sure_bytes.ensures.fits)
          are;
    }
