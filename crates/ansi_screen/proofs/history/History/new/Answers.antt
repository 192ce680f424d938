-- No place is taken yet, and there is memory for all.
use Rattle.std.proofs.Common.{◌≡◌, inr, ap, length, sym, subst, arith, ◌∙◌}
use Rattle.std.specs.List.{AllByRecursion}
use Rattle.std.proofs.lemmas.List.{length-replicate}
use Rattle.ansi_screen.specs.Grid.{AreRows}
use Rattle.ansi_screen.proofs.HistoryLemmas.{all-rooms}
use Rattle.ansi_screen.proofs.history.History.new.Goals as goal

pub invariant_of-result : goal.invariant_of-result
invariant_of-result c =
    let none = c.in_ok-with_capacity.ensures.items in
    let rooms = c.in_ok-memory_for_rows.ensures in (
      omega arith,
      omega arith,
      subst (AreRows c.args.columns) (sym none) tt,
      record {
        first_round = inr (omega arith);
        widths = subst (AllByRecursion (λ width. width ≡ c.args.columns)) (sym rooms) (all-rooms c.args.columns c.args.most);
        room = omega (arith, ap length none, ap length rooms ∙ length-replicate c.args.most c.args.columns, c.in_ok-with_capacity.ensures.capacity);
      },
    )
