-- One source more is read.
use Rattle.std.proofs.Common.{◌≡◌, ◌++◌, ◌∷◌, [], ℕ, List, true, false, None, is_some, inl, refl, sym, ap, ◌∙◌, subst, arith, length-append, append-nil}
use Rattle.std.specs.Bool.{⊤}
use Rattle.std.proofs.lemmas.List.{set-get_or}
use Rattle.std.specs.List.{flat_map}
use Rattle.std.proofs.lemmas.Grind.{flat_map-append}
use Rattle.anstyle_parse.specs.Io.Output.{writer_in, fault_in, Adds}
use Rattle.anstyle_parse.proofs.Written.Output.{Adds-append, Adds-nil, None-from_is_some}
use Rattle.each_source.proofs.EachLemmas.{IsRead-when, AreRead-when, AreRead-push_at, AreRead-begin_at, WasHeld-after, whole_unless_fault}
use Rattle.each_source.specs.Each.{Given, AreRead, WasHeld}
use Rattle.each_source.proofs.add_each.Goals as goal

pub loop-reader-init : goal.loop-reader-init
loop-reader-init g c = record {
  given = [];
  count = refl;
  within = omega arith;
  are_read = inl refl;
  added = Adds-nil g.W.Sink c.args.output;
}

pub returns-then-is_some : goal.returns-then-is_some
returns-then-is_some g c =
    let before = c.loop-reader.invariant in
    let same = set-get_or c.loop-reader.readers c.loop-reader.reader-index c.reader-item.result in
    record {
      given = before.given;
      are_read = subst (λ rs. AreRead g.R.Source (⊤ × (fault_in c.loop-reader.output ≡ None)) ⊥ c.args.readers.now rs before.given) (sym same)
          (AreRead-when g.R.Source _ c.args.readers.now c.loop-reader.readers before.given (λ whole. whole.1) before.are_read);
      added = before.added;
      reaches = λ clear. absurd (let clash : true ≡ false = sym c.if-is_some.true ∙ c.is_some.ensures ∙ ap is_some c.fault.ensures ∙ ap is_some clear in cc);
      held = tt;
    }

pub returns-then-is_stuck : goal.returns-then-is_stuck
returns-then-is_stuck g c =
    let before = c.loop-reader.invariant in
    let one = c.in-Ok.ensures.written in
    let text : Given → List ℕ = λ given. g.B.Begin.text c.args.begin.now given ++ g.B.Begin.ending c.args.begin.now given in
    let joined = flat_map-append text before.given (one.given ∷ []) ∙ ap (λ t. flat_map text before.given ++ t) (append-nil (text one.given)) in
    record {
      given = before.given ++ one.given ∷ [];
      are_read = AreRead-push_at g.R.Source c.args.readers.now c.loop-reader.readers before.given one.given c.reader-item.result _ c.write_one.new.reader c.loop-reader.reader-index
          before.count (omega (arith, c.loop-reader-test.true, c.loop-reader.auto.readers)) refl
          (AreRead-when g.R.Source _ c.args.readers.now c.loop-reader.readers before.given (λ whole. absurd whole.0) before.are_read)
          (IsRead-when g.R.Source _ _ one.given (λ whole. absurd whole.0) one.is_read);
      added = subst (λ (t : List ℕ). Adds g.W.Sink t c.args.output c.in-Ok.after) (sym joined)
          (Adds-append g.W.Sink (flat_map text before.given) (text one.given) c.args.output c.loop-reader.output c.in-Ok.after before.added one.added);
      reaches = (one.clear c.if-is_stuck.true, omega (arith, length-append before.given (one.given ∷ []), before.count, c.loop-reader-test.true));
      held = subst (λ (t : List ℕ). WasHeld g.W.Sink t (writer_in c.args.output)) (sym joined)
          (WasHeld-after g.W.Sink (flat_map text before.given) (text one.given) (writer_in c.args.output) (writer_in c.loop-reader.output)
          (whole_unless_fault g.W.Sink (flat_map text before.given) c.args.output c.loop-reader.output
          (None-from_is_some (fault_in c.loop-reader.output) (sym (c.is_some.ensures ∙ ap is_some c.fault.ensures) ∙ c.if-is_some.false)) before.added)
          (one.held c.if-is_stuck.true));
    }

pub returns-in-Err : goal.returns-in-Err
returns-in-Err g c =
    let before = c.loop-reader.invariant in
    let clear = None-from_is_some (fault_in c.loop-reader.output) (sym (c.is_some.ensures ∙ ap is_some c.fault.ensures) ∙ c.if-is_some.false) in
    let kept = c.in-Err.ensures.kept in
    record {
      given = before.given;
      are_read = AreRead-begin_at g.R.Source _ c.args.readers.now c.loop-reader.readers before.given c.reader-item.result _ c.write_one.new.reader c.loop-reader.reader-index
          tt before.count (omega (arith, c.loop-reader-test.true, c.loop-reader.auto.readers)) refl
          (AreRead-when g.R.Source _ c.args.readers.now c.loop-reader.readers before.given (λ whole. clear) before.are_read) c.in-Err.ensures.begun;
      added = subst (λ o. Adds g.W.Sink (flat_map (λ given. g.B.Begin.text c.args.begin.now given ++ g.B.Begin.ending c.args.begin.now given) before.given) c.args.output o) (sym kept) before.added;
      reaches = (ap fault_in kept ∙ clear, omega (arith, before.count, c.loop-reader-test.true));
      held = tt;
    }

pub returns : goal.returns
returns g c =
    let before = c.loop-reader.invariant in
    record {
      given = before.given;
      are_read = AreRead-when g.R.Source _ c.args.readers.now c.loop-reader.readers before.given (λ whole. whole.1) before.are_read;
      added = before.added;
      reaches = λ clear. omega (arith, before.count, before.within, c.loop-reader-test.false);
      held = tt;
    }

pub loop-reader-preserved : goal.loop-reader-preserved
loop-reader-preserved g c =
    let before = c.loop-reader.invariant in
    let one = c.in-Ok.ensures.written in
    let text : Given → List ℕ = λ given. g.B.Begin.text c.args.begin.now given ++ g.B.Begin.ending c.args.begin.now given in
    let clear = None-from_is_some (fault_in c.loop-reader.output) (sym (c.is_some.ensures ∙ ap is_some c.fault.ensures) ∙ c.if-is_some.false) in
    let joined = flat_map-append text before.given (one.given ∷ []) ∙ ap (λ t. flat_map text before.given ++ t) (append-nil (text one.given)) in
    record {
      given = before.given ++ one.given ∷ [];
      count = omega (arith, length-append before.given (one.given ∷ []), before.count);
      within = omega (arith, c.loop-reader-test.true);
      are_read = AreRead-push_at g.R.Source c.args.readers.now c.loop-reader.readers before.given one.given c.reader-item.result _ c.write_one.new.reader c.loop-reader.reader-index
          before.count (omega (arith, c.loop-reader-test.true, c.loop-reader.auto.readers)) refl
          (AreRead-when g.R.Source _ c.args.readers.now c.loop-reader.readers before.given (λ _. clear) before.are_read)
          (IsRead-when g.R.Source _ _ one.given (λ none. (c.if-is_stuck.false, none)) one.is_read);
      added = subst (λ (t : List ℕ). Adds g.W.Sink t c.args.output c.in-Ok.after) (sym joined)
          (Adds-append g.W.Sink (flat_map text before.given) (text one.given) c.args.output c.loop-reader.output c.in-Ok.after before.added one.added);
    }
