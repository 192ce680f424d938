-- The row is put into its place, which is made before where none is left.
use Rattle.std.proofs.Common.{◌≡◌, ◌≤◌, ◌+◌, inl, inr, ℕ, min, length, get_or, List, ap, sym, subst, ◌∙◌, arith}
use Rattle.std.specs.Prelude.{slice_set}
use Rattle.std.proofs.lemmas.List.{length-set}
use Rattle.ansi_screen.specs.declared.cell.Cell.{Cell}
use Rattle.ansi_screen.specs.History.{Kept, keep_last, kept_after}
use Rattle.ansi_screen.specs.Reachable.{IsWhole}
use Rattle.ansi_screen.specs.Ring.{turned}
use Rattle.ansi_screen.proofs.GridLemmas.{rows-at, rows-set}
use Rattle.ansi_screen.proofs.HistoryLemmas.{HasPlace, has-place, place-found, keeps-in-place, keeps-spare}
use Rattle.ansi_screen.proofs.history.History.keep.Goals.{then-self-most, else-self-most}
use Rattle.ansi_screen.proofs.history.History.keep.Goals as goal

pub invariant_of-self-2 : goal.invariant_of-self-2
invariant_of-self-2 c =
    let old = c.self.inside in
    let places : List (List Cell) = c.make_place.new.places.items in
    let spare : List ℕ = c.make_place.new.spare.items in
    let place : ℕ = c.if-self-most.place in
    let row : List Cell = c.args.row.now in
    let made : HasPlace old.columns old.count old.next old.places.cap old.places.items places old.spare.items spare =
    has-place old.columns old.count old.next old.places.cap old.places.items places old.spare.items spare c.self.invariant.0 c.self.invariant.1 c.self.invariant.2 c.self.invariant.3 c.make_place.ensures.made in
    let most : c.len-most.result ≡ length places = c.len-most.ensures ∙ c.make_place.new.places.ok.0 in
    let at = place-found old.next place (length spare) places made.within made.free (omega (arith, c.if-most-eq0.false, most))
    (elim c.if-self-most.branch [
      | then-self-most w ↦ inl (omega (arith, w.if-self-most.true, most), w.place-is)
      | else-self-most w ↦ inr (omega (arith, w.if-self-most.false, most), w.place-is)
    ]) in
    let count : c.min-self-inside.result ≡ min (length places) (old.count + 1) = c.min-self-inside.ensures ∙ ap (λ n. min n (old.count + 1)) most in
    let long = length-set places place c.swap.new.y in
    let room : length places + length spare ≤ c.make_place.new.places.cap = omega (arith, made.all, c.self.invariant.3.room, c.make_place.ensures.capacity) in
    let whole : IsWhole old.columns c.swap.new.y =
    subst (λ n. IsWhole n c.swap.new.y) (c.requires.columns ∙ sym (ap (λ (k : Kept). k.columns) c.self.view_is))
    (subst (λ (r : List Cell). IsWhole (length row) r) (sym c.swap.ensures.y_after) c.requires.whole) in (
      omega (arith, long, at.0.0),
      omega (arith, long, count),
      rows-set old.columns place places c.swap.new.y made.rows
          (ap length c.swap.ensures.y_after ∙ (c.requires.columns ∙ sym (ap (λ (k : Kept). k.columns) c.self.view_is))) whole,
      keeps-spare old.columns old.count old.next place old.left c.saturating_add-self-inside.result old.places.cap old.places.items places old.spare.items spare c.swap.new.y made at.0 at.1
          c.saturating_add-self-inside.ensures c.make_place.new.places.cap c.min-self-inside.result count room,
    )

pub returns-clause-kept : goal.returns-clause-kept
returns-clause-kept c =
    let old = c.self.inside in
    let places : List (List Cell) = c.make_place.new.places.items in
    let spare : List ℕ = c.make_place.new.spare.items in
    let place : ℕ = c.if-self-most.place in
    let row : List Cell = c.args.row.now in
    let made : HasPlace old.columns old.count old.next old.places.cap old.places.items places old.spare.items spare =
    has-place old.columns old.count old.next old.places.cap old.places.items places old.spare.items spare c.self.invariant.0 c.self.invariant.1 c.self.invariant.2 c.self.invariant.3 c.make_place.ensures.made in
    let most : c.len-most.result ≡ length places = c.len-most.ensures ∙ c.make_place.new.places.ok.0 in
    let at = place-found old.next place (length spare) places made.within made.free (omega (arith, c.if-most-eq0.false, most))
    (elim c.if-self-most.branch [
      | then-self-most w ↦ inl (omega (arith, w.if-self-most.true, most), w.place-is)
      | else-self-most w ↦ inr (omega (arith, w.if-self-most.false, most), w.place-is)
    ]) in
    let count : c.min-self-inside.result ≡ min (length places) (old.count + 1) = c.min-self-inside.ensures ∙ ap (λ n. min n (old.count + 1)) most in
    ap (λ (r : List Cell). record {
      most = length (slice_set places place r) + length spare;
      columns = old.columns;
      rows = keep_last c.min-self-inside.result (turned (place + 1) (slice_set places place r));
      left = c.saturating_add-self-inside.result;
    }) c.swap.ensures.y_after
    ∙ ap (λ n. record {
      most = length (slice_set places place row) + length spare;
      columns = old.columns;
      rows = keep_last n (turned (place + 1) (slice_set places place row));
      left = c.saturating_add-self-inside.result;
    }) count
    ∙ keeps-in-place old.columns old.count old.next place old.left c.saturating_add-self-inside.result old.places.cap old.places.items places old.spare.items spare row made at.0 at.1
    c.saturating_add-self-inside.ensures
    ∙ ap (kept_after row) c.self.view_is

pub returns-clause-columns : goal.returns-clause-columns
returns-clause-columns c =
    let old = c.self.inside in
    let places : List (List Cell) = c.make_place.new.places.items in
    let spare : List ℕ = c.make_place.new.spare.items in
    let place : ℕ = c.if-self-most.place in
    let row : List Cell = c.args.row.now in
    let made : HasPlace old.columns old.count old.next old.places.cap old.places.items places old.spare.items spare =
    has-place old.columns old.count old.next old.places.cap old.places.items places old.spare.items spare c.self.invariant.0 c.self.invariant.1 c.self.invariant.2 c.self.invariant.3 c.make_place.ensures.made in
    let most : c.len-most.result ≡ length places = c.len-most.ensures ∙ c.make_place.new.places.ok.0 in
    let at = place-found old.next place (length spare) places made.within made.free (omega (arith, c.if-most-eq0.false, most))
    (elim c.if-self-most.branch [
      | then-self-most w ↦ inl (omega (arith, w.if-self-most.true, most), w.place-is)
      | else-self-most w ↦ inr (omega (arith, w.if-self-most.false, most), w.place-is)
    ]) in
    let there = rows-at old.columns place places c.index_mut.result.now made.rows at.0.0 in
    let comes : c.swap.new.x ≡ get_or places place c.index_mut.result.now = c.swap.ensures.x_after ∙ c.index_mut.ensures.value in
    ap length comes ∙ (there.0 ∙ (ap (λ (k : Kept). k.columns) c.self.view_is ∙ sym c.requires.columns))

pub returns-clause-whole : goal.returns-clause-whole
returns-clause-whole c =
    let old = c.self.inside in
    let places : List (List Cell) = c.make_place.new.places.items in
    let spare : List ℕ = c.make_place.new.spare.items in
    let place : ℕ = c.if-self-most.place in
    let row : List Cell = c.args.row.now in
    let made : HasPlace old.columns old.count old.next old.places.cap old.places.items places old.spare.items spare =
    has-place old.columns old.count old.next old.places.cap old.places.items places old.spare.items spare c.self.invariant.0 c.self.invariant.1 c.self.invariant.2 c.self.invariant.3 c.make_place.ensures.made in
    let most : c.len-most.result ≡ length places = c.len-most.ensures ∙ c.make_place.new.places.ok.0 in
    let at = place-found old.next place (length spare) places made.within made.free (omega (arith, c.if-most-eq0.false, most))
    (elim c.if-self-most.branch [
      | then-self-most w ↦ inl (omega (arith, w.if-self-most.true, most), w.place-is)
      | else-self-most w ↦ inr (omega (arith, w.if-self-most.false, most), w.place-is)
    ]) in
    let there = rows-at old.columns place places c.index_mut.result.now made.rows at.0.0 in
    let comes : c.swap.new.x ≡ get_or places place c.index_mut.result.now = c.swap.ensures.x_after ∙ c.index_mut.ensures.value in
    let wide : old.columns ≡ length row = ap (λ (k : Kept). k.columns) c.self.view_is ∙ sym c.requires.columns in
    subst (λ n. IsWhole n c.swap.new.x) wide (subst (λ (r : List Cell). IsWhole old.columns r) (sym comes) there.1)
