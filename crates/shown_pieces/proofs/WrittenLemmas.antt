-- What a performer has received of nothing, and what stands in memory once all was written.
use Rattle.std.proofs.Common.{◌≡◌, ◌++◌, ℕ, List, [], Option, None, Some, Result, inl, inr, refl, ap, ◌∙◌, sym, subst}
use Rattle.std.specs.Io.KnownBytes.{Keeps, Appends}
use Rattle.anstyle_parse.specs.declared.accumulator.Utf8Parser.{Utf8Parser}
use Rattle.anstyle_parse.specs.declared.io.Fault.{Fault}
use Rattle.anstyle_parse.specs.declared.io.Fault.TheVariants.{Write}
use Rattle.anstyle_parse.specs.declared.io.devices.Sink.{Ghosts as SinkOf}
use Rattle.anstyle_parse.specs.declared.io.output.Output.{Output}
use Rattle.anstyle_parse.specs.declared.parser.Parser.{Parser}
use Rattle.anstyle_parse.specs.Io.AddingProof.{AddsAt, FinishesAt}
use Rattle.anstyle_parse.specs.Io.Output.{writer_in, fault_in, Adds, Finishes}
use Rattle.anstyle_parse.specs.Machine.AsRead.{as_read}
use Rattle.anstyle_parse.specs.Stream.Call.{Call}
use Rattle.anstyle_parse.specs.Stream.Texts.{HasReceivedTexts}
use Rattle.anstyle_parse.specs.Views.Accumulator.{front_of}
use Rattle.anstyle_parse.specs.Views.Parser.{IsAfter}
use Rattle.anstyle_parse.proofs.Canonical.Items.{AreCalls-nil}

-- A new parser stands after what is read of nothing, which has no calls.
pub stands-new : (parser : Parser Utf8Parser) → IsAfter front_of parser [] → IsAfter front_of parser (as_read [])
unfolding as_read
stands-new parser stands = stands

pub received-none : {P : Type 0} (receives : P → List Call → P → Type 0) (performer : P) → receives performer [] performer
    → HasReceivedTexts receives performer (as_read []) performer
unfolding as_read
received-none receives performer none = ([], AreCalls-nil, none)

-- bytes that were appended to none, and then kept
appended-kept : (before middle after : Option (List ℕ)) (text found : List ℕ) → before ≡ Some [] → after ≡ Some found
    → Appends before middle text → Keeps middle after → found ≡ text
appended-kept None middle after text found empty is appends keeps = let clash : None ≡ Some [] = empty in cc
appended-kept (Some xs) None after text found empty is appends keeps = absurd appends
appended-kept (Some xs) (Some ys) None text found empty is appends keeps = absurd keeps
appended-kept (Some xs) (Some ys) (Some zs) text found empty is appends keeps =
    let nothing : xs ≡ [] = let e : Some xs ≡ Some [] = empty in cc in
    let same : zs ≡ found = let e : Some zs ≡ Some found = is in cc in
    sym same ∙ (keeps ∙ (appends ∙ ap (λ l. l ++ text) nothing))

module _ {W : Type 0} (sink : SinkOf W) where
  -- a text that is known to be the ending only where no fault is kept
  pub adds-ending : (unwritten ending : List ℕ) (a b : Output W) → (fault_in a ≡ None → unwritten ≡ ending)
      → Adds sink unwritten a b → Adds sink ending a b
  adds-ending unwritten ending a b same added = by_fault (fault_in a) refl added
    where
      by_fault : (fault : Option Fault) → fault_in a ≡ fault → AddsAt fault sink unwritten a b → AddsAt fault sink ending a b
      by_fault None none it = subst (λ t. AddsAt None sink t a b) (same none) it
      by_fault (Some fault) some it = it

  -- where no fault is kept in the end, all of a text is written
  appended : (text : List ℕ) (a b : Output W) → fault_in b ≡ None → Adds sink text a b
      → Appends (sink.contents (writer_in a)) (sink.contents (writer_in b)) text
  appended text a b clear added = by_fault (fault_in a) refl added
    where
      by_fault : (fault : Option Fault) → fault_in a ≡ fault → AddsAt fault sink text a b
          → Appends (sink.contents (writer_in a)) (sink.contents (writer_in b)) text
      by_fault None is (inl all) = all.written
      by_fault None is (inr part) = absurd (let clash : Some Write ≡ None = sym part.fault ∙ clear in cc)
      by_fault (Some fault) is same = absurd (let clash : Some fault ≡ None = sym is ∙ (ap fault_in (sym same) ∙ clear) in cc)

  -- a text that an output added to nothing, with no fault, is all that its writer has in the end
  pub all-written : {T : Type 0} (text found : List ℕ) (start final : Output W) (writer : W) (answer : Result T Fault)
      → fault_in final ≡ None → sink.contents (writer_in start) ≡ Some [] → sink.contents writer ≡ Some found
      → Adds sink text start final → Finishes sink final writer answer → found ≡ text
  all-written text found start final writer answer clear empty is adds finishes =
      let kept = subst (λ fault. FinishesAt fault sink (writer_in final) writer answer) clear finishes in
      appended-kept (sink.contents (writer_in start)) (sink.contents (writer_in final)) (sink.contents writer) text found empty is
      (appended text start final clear adds) kept.0
