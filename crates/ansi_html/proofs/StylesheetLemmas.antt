-- The stylesheet, number by number.
use Rattle.std.proofs.Common.{◌≡◌, ◌<◌, ◌≤◌, ◌+◌, ◌-◌, ℕ, suc, List, ◌++◌, sym, ap, ◌∙◌, subst, append_assoc, append-nil, arith}
use Rattle.std.specs.List.{flat_map, range_with_len}
use Rattle.std.proofs.lemmas.Grind.{flat_map-append}
use Rattle.anstyle_parse.specs.declared.io.devices.Sink.{Ghosts as SinkOf}
use Rattle.anstyle_parse.specs.declared.io.output.Output.{Output}
use Rattle.anstyle_parse.specs.Io.Output.{Adds}
use Rattle.anstyle_parse.proofs.Written.Output.{Adds-append}
use Rattle.ansi_html.specs.declared.scheme.Scheme.{Scheme}
use Rattle.ansi_html.specs.declared.class.Class.{Class}
use Rattle.ansi_html.specs.Stylesheet.{rule}

-- the rules of some classes, and then of others
pub rules_added : {W : Type 0} (sink : SinkOf W) (scheme : Scheme) (done more : List Class) (a b c : Output W)
    → Adds sink (flat_map (rule scheme) done) a b → Adds sink (flat_map (rule scheme) more) b c → Adds sink (flat_map (rule scheme) (done ++ more)) a c
rules_added sink scheme done more a b c first second =
    subst (λ (t : List ℕ). Adds sink t a c) (sym (flat_map-append (rule scheme) done more))
    (Adds-append sink (flat_map (rule scheme) done) (flat_map (rule scheme) more) a b c first second)

module _ (f : ℕ → List Class) (first count end number : ℕ) (done : List Class) where
  -- one number more is done
  pub left_more : number < end → done ++ flat_map f (range_with_len number (end - number)) ≡ flat_map f (range_with_len first count)
      → (done ++ f number) ++ flat_map f (range_with_len (number + 1) (end - (number + 1))) ≡ flat_map f (range_with_len first count)
  left_more below whole =
      let some : end - number ≡ suc (end - (number + 1)) = omega (arith, below) in
      append_assoc done (f number) (flat_map f (range_with_len (number + 1) (end - (number + 1))))
      ∙ ap (λ n. done ++ flat_map f (range_with_len number n)) (sym some) ∙ whole

  -- all are done
  pub left_none : end ≤ number → done ++ flat_map f (range_with_len number (end - number)) ≡ flat_map f (range_with_len first count)
      → done ≡ flat_map f (range_with_len first count)
  left_none over whole =
      let none : 0 ≡ end - number = omega (arith, over) in
      sym (append-nil done) ∙ ap (λ n. done ++ flat_map f (range_with_len number n)) none ∙ whole
