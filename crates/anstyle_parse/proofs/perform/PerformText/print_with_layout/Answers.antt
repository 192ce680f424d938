-- The text so far is received, and then what is shown and the control after it.
use Rattle.std.proofs.Common.{◌<◌, ◌++◌, [], ◌∷◌, length, eqb-true, arith, refl, sym, ap, ◌∙◌, subst, append_assoc}
use Rattle.std.proofs.lemmas.List.{nil_from_length}
use Rattle.std.proofs.lemmas.Str.{IsUtf8-nil, IsUtf8-append}
use Rattle.std.specs.Str.{IsUtf8}
use Rattle.anstyle_parse.specs.Stream.Call.{execute}
use Rattle.anstyle_parse.specs.Stream.Texts.{text_calls, layout_calls}
use Rattle.anstyle_parse.proofs.Characters.Layout.{layout-low, IsUtf8-front, IsUtf8-back, IsUtf8-layout, receives-layout_none, receives-text_none, receives-printed, receives-layout}
use Rattle.anstyle_parse.proofs.perform.PerformText.print_with_layout.Goals as goal
use Rattle.anstyle_parse.proofs.perform.PerformText.print_with_layout.Goals.{then-not-is_empty, else-not-is_empty}

pub rest-init : goal.rest-init
rest-init g c =
    let m = g.met.Self.PerformText in
    ([], IsUtf8-nil, c.utf8.text, refl, receives-layout_none g.Self.PerformText.receives m.follows.none m.follows.more c.args.self.now)

pub rest-preserved : goal.rest-preserved
rest-preserved g c =
    let m = g.met.Self.PerformText in
    let r = g.Self.PerformText.receives in
    let (passed, utf8, rest_utf8, joined, received) = c.rest.invariant in
    let found = rw c.in-Some.is at c.split_at_layout.ensures.found in
    let shown = c.split_at_layout.result.0.now in
    let b = c.in-Some.control in
    let behind = c.in-Some.behind.now in
    let low : b < 0x80 = omega (arith, layout-low b found.0) in
    let shown_utf8 = IsUtf8-front c.rest.rest.now shown b behind found.1 rest_utf8 low in
    let printed : r c.rest.self (text_calls shown) c.if-not-is_empty.self =
    elim c.if-not-is_empty.branch [
      | then-not-is_empty w ↦ subst (λ p. r c.rest.self (text_calls shown) p) (sym w.self-is) w.print_text.ensures
      | else-not-is_empty w ↦ subst (λ p. r c.rest.self (text_calls shown) p) (sym w.self-is)
          (receives-text_none r m.follows.none m.follows.more c.rest.self shown (nil_from_length shown (eqb-true (length shown) 0 (sym c.is_empty-in-rest.ensures ∙ w.if-not-is_empty.false))))
    ] in
    let so_far = receives-printed r m.follows.none m.follows.more c.args.self.now c.rest.self c.if-not-is_empty.self passed utf8 received shown shown_utf8 c.split_at_layout.ensures.before printed in
    let both = IsUtf8-append passed shown utf8 shown_utf8 in (
      (passed ++ shown) ++ b ∷ [],
      IsUtf8-append (passed ++ shown) (b ∷ []) both (IsUtf8-layout b found.0),
      IsUtf8-back c.rest.rest.now shown b behind found.1 rest_utf8 low,
      joined ∙ ap (λ l. passed ++ l) found.1 ∙ sym (append_assoc passed shown (b ∷ behind)) ∙ sym (append_assoc (passed ++ shown) (b ∷ []) behind),
      receives-layout r m.follows.none m.follows.more c.args.self.now c.if-not-is_empty.self c.execute.new.self (passed ++ shown) both so_far b found.0
          (m.follows.one c.if-not-is_empty.self (execute b) c.execute.new.self c.execute.ensures),
    )

pub returns-in_default : goal.returns-in_default
returns-in_default g c =
    let m = g.met.Self.PerformText in
    let r = g.Self.PerformText.receives in
    let (passed, utf8, rest_utf8, joined, received) = c.rest.invariant in
    let none = rw c.in_default.is at c.split_at_layout.ensures.none in
    let shown = c.split_at_layout.result.0.now in
    let printed : r c.rest.self (text_calls shown) c.if-not-is_empty.self =
    elim c.if-not-is_empty.branch [
      | then-not-is_empty w ↦ subst (λ p. r c.rest.self (text_calls shown) p) (sym w.self-is) w.print_text.ensures
      | else-not-is_empty w ↦ subst (λ p. r c.rest.self (text_calls shown) p) (sym w.self-is)
          (receives-text_none r m.follows.none m.follows.more c.rest.self shown (nil_from_length shown (eqb-true (length shown) 0 (sym c.is_empty-in-rest.ensures ∙ w.if-not-is_empty.false))))
    ] in
    subst (λ text. r c.args.self.now (layout_calls text) c.if-not-is_empty.self) (sym (joined ∙ ap (λ l. passed ++ l) none))
    (receives-printed r m.follows.none m.follows.more c.args.self.now c.rest.self c.if-not-is_empty.self passed utf8 received shown (subst IsUtf8 none rest_utf8) c.split_at_layout.ensures.before printed)
