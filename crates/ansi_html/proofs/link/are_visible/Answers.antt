-- What is left is among the last sixteen bytes, or tested byte by byte.
use Rattle.std.proofs.Common.{◌≡◌, ℕ, true, false, List, length, IsTrue, sym, ap, ◌∙◌}
use Rattle.std.proofs.lemmas.Bool.{le-ltb}
use Rattle.std.specs.List.{list_all}
use Rattle.ansi_html.specs.Links.{is_visible}
use Rattle.ansi_html.proofs.ChunkLemmas.{all_behind}
use Rattle.ansi_html.proofs.EndLemmas.{all_each, PassAtEnd-behind}
use Rattle.ansi_html.proofs.link.are_visible.Goals.{then-rest-lt-CHUNK, else-rest-lt-CHUNK}
use Rattle.ansi_html.proofs.link.are_visible.Goals as goal

pub returns-then-are_last_visible : goal.returns-then-are_last_visible
returns-then-are_last_visible c =
    let uri : List ℕ = c.args.uri.now in
    let rest : List ℕ = c.after_visible-rest.result.now in
    let (front, are, joined) = c.after_visible-rest.ensures in
    let whole : list_all is_visible uri ≡ list_all is_visible rest = ap (list_all is_visible) joined ∙ all_behind is_visible front rest are in
    elim c.if-rest-lt-CHUNK.branch [
      | then-rest-lt-CHUNK w ↦
          let passes : IsTrue w.are_last_visible.result = sym w.value-is ∙ c.if-are_last_visible.true in
          c.if-are_last_visible.true
          ∙ sym (whole ∙ all_each is_visible rest (PassAtEnd-behind is_visible uri front rest joined w.if-rest-lt-CHUNK.true (w.are_last_visible.ensures passes)))
      | else-rest-lt-CHUNK w ↦ let never : true ≡ false = sym c.if-are_last_visible.true ∙ (w.value-is ∙ le-ltb (length rest) 16 w.if-rest-lt-CHUNK.false) in cc never
    ]

pub returns-else-are_last_visible : goal.returns-else-are_last_visible
returns-else-are_last_visible c =
    let (front, are, joined) = c.after_visible-rest.ensures in
    c.are_each_visible.ensures
    ∙ sym (ap (list_all is_visible) joined ∙ all_behind is_visible front c.after_visible-rest.result.now are)
