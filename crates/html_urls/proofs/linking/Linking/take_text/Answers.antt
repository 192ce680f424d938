-- A piece more, and the colon behind it.
use Rattle.std.proofs.Common.{◌≡◌, ◌<◌, false, List, ℕ, [], ◌∷◌, ◌++◌, refl, sym, ap, ◌∙◌, subst, append_assoc, append-nil, eqb-true, length, arith}
use Rattle.std.specs.Str.{chars}
use Rattle.std.proofs.lemmas.List.{nil_from_length}
use Rattle.std.proofs.lemmas.Str.{IsUtf8-nil, IsUtf8-append, chars-nil}
use Rattle.anstyle_parse.specs.Stream.Call.{Call, print}
use Rattle.anstyle_parse.specs.Stream.Texts.{text_calls}
use Rattle.anstyle_parse.proofs.Characters.Layout.{IsUtf8-front, IsUtf8-back, IsUtf8-byte}
use Rattle.html_urls.specs.Linked.{Standing, prints}
use Rattle.html_urls.specs.Linker.{standing_of, Takes}
use Rattle.html_urls.specs.LinkerProof.{Takes-none, Takes-one, Takes-more}
use Rattle.html_urls.proofs.ClearLemmas.{text_calls-append, chars-byte, unlinked-prints}
use Rattle.html_urls.proofs.linking.Linking.take_text.Goals as goal

pub rest-init : goal.rest-init
rest-init g c = record {
  passed = [];
  utf8 = IsUtf8-nil;
  rest_utf8 = c.utf8.text;
  joined = refl;
  taken = subst (λ (cs : List ℕ). Takes g.P.PerformText.receives c.args.self.now (prints cs) c.args.self.now) (sym chars-nil)
      (Takes-none g.P.PerformText.receives g.met.P.PerformText.follows.none c.args.self.now);
  unlinked = c.requires;
}

pub take_character-requires : goal.take_character-requires
take_character-requires g c =
    ap (λ (it : Standing). it.is_linked) c.take_piece.ensures.standing
    ∙ unlinked-prints (chars c.split_at_colon.result.0.now) (standing_of c.rest.self) c.rest.invariant.unlinked

pub rest-preserved : goal.rest-preserved
rest-preserved g c =
    let r = g.P.PerformText.receives in
    let more = Takes-more r g.met.P.PerformText.follows.more in
    let so_far = c.rest.invariant in
    let first = c.args.self.now in
    let piece = c.split_at_colon.result.0.now in
    let behind = c.in-Some.behind.now in
    let found = rw c.in-Some.is at c.split_at_colon.ensures.found in
    let low : 0x3A < 0x80 = omega arith in
    let piece_utf8 = IsUtf8-front c.rest.rest.now piece 0x3A behind found so_far.rest_utf8 low in
    let both = IsUtf8-append so_far.passed piece so_far.utf8 piece_utf8 in
    let colon : List ℕ = 0x3A ∷ [] in
    let mid = c.take_piece.new.self in
    let end = c.take_character.new.self in
    let unlinked : (standing_of mid).is_linked ≡ false =
    ap (λ (it : Standing). it.is_linked) c.take_piece.ensures.standing ∙ unlinked-prints (chars piece) (standing_of c.rest.self) so_far.unlinked in
    let before = more first c.rest.self mid (text_calls so_far.passed) (text_calls piece) so_far.taken c.take_piece.ensures in
    let one = Takes-one r mid (print 0x3A) end c.take_character.ensures in
    record {
      passed = (so_far.passed ++ piece) ++ colon;
      utf8 = IsUtf8-append (so_far.passed ++ piece) colon both (IsUtf8-byte 0x3A low);
      rest_utf8 = IsUtf8-back c.rest.rest.now piece 0x3A behind found so_far.rest_utf8 low;
      joined = so_far.joined ∙ ap (λ (l : List ℕ). so_far.passed ++ l) found
          ∙ sym (append_assoc so_far.passed piece (0x3A ∷ behind)) ∙ sym (append_assoc (so_far.passed ++ piece) colon behind);
      taken = subst (λ (calls : List Call). Takes r first calls end)
          (sym (text_calls-append (so_far.passed ++ piece) colon both
          ∙ ap (λ (l : List Call). l ++ text_calls colon) (text_calls-append so_far.passed piece so_far.utf8)
          ∙ ap (λ (l : List ℕ). (text_calls so_far.passed ++ text_calls piece) ++ prints l) (chars-byte 0x3A low)))
          (more first mid end (text_calls so_far.passed ++ text_calls piece) (print 0x3A ∷ []) before one);
      unlinked = ap (λ (it : Standing). it.is_linked) one.standing ∙ unlinked-prints colon (standing_of mid) unlinked;
    }

pub returns-in_default : goal.returns-in_default
returns-in_default g c =
    let r = g.P.PerformText.receives in
    let so_far = c.rest.invariant in
    let piece = c.split_at_colon.result.0.now in
    let none = rw c.in_default.is at c.split_at_colon.ensures.none in
    let end = c.take_piece.new.self in
    subst (λ (calls : List Call). Takes r c.args.self.now calls end)
    (sym (ap text_calls (so_far.joined ∙ ap (λ (l : List ℕ). so_far.passed ++ l) none) ∙ text_calls-append so_far.passed piece so_far.utf8))
    (Takes-more r g.met.P.PerformText.follows.more c.args.self.now c.rest.self end (text_calls so_far.passed) (text_calls piece) so_far.taken c.take_piece.ensures)

pub returns-after-rest : goal.returns-after-rest
returns-after-rest g c =
    let so_far = c.rest.invariant in
    let none = nil_from_length c.rest.rest.now (eqb-true (length c.rest.rest.now) 0 (sym c.is_empty.ensures ∙ c.rest-test.false)) in
    subst (λ (text : List ℕ). Takes g.P.PerformText.receives c.args.self.now (text_calls text) c.rest.self)
    (sym (so_far.joined ∙ ap (λ (l : List ℕ). so_far.passed ++ l) none ∙ append-nil so_far.passed)) so_far.taken
