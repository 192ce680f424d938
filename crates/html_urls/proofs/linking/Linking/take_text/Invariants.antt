-- The text so far is taken.
use Rattle.std.proofs.Common.{◌≡◌, false, ℕ, List, ◌++◌, length}
use Rattle.std.specs.Str.{IsUtf8}
use Rattle.anstyle_parse.specs.Stream.Texts.{text_calls}
use Rattle.html_urls.specs.Linker.{standing_of, Takes}
use Rattle.html_urls.proofs.linking.Linking.take_text.Given as goal

abbrev pub invariant-rest : goal.invariant-rest
invariant-rest g l = record {
  passed : List ℕ;
  utf8 : IsUtf8 passed;
  rest_utf8 : IsUtf8 l.rest;
  joined : l.text ≡ passed ++ l.rest;
  taken : Takes g.P.PerformText.receives l.initial.self (text_calls passed) l.self;
  unlinked : (standing_of l.self).is_linked ≡ false;
}

abbrev pub decreases-rest : goal.decreases-rest
decreases-rest g l = length l.rest
