use Rattle.std.proofs.Common.{◌≡◌, arith, refl, sym, ap, ap₂, subst, ◌++◌, [], ◌∷◌, take, drop, ◌∙◌, append_assoc, take-append-drop}
use Rattle.std.specs.Prelude.{not}
use Rattle.std.proofs.lemmas.Bool.{not_from_false}
use lib.Count.{count_trailing_zeros}
use Rattle.std.specs.List.{prefix_len}
use Rattle.anstyle_parse.specs.Stream.Texts.{is_layout}
use Rattle.anstyle_parse.specs.Views.Texts.{AreAtLayout}
use Rattle.anstyle_parse.proofs.Bytes.Passing.{EachIs-append, EachIs-push}
use Rattle.anstyle_parse.proofs.Characters.Layout.{AreAtLayout-prefix}
use Rattle.anstyle_parse.proofs.Machine.Lanes.{before_lowest, lowest-lt, each_before, each_before_lowest}
use Rattle.anstyle_parse.proofs.Machine.Runs.{chunk_and_rest, front_of_chunk, length-first_chunk}
use Rattle.anstyle_parse.proofs.layout.from_layout.Goals as goal

pub split_at-requires : goal.split_at-requires
split_at-requires c =
    let long = length-first_chunk 16 c.chunks.rest.now c.in-Some.chunk.now c.in-Some.behind.now c.in-Some.ensures.cases.0 c.in-Some.ensures.cases.2 in
    omega (arith, lowest-lt is_layout c.in-Some.chunk.now c.layouts-found.result long c.layouts-found.ensures c.if-found-ne0.true, long, c.in-Some.ensures.cases.2)

pub chunks-preserved : goal.chunks-preserved
chunks-preserved c =
    let chunk = c.in-Some.chunk.now in
    let (passed, joined, before) = c.chunks.invariant in
    let each = each_before is_layout chunk c.layouts-found.result (length-first_chunk 16 c.chunks.rest.now c.in-Some.chunk.now c.in-Some.behind.now c.in-Some.ensures.cases.0 c.in-Some.ensures.cases.2) c.layouts-found.ensures c.if-found-ne0.false in (
      passed ++ chunk,
      joined ∙ ap (λ l. passed ++ l) (chunk_and_rest 16 c.chunks.rest.now chunk c.in-Some.behind.now c.in-Some.ensures.cases.0 c.in-Some.ensures.cases.1) ∙ sym (append_assoc passed chunk c.in-Some.behind.now),
      EachIs-append (λ b. not (is_layout b)) passed chunk before each,
    )

pub returns-then-found-ne0 : goal.returns-then-found-ne0
returns-then-found-ne0 c =
    let rest = c.chunks.rest.now in
    let chunk = c.in-Some.chunk.now in
    let found = c.layouts-found.result in
    let count = count_trailing_zeros 64 found in
    let (passed, joined, before) = c.chunks.invariant in
    let front = c.in-Some.ensures.cases.0 in
    let some = c.if-found-ne0.true in
    let long = length-first_chunk 16 rest chunk c.in-Some.behind.now front c.in-Some.ensures.cases.2 in
    let short = lowest-lt is_layout chunk found long c.layouts-found.ensures some in
    let counted = before_lowest is_layout chunk found long c.layouts-found.ensures some in
    let whole : chunk ++ drop 16 rest ≡ rest = sym (chunk_and_rest 16 rest chunk (drop 16 rest) front refl) in
    record {
      passed = passed ++ take count chunk;
      joined = joined ∙ ap (λ l. passed ++ l) (sym (take-append-drop count rest) ∙ ap₂ (λ x y. x ++ y) (front_of_chunk 16 count rest chunk front (omega (arith, short))) (sym c.split_at.ensures.back))
          ∙ sym (append_assoc passed (take count chunk) c.split_at.result.1.now);
      before = EachIs-append (λ b. not (is_layout b)) passed (take count chunk) before (each_before_lowest is_layout chunk found long c.layouts-found.ensures some);
      at = subst AreAtLayout (ap (drop (prefix_len (λ b. not (is_layout b)) chunk)) whole ∙ ap (λ n. drop n rest) (sym counted) ∙ sym c.split_at.ensures.back)
          (AreAtLayout-prefix chunk (drop 16 rest) (omega (arith, short, counted)));
    }

pub bytes-preserved : goal.bytes-preserved
bytes-preserved c =
    let first = c.in-Some-split_first.first.now in
    let behind = c.in-Some-split_first.behind.now in
    let (passed, joined, before) = c.bytes.invariant in (
      passed ++ first ∷ [],
      joined ∙ ap (λ l. passed ++ l) c.in-Some-split_first.ensures.cases.0 ∙ sym (append_assoc passed (first ∷ []) behind),
      EachIs-push (λ b. not (is_layout b)) passed first before (not_from_false (is_layout first) (sym c.is_layout.ensures ∙ c.if-is_layout.false)),
    )
