use Rattle.std.proofs.Common.{◌≡◌, ℕ, List, ◌+◌, ◌-◌, ◌≤◌, arith, sym, ap, subst, ◌++◌, [], ◌∷◌, length, length-append, take, drop, ◌∙◌, append_assoc, take-append-drop}
use Rattle.std.proofs.lemmas.List.{take_at, length-take-le}
use lib.Count.{count_trailing_zeros}
use Rattle.anstyle_parse.specs.Stream.Items.{EachIs}
use Rattle.anstyle_parse.specs.Stream.Bytes.{is_plain_text}
use Rattle.anstyle_parse.proofs.Bytes.Passing.{EachIs-append, EachIs-push}
use Rattle.anstyle_parse.proofs.Machine.Lanes.{lowest_within, each_to_lowest, each_passes}
use Rattle.anstyle_parse.proofs.Machine.Runs.{chunk_and_rest, front_of_chunk, length-first_chunk}
use Rattle.anstyle_parse.proofs.parser.command.plain_length.Goals as goal

pub chunks-preserved : goal.chunks-preserved
chunks-preserved c =
    let rest = c.chunks.rest.now in
    let chunk = c.in-Some.chunk.now in
    let behind = c.in-Some.behind.now in
    let (passed, joined, plain) = c.chunks.invariant in
    let long = length-first_chunk 16 rest chunk behind c.in-Some.ensures.cases.0 c.in-Some.ensures.cases.2 in
    let each = each_passes is_plain_text chunk c.unplain-others.result long c.unplain-others.ensures c.if-others-ne0.false in (
      passed ++ chunk,
      joined ∙ ap (λ l. passed ++ l) (chunk_and_rest 16 rest chunk behind c.in-Some.ensures.cases.0 c.in-Some.ensures.cases.1) ∙ sym (append_assoc passed chunk behind),
      EachIs-append is_plain_text passed chunk plain each,
    )

-- what is passed, and so many bytes of the rest, stand in front
front-passed : (bytes passed rest text : List ℕ) (count : ℕ) → bytes ≡ passed ++ rest → text ≡ take count rest → count ≤ length rest
    → take (length bytes - length rest + count) bytes ≡ passed ++ text
front-passed bytes passed rest text count joined is within =
    let whole : bytes ≡ (passed ++ text) ++ drop count rest =
    joined ∙ ap (λ l. passed ++ l) (sym (take-append-drop count rest) ∙ ap (λ l. l ++ drop count rest) (sym is)) ∙ sym (append_assoc passed text (drop count rest)) in
    let long : length (passed ++ text) ≡ length bytes - length rest + count =
    omega (arith, length-append passed text, length-append passed rest, ap length joined, ap length is, length-take-le count rest within) in
    ap (take (length bytes - length rest + count)) whole ∙ take_at (passed ++ text) (drop count rest) (length bytes - length rest + count) long

pub returns-then-others-ne0-clause-within : goal.returns-then-others-ne0-clause-within
returns-then-others-ne0-clause-within c =
    let rest = c.chunks.rest.now in
    let chunk = c.in-Some.chunk.now in
    let (passed, joined, plain) = c.chunks.invariant in
    let long = length-first_chunk 16 rest chunk c.in-Some.behind.now c.in-Some.ensures.cases.0 c.in-Some.ensures.cases.2 in
    omega (arith, long, c.in-Some.ensures.cases.2, ap length joined, length-append passed rest, lowest_within is_plain_text chunk c.unplain-others.result long c.unplain-others.ensures c.if-others-ne0.true)

pub returns-then-others-ne0-clause-plain : goal.returns-then-others-ne0-clause-plain
returns-then-others-ne0-clause-plain c =
    let rest = c.chunks.rest.now in
    let chunk = c.in-Some.chunk.now in
    let others = c.unplain-others.result in
    let count = count_trailing_zeros 64 others in
    let (passed, joined, plain) = c.chunks.invariant in
    let front = c.in-Some.ensures.cases.0 in
    let long = length-first_chunk 16 rest chunk c.in-Some.behind.now front c.in-Some.ensures.cases.2 in
    let short = lowest_within is_plain_text chunk others long c.unplain-others.ensures c.if-others-ne0.true in
    let is = sym (front_of_chunk 16 count rest chunk front (omega (arith, short))) in
    subst (EachIs is_plain_text) (sym (front-passed c.args.bytes.now passed rest (take count chunk) count joined is (omega (arith, short, long, c.in-Some.ensures.cases.2))))
    (EachIs-append is_plain_text passed (take count chunk) plain (each_to_lowest is_plain_text chunk others long c.unplain-others.ensures c.if-others-ne0.true))

pub bytes-preserved : goal.bytes-preserved
bytes-preserved c =
    let first = c.in-Some-split_first.first.now in
    let behind = c.in-Some-split_first.behind.now in
    let (passed, joined, plain) = c.bytes.invariant in (
      passed ++ first ∷ [],
      joined ∙ ap (λ l. passed ++ l) c.in-Some-split_first.ensures.cases.0 ∙ sym (append_assoc passed (first ∷ []) behind),
      EachIs-push is_plain_text passed first plain (sym c.is_plain_byte.ensures ∙ c.if-not-is_plain_byte.false),
    )
