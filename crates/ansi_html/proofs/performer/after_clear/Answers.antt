use Rattle.std.proofs.lemmas.List.{drop-drop}
use Rattle.std.proofs.Common.{◌≡◌, ◌++◌, ◌-◌, length, sym, ap, ap₂, arith, take, drop, ◌∙◌, subst, take-append-drop}
use lib.Count.{count_trailing_zeros}
use Rattle.anstyle_parse.proofs.Machine.Lanes.{lowest-lt, each_before, each_before_lowest}
use Rattle.anstyle_parse.proofs.Machine.Runs.{chunk_and_rest, front_of_chunk, length-first_chunk}
use Rattle.ansi_html.specs.Grammar.{is_special, AreClear}
use Rattle.ansi_html.proofs.ChunkLemmas.{AreClear-each}
use Rattle.ansi_html.proofs.EndLemmas.{BeginWithClear-end}
use Rattle.ansi_html.proofs.HtmlLemmas.{BeginWithClear-none, BeginWithClear-more}
use Rattle.ansi_html.proofs.performer.after_clear.Goals as goal

pub chunks-init : goal.chunks-init
chunks-init c = BeginWithClear-none c.args.bytes.now

pub split_at-requires : goal.split_at-requires
split_at-requires c =
    let long = length-first_chunk 16 c.chunks.rest.now c.in-Some.chunk.now c.in-Some.behind.now c.in-Some.ensures.cases.0 c.in-Some.ensures.cases.2 in
    omega (arith, lowest-lt is_special c.in-Some.chunk.now c.specials-found.result long c.specials-found.ensures c.if-found-ne0.true, long, c.in-Some.ensures.cases.2)

pub returns-then-found-ne0 : goal.returns-then-found-ne0
returns-then-found-ne0 c =
    let rest = c.chunks.rest.now in
    let chunk = c.in-Some.chunk.now in
    let found = c.specials-found.result in
    let count = count_trailing_zeros 64 found in
    let front = c.in-Some.ensures.cases.0 in
    let some = c.if-found-ne0.true in
    let long = length-first_chunk 16 rest chunk c.in-Some.behind.now front c.in-Some.ensures.cases.2 in
    let short = lowest-lt is_special chunk found long c.specials-found.ensures some in
    let whole = sym (take-append-drop count rest) ∙ ap₂ (λ xs ys. xs ++ ys) (front_of_chunk 16 count rest chunk front (omega (arith, short))) (sym c.split_at.ensures.back) in
    BeginWithClear-more c.args.bytes.now rest (take count chunk) c.split_at.result.1.now
    (AreClear-each (take count chunk) (each_before_lowest is_special chunk found long c.specials-found.ensures some)) whole c.chunks.invariant

pub chunks-preserved : goal.chunks-preserved
chunks-preserved c =
    let rest = c.chunks.rest.now in
    let chunk = c.in-Some.chunk.now in
    let behind = c.in-Some.behind.now in
    let long = length-first_chunk 16 rest chunk behind c.in-Some.ensures.cases.0 c.in-Some.ensures.cases.2 in
    BeginWithClear-more c.args.bytes.now rest chunk behind
    (AreClear-each chunk (each_before is_special chunk c.specials-found.result long c.specials-found.ensures c.if-found-ne0.false))
    (chunk_and_rest 16 rest chunk behind c.in-Some.ensures.cases.0 c.in-Some.ensures.cases.1) c.chunks.invariant

pub returns-in-Some-last_chunk : goal.returns-in-Some-last_chunk
returns-in-Some-last_chunk c =
    let bytes = c.args.bytes.now in
    let last = drop (length bytes - 16) bytes in
    let count = c.clear_count.result in
    let (front, are, joined) = c.chunks.invariant in
    let is : c.in-Some-last_chunk.last.now ≡ last = c.in-Some-last_chunk.ensures.cases.1.same in
    BeginWithClear-more bytes last (take count last) c.split_at-in-Some-last_chunk.result.1.now
    (subst (λ l. AreClear (take count l)) is c.clear_count.ensures.clear)
    (sym (take-append-drop count last) ∙ ap (λ l. take count last ++ l) (drop-drop count (length bytes - 16) bytes ∙ sym c.split_at-in-Some-last_chunk.ensures.back))
    (BeginWithClear-end bytes front c.chunks.rest.now are joined c.in_default.ensures.cases)
