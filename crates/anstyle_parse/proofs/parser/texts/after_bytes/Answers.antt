use Rattle.std.proofs.Common.{◌≡◌, arith, length, subst, take, take_all}
use Rattle.anstyle_parse.specs.Stream.Items.{EachIs}
use Rattle.anstyle_parse.specs.Views.Texts.{is_text_byte}
use Rattle.anstyle_parse.proofs.Machine.Runs.{chunk_and_rest, length-first_chunk}
use Rattle.anstyle_parse.proofs.Machine.Texts.{BeginWithText-bytes, BeginWithText-chunk, BeginWithText-trans}
use Rattle.anstyle_parse.proofs.parser.texts.after_bytes.Goals as goal

pub returns-then-count-lt-CHUNK : goal.returns-then-count-lt-CHUNK
returns-then-count-lt-CHUNK c =
    BeginWithText-chunk c.args.bytes.now c.chunks.rest.now c.in-Some.chunk.now c.split_at.result.1.now c.text_count-count.result
    c.in-Some.ensures.cases.0 c.text_count-count.ensures.within c.text_count-count.ensures.text c.split_at.ensures.back c.chunks.invariant

pub chunks-preserved : goal.chunks-preserved
chunks-preserved c =
    let rest = c.chunks.rest.now in
    let chunk = c.in-Some.chunk.now in
    let behind = c.in-Some.behind.now in
    let long = length-first_chunk 16 rest chunk behind c.in-Some.ensures.cases.0 c.in-Some.ensures.cases.2 in
    let all : c.text_count-count.result ≡ length chunk = omega (arith, long, c.text_count-count.ensures.within) in
    let each = subst (EachIs is_text_byte) (take_all (length chunk) chunk (omega arith)) (subst (λ n. EachIs is_text_byte (take n chunk)) all c.text_count-count.ensures.text) in
    BeginWithText-bytes c.args.bytes.now chunk behind each rest (chunk_and_rest 16 rest chunk behind c.in-Some.ensures.cases.0 c.in-Some.ensures.cases.1) c.chunks.invariant

pub returns : goal.returns
returns c = BeginWithText-trans c.args.bytes.now c.chunks.rest.now c.after_few.result.now c.chunks.invariant c.after_few.ensures
