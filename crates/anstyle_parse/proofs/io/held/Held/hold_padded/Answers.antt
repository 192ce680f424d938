-- The chunk stands behind what was held, and its first bytes count.
use Rattle.std.proofs.Common.{◌≡◌, ◌≤◌, ◌+◌, ◌++◌, ℕ, List, length, take, drop, ap, ap₂, ◌∙◌, arith, length-take, length-drop}
use Rattle.std.proofs.Math.Seq.{take-add}
use Rattle.std.proofs.lemmas.List.{drop_at, take-append-le}
use Rattle.std.proofs.lemmas.Simd.{put_chunk_whole}
use Rattle.std.proofs.lemmas.Slice.{take-put_mid_below}
use Rattle.std.specs.Simd.Lanes.{put_chunk}
use borrow.Rule.Slice.PartMut.{put_mid, mid_of, post_of}
use Rattle.anstyle_parse.proofs.io.held.Held.hold_padded.Goals as goal

front_of_chunk : (len k count : ℕ) (bytes chunk : List ℕ) → count ≤ 16 → length chunk ≡ 16 → k ≡ 16 → len + 16 ≤ length bytes
    → take (len + count) (put_mid len k bytes (put_chunk 0 (mid_of len k bytes) chunk)) ≡ take len bytes ++ take count chunk
front_of_chunk len k count bytes chunk few long whole room =
    let stored : put_chunk 0 (mid_of len k bytes) chunk ≡ chunk =
    put_chunk_whole (mid_of len k bytes) chunk (omega (arith, whole, long, room, length-take k (drop len bytes), length-drop len bytes)) in
    ap (λ ys. take (len + count) (put_mid len k bytes ys)) stored
    ∙ take-add len count (put_mid len k bytes chunk)
    ∙ ap₂ (λ xs ys. xs ++ ys) (take-put_mid_below len k bytes chunk len (omega arith) (omega (arith, room)))
    (ap (take count) (drop_at (take len bytes) (chunk ++ post_of len k bytes) len (omega (arith, room, length-take len bytes)))
    ∙ take-append-le count chunk (post_of len k bytes) (omega (arith, few, long)))

pub returns-clause-held : goal.returns-clause-held
returns-clause-held c =
    let held = c.args.self.now in
    let n = c.len-count.result in
    front_of_chunk held.len _ n held.bytes c.chunk.result.now c.len-count.ensures.within c.chunk.ensures.sixteen (omega arith) (omega arith)
    ∙ ap (λ k. take held.len held.bytes ++ take k c.chunk.result.now) c.len-count.ensures.value
    ∙ ap (λ l. take held.len held.bytes ++ l) c.chunk.ensures.text
