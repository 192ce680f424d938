-- What is moved begins at the place, and is the end of the text as far as that goes.
use Rattle.std.proofs.Common.{◌≡◌, ◌≤◌, ◌+◌, ◌-◌, ◌++◌, List, ℕ, length, take, drop, ap, sym, ◌∙◌, arith, length-take}
use Rattle.std.proofs.lemmas.List.{take-take, drop-take, take-append-le}
use Rattle.event_pieces.proofs.front.from_place.Goals as goal

end-moved : (text chunk copied zeros moved : List ℕ) (place : ℕ) → take (length text) chunk ≡ text → length chunk ≡ 16 → copied ≡ chunk
    → place ≤ length text → moved ≡ take (place + 16 - place) (drop place (copied ++ zeros)) → take (length text - place) moved ≡ drop place text
end-moved text chunk copied zeros moved place front sixteen same within are =
    let n = length text in
    let wide = copied ++ zeros in
    let short : n ≤ 16 = omega (arith, ap length front, length-take n chunk, sixteen) in
    let whole : place + (n - place) ≡ n = omega (arith, within) in
    ap (take (n - place)) are
    ∙ take-take (n - place) (place + 16 - place) (drop place wide) (omega (arith, short))
    ∙ sym (drop-take place (n - place) wide)
    ∙ ap (λ k. drop place (take k wide)) whole
    ∙ ap (drop place) (take-append-le n copied zeros (omega (arith, short, sixteen, ap length same)) ∙ ap (take n) same ∙ front)

pub returns : goal.returns
returns c =
    end-moved c.args.text.now c.chunk.result.now c.copy_from_slice.new.self _ c.copy_from_slice-2.new.self c.args.place c.chunk.ensures.text c.chunk.ensures.sixteen
    c.copy_from_slice.ensures.after c.requires c.copy_from_slice-2.ensures.after
