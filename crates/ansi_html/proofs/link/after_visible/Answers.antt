use Rattle.std.proofs.Common.{[], ◌++◌, refl, ap, sym, ◌∙◌, append_assoc}
use Rattle.anstyle_parse.proofs.Bytes.Passing.{EachIs-append}
use Rattle.anstyle_parse.proofs.Machine.Lanes.{each_passes}
use Rattle.anstyle_parse.proofs.Machine.Runs.{chunk_and_rest, length-first_chunk}
use Rattle.ansi_html.specs.Links.{is_visible}
use Rattle.ansi_html.proofs.link.after_visible.Goals as goal

pub chunks-init : goal.chunks-init
chunks-init c = ([], tt, refl)

pub chunks-preserved : goal.chunks-preserved
chunks-preserved c =
    let rest = c.chunks.rest.now in
    let chunk = c.in-Some.chunk.now in
    let behind = c.in-Some.behind.now in
    let long = length-first_chunk 16 rest chunk behind c.in-Some.ensures.cases.0 c.in-Some.ensures.cases.2 in
    let each = each_passes is_visible chunk c.invisibles.result long c.invisibles.ensures c.if-invisibles-ne0.false in
    let (front, are, joined) = c.chunks.invariant in (
      front ++ chunk,
      EachIs-append is_visible front chunk are each,
      joined
          ∙ (ap (λ l. front ++ l) (chunk_and_rest 16 rest chunk behind c.in-Some.ensures.cases.0 c.in-Some.ensures.cases.1)
          ∙ sym (append_assoc front chunk behind)),
    )
