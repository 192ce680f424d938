-- One part more is written, with the separator before it.
use Rattle.std.proofs.Common.{◌+◌, ◌-◌, ◌++◌, ◌∷◌, [], false, length, take, drop, get_or, sym, ap, ◌∙◌, arith, length-append}
use Rattle.std.proofs.lemmas.List.{at_drop_more, drop_all}
use Rattle.anstyle_parse.specs.Stream.Bytes.{semicolon}
use Rattle.anstyle_parse.proofs.Lists.Joins.{behind, joined_rest-more, joined_rest-none}
use Rattle.ansi_html.specs.Links.{uri_of}
use Rattle.ansi_html.specs.ShownLinks.{uri_in}
use Rattle.ansi_html.proofs.LinkLemmas.{length-uri, texts, no_text, uri-parts}
use Rattle.ansi_html.proofs.link.put_uri.Goals as goal

pub append-requires : goal.append-requires
append-requires c =
    let parts = c.args.parts.now in
    let first = (get_or parts 2 no_text).now in
    let others = behind semicolon (texts (take (length parts - 3) (drop 3 parts))) in
    let uri = uri-parts parts c.in-len3-up.len_at_least in
    omega (arith, ap length c.requires.empty, ap length uri, length-append first others, length-uri (texts parts) c.requires.whole)

pub loop-part-init : goal.loop-part-init
loop-part-init c =
    let parts = c.args.parts.now in
    let first = (get_or parts 2 no_text).now in
    let others = behind semicolon (texts (take (length parts - 3) (drop 3 parts))) in
    let uri = uri-parts parts c.in-len3-up.len_at_least in
    ap (λ l. l ++ others) (c.append.ensures ∙ ap (λ l. l ++ first) c.requires.empty) ∙ sym uri

-- the separator, and the part behind it
pub append-requires-in-loop-part : goal.append-requires-in-loop-part
append-requires-in-loop-part c =
    let parts = c.args.parts.now in
    let others = take (length parts - 3) (drop 3 parts) in
    let i = c.loop-part.part-index in
    let written = uri_in c.loop-part.uri in
    let left = texts (drop i others) in
    let next = at_drop_more texts others i no_text c.loop-part-test.true in
    omega (
      arith,
      ap length c.loop-part.invariant,
      length-append written (behind semicolon left),
      ap (λ l. length (behind semicolon l)) next,
      length-append (get_or others i no_text).now (behind semicolon (texts (drop (i + 1) others))),
      length-uri (texts parts) c.requires.whole,
    )

pub append-requires-in-loop-part-2 : goal.append-requires-in-loop-part-2
append-requires-in-loop-part-2 c =
    let parts = c.args.parts.now in
    let others = take (length parts - 3) (drop 3 parts) in
    let i = c.loop-part.part-index in
    let part = (get_or others i no_text).now in
    let rest = texts (drop (i + 1) others) in
    let before = uri_in c.loop-part.uri in
    let next = at_drop_more texts others i no_text c.loop-part-test.true in
    let whole = joined_rest-more before (uri_of (texts parts)) false semicolon part (texts (drop i others)) rest next c.loop-part.invariant in
    omega (
      arith,
      ap length c.append-in-loop-part.ensures,
      ap length whole,
      length-append ((before ++ semicolon ∷ []) ++ part) (behind semicolon rest),
      length-append (before ++ semicolon ∷ []) part,
      length-uri (texts parts) c.requires.whole,
    )

pub loop-part-preserved : goal.loop-part-preserved
loop-part-preserved c =
    let parts = c.args.parts.now in
    let others = take (length parts - 3) (drop 3 parts) in
    let i = c.loop-part.part-index in
    let part = (get_or others i no_text).now in
    let rest = texts (drop (i + 1) others) in
    let before = uri_in c.loop-part.uri in
    let next = at_drop_more texts others i no_text c.loop-part-test.true in
    let whole = joined_rest-more before (uri_of (texts parts)) false semicolon part (texts (drop i others)) rest next c.loop-part.invariant in
    ap (λ l. l ++ behind semicolon rest) (c.append-in-loop-part-2.ensures ∙ ap (λ l. l ++ part) c.append-in-loop-part.ensures) ∙ whole

pub returns-after-loop-part : goal.returns-after-loop-part
returns-after-loop-part c =
    let parts = c.args.parts.now in
    let others = take (length parts - 3) (drop 3 parts) in
    let i = c.loop-part.part-index in
    joined_rest-none (uri_in c.loop-part.uri) (uri_of (texts parts)) false semicolon (texts (drop i others))
    (ap texts (drop_all i others c.loop-part-test.false)) c.loop-part.invariant
