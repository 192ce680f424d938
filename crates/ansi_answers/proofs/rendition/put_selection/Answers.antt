-- The numbers go out part by part.
use Rattle.std.proofs.Common.{[], ◌∷◌, ◌++◌, List, ℕ, sym, subst}
use Rattle.anstyle_parse.specs.Io.Output.{Adds}
use Rattle.anstyle_parse.specs.Io.AddingProof.{Adds-append}
use Rattle.ansi_style.specs.Codes.{code_if, color_codes, underline_codes, more_text}
use Rattle.ansi_answers.proofs.RenditionLemmas.{selection-parts}
use Rattle.ansi_answers.proofs.rendition.put_selection.Goals as goal

pub returns-clause-text : goal.returns-clause-text
returns-clause-text g c =
    let style = c.args.style in
    let end = c.put_byte-2.new.self in
    let sink = g.W.Sink in
    let underline : Adds sink (more_text (underline_codes style.underline)) c.put_code-3.new.output c.put.new.self =
    subst (λ text. Adds sink text c.put_code-3.new.output c.put.new.self) c.underline_text.ensures c.put.ensures in
    let t12 : List ℕ = 0x6D ∷ [] in
    let t11 = more_text (color_codes 40 style.background) ++ t12 in
    let t10 = more_text (color_codes 30 style.foreground) ++ t11 in
    let t9 = more_text (code_if style.overlined 53) ++ t10 in
    let t8 = more_text (code_if style.struck_out 9) ++ t9 in
    let t7 = more_text (code_if style.hidden 8) ++ t8 in
    let t6 = more_text (code_if style.reverse 7) ++ t7 in
    let t5 = more_text (code_if style.blink 5) ++ t6 in
    let t4 = more_text (underline_codes style.underline) ++ t5 in
    let t3 = more_text (code_if style.italic 3) ++ t4 in
    let t2 = more_text (code_if style.dim 2) ++ t3 in
    let t1 = more_text (code_if style.bold 1) ++ t2 in
    let a11 = Adds-append sink (more_text (color_codes 40 style.background)) t12 c.put_color.new.output c.put_color-2.new.output end c.put_color-2.ensures.text c.put_byte-2.ensures in
    let a10 = Adds-append sink (more_text (color_codes 30 style.foreground)) t11 c.put_code-8.new.output c.put_color.new.output end c.put_color.ensures.text a11 in
    let a9 = Adds-append sink (more_text (code_if style.overlined 53)) t10 c.put_code-7.new.output c.put_code-8.new.output end c.put_code-8.ensures a10 in
    let a8 = Adds-append sink (more_text (code_if style.struck_out 9)) t9 c.put_code-6.new.output c.put_code-7.new.output end c.put_code-7.ensures a9 in
    let a7 = Adds-append sink (more_text (code_if style.hidden 8)) t8 c.put_code-5.new.output c.put_code-6.new.output end c.put_code-6.ensures a8 in
    let a6 = Adds-append sink (more_text (code_if style.reverse 7)) t7 c.put_code-4.new.output c.put_code-5.new.output end c.put_code-5.ensures a7 in
    let a5 = Adds-append sink (more_text (code_if style.blink 5)) t6 c.put.new.self c.put_code-4.new.output end c.put_code-4.ensures a6 in
    let a4 = Adds-append sink (more_text (underline_codes style.underline)) t5 c.put_code-3.new.output c.put.new.self end underline a5 in
    let a3 = Adds-append sink (more_text (code_if style.italic 3)) t4 c.put_code-2.new.output c.put_code-3.new.output end c.put_code-3.ensures a4 in
    let a2 = Adds-append sink (more_text (code_if style.dim 2)) t3 c.put_code.new.output c.put_code-2.new.output end c.put_code-2.ensures a3 in
    let a1 = Adds-append sink (more_text (code_if style.bold 1)) t2 c.put_byte.new.self c.put_code.new.output end c.put_code.ensures a2 in
    let a0 = Adds-append sink (0x30 ∷ []) t1 c.args.output.now c.put_byte.new.self end c.put_byte.ensures a1 in
    subst (λ text. Adds sink text c.args.output.now end) (sym (selection-parts style)) a0
