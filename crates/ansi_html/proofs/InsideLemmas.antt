-- What the writer inside of blocks does by calls, from what the writer of text or of numbered lines does.
use Rattle.std.proofs.Common.{◌≡◌, Bool, true, false, List, [], ◌∷◌, ◌++◌, refl, sym, ap, ◌∙◌, subst}
use Rattle.anstyle_parse.specs.declared.io.devices.Sink.{Ghosts as SinkOf}
use Rattle.anstyle_parse.specs.Stream.Call.{Call}
use Rattle.anstyle_parse.specs.Io.Output.{Adds}
use Rattle.ansi_html.specs.declared.scheme.Styling.{Styling}
use Rattle.ansi_html.specs.declared.lines.LinesWriter.{LinesWriter}
use Rattle.ansi_html.specs.declared.performer.HtmlWriter.{HtmlWriter}
use Rattle.ansi_html.specs.declared.inside.Inside.{Inside}
use Rattle.ansi_html.specs.Html.{html_from, standing_at_end}
use Rattle.ansi_html.specs.Lines.{Lined, lined, lined_from, lined_at_end}
use Rattle.ansi_html.specs.Blocks.{inside_call, inside_after}
use Rattle.ansi_html.specs.Inside.{output_of, styling_of, numbered_of, lined_of, inside_from, inside_at_end, TakesCall, TakesCalls}
use Rattle.ansi_html.specs.Liner as liner
use Rattle.ansi_html.specs.Writer as writer

-- what calls write, and where they lead: those of numbered lines,
pub inside_from-lines : (styling : Styling) (it : Lined) (calls : List Call) → inside_from true styling it calls ≡ lined_from styling it calls
inside_from-lines styling it [] = refl
inside_from-lines styling it (call ∷ calls) = ap (λ l. inside_call true styling it call ++ l) (inside_from-lines styling (inside_after true call it) calls)

pub inside_at_end-lines : (it : Lined) (calls : List Call) → inside_at_end true it calls ≡ lined_at_end it calls
inside_at_end-lines it [] = refl
inside_at_end-lines it (call ∷ calls) = inside_at_end-lines (inside_after true call it) calls

-- and those of text
pub inside_from-text : (styling : Styling) (it : Lined) (calls : List Call) → inside_from false styling it calls ≡ html_from styling it.at calls
inside_from-text styling it [] = refl
inside_from-text styling it (call ∷ calls) = ap (λ l. inside_call false styling it call ++ l) (inside_from-text styling (inside_after false call it) calls)

pub inside_at_end-text : (it : Lined) (calls : List Call) → inside_at_end false it calls ≡ lined (standing_at_end it.at calls) it.number it.is_open it.spare
inside_at_end-text it [] = refl
inside_at_end-text it (call ∷ calls) = inside_at_end-text (inside_after false call it) calls

module _ {W : Type 0} (sink : SinkOf W) (old : Inside W) where
  abbrev Takes : Call → Bool → Inside W → Type 0
  Takes call is new =
      (numbered_of new ≡ numbered_of old) × ((styling_of new ≡ styling_of old) × ((lined_of new ≡ inside_after is call (lined_of old))
      × Adds sink (inside_call is (styling_of old) (lined_of old) call) (output_of old) (output_of new)))

  taken : (call : Call) (new : Inside W) → Takes call (numbered_of old) new → TakesCall sink old call new
  taken call new it = record { numbered = it.0; styling = it.1.0; standing = it.1.1.0; added = it.1.1.1 }

  -- A call is taken by the writer of lines, where it has numbers,
  pub TakesCall-lines : (call : Call) (new : LinesWriter W) → numbered_of old ≡ true → liner.TakesCall sink old.lines call new
      → TakesCall sink old call (record old { lines = new })
  TakesCall-lines call new numbered takes =
      taken call (record old { lines = new })
      (subst (λ is. Takes call is (record old { lines = new })) (sym numbered) (refl, (takes.styling, (takes.standing, takes.added))))

  -- and else by the writer of text.
  pub TakesCall-html : (call : Call) (new : HtmlWriter W) → numbered_of old ≡ false → writer.Takes sink old.lines.html call new
      → TakesCall sink old call (record old { lines = record old.lines { html = new } })
  TakesCall-html call new numbered takes =
      let after = record old { lines = record old.lines { html = new } } in
      taken call after
      (subst (λ is. Takes call is after) (sym numbered)
      (refl, (takes.styling, (ap (λ at. lined at old.lines.number old.lines.is_open (lined_of old).spare) takes.standing, takes.added))))

  -- The same of several.
  abbrev TakesAll : List Call → Bool → Inside W → Type 0
  TakesAll calls is new =
      (numbered_of new ≡ numbered_of old) × ((styling_of new ≡ styling_of old) × ((lined_of new ≡ inside_at_end is (lined_of old) calls)
      × Adds sink (inside_from is (styling_of old) (lined_of old) calls) (output_of old) (output_of new)))

  all_taken : (calls : List Call) (new : Inside W) → TakesAll calls (numbered_of old) new → TakesCalls sink old calls new
  all_taken calls new it = record { numbered = it.0; styling = it.1.0; standing = it.1.1.0; added = it.1.1.1 }

  pub TakesCalls-lines : (calls : List Call) (new : LinesWriter W) → numbered_of old ≡ true → liner.TakesCalls sink old.lines calls new
      → TakesCalls sink old calls (record old { lines = new })
  TakesCalls-lines calls new numbered takes =
      let after = record old { lines = new } in
      all_taken calls after
      (subst (λ is. TakesAll calls is after) (sym numbered) (
        refl,
        (
          takes.styling,
          (
            takes.standing ∙ sym (inside_at_end-lines (lined_of old) calls),
            subst (λ t. Adds sink t (output_of old) (output_of after)) (sym (inside_from-lines (styling_of old) (lined_of old) calls)) takes.added,
          ),
        ),
      ))

  pub TakesCalls-html : (calls : List Call) (new : HtmlWriter W) → numbered_of old ≡ false → writer.TakesAll sink old.lines.html calls new
      → TakesCalls sink old calls (record old { lines = record old.lines { html = new } })
  TakesCalls-html calls new numbered takes =
      let after = record old { lines = record old.lines { html = new } } in
      all_taken calls after
      (subst (λ is. TakesAll calls is after) (sym numbered) (
        refl,
        (
          takes.styling,
          (
            ap (λ at. lined at old.lines.number old.lines.is_open (lined_of old).spare) takes.standing ∙ sym (inside_at_end-text (lined_of old) calls),
            subst (λ t. Adds sink t (output_of old) (output_of after)) (sym (inside_from-text (styling_of old) (lined_of old) calls)) takes.added,
          ),
        ),
      ))
