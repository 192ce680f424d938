-- What was held is told.
use Rattle.std.proofs.Common.{subst}
use Rattle.ansi_answers.specs.declared.color.Theme.{Theme}
use Rattle.screen_pieces.specs.Answers.{theme_told}
use Rattle.screen_pieces.specs.Terminal.{HasTheme}
use Rattle.ansi_screen_c.proofs.FeedLemmas.{both}
use Rattle.ansi_screen_c.proofs.answering.ansi_screen_colors.Goals as goal

pub returns-in-Some-clause-told : goal.returns-in-Some-clause-told
returns-in-Some-clause-told c =
    both (HasTheme (theme_told c.args.colors.now)) _ _ _ _ _ c.in-Some.ensures.taken c.deref_mut.ensures.value c.put.ensures
    (subst (λ (theme : Theme). HasTheme theme c.deref_mut.result.now c.tell_theme.new.self) c.theme.ensures c.tell_theme.ensures)
