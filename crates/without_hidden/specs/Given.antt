-- What a source gave, without the text that is hidden.
use Rattle.ansi_style.specs.Style.{plain}
use Rattle.each_source.specs.Each.{Given}
use Rattle.without_hidden.specs.declared.begin.LeavingOut.{LeavingOut}
use Rattle.without_hidden.specs.Hidden.{without_hidden}

-- what makes the performer that it is left out before
abbrev pub begin_in : {B : Type 0} → LeavingOut B → B
begin_in it = it.begin

abbrev pub shown_of : Given → Given
shown_of given = record given { calls = without_hidden plain given.calls }
