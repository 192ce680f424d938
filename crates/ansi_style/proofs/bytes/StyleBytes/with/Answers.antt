-- Each field is what its bytes say.
use Rattle.std.proofs.Common.{refl}
use Rattle.ansi_style.proofs.bytes.StyleBytes.with.Goals as goal

pub returns : goal.returns
returns c =
    rw (c.requires.foreground, c.requires.background, c.underline_number.ensures, c.flag.ensures, c.flag-2.ensures, c.flag-3.ensures, c.flag-4.ensures, c.flag-5.ensures, c.flag-6.ensures, c.flag-7.ensures, c.flag-8.ensures) refl
