-- A screen in a handle, and what becomes of it.
use Rattle.std.proofs.Common.{◌≡◌, sym, subst}
use Rattle.std.specs.Prelude.{Option, Some}
use Rattle.screen_pieces.specs.declared.terminal.Terminal.{Terminal}
use Rattle.ansi_screen_c.specs.Calls.{Both}

pub both : (R : Terminal → Terminal → Type 0) (old lent new : Terminal) (was is : Option Terminal) → was ≡ Some old → lent ≡ old → is ≡ Some new
    → R lent new → Both R was is
both R old lent new was is e f g related =
    subst (λ (held : Option Terminal). Both R held is) (sym e)
    (subst (λ (held : Option Terminal). Both R (Some old) held) (sym g) (subst (λ (terminal : Terminal). R terminal new) f related))

-- What holds of what was lent and of what is put back holds of what was in a handle and of what is in it.
pub taken-put : {T : Type 0} (P : Option T → Option T → Type 0) (old lent new : T) (was is : Option T) → was ≡ Some old → lent ≡ old → is ≡ Some new
    → P (Some lent) (Some new) → P was is
taken-put {T} P old lent new was is e f g related =
    subst (λ (held : Option T). P held is) (sym e)
    (subst (λ (held : Option T). P (Some old) held) (sym g) (subst (λ (it : T). P (Some it) (Some new)) f related))
