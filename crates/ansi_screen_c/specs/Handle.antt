-- What a handle owns.
use Rattle.std.specs.Prelude.{Option, None, Some}
use base.Fml.{Fml, feq}
use denote.RawPtr.{Ptr, null_ptr}
use Rattle.std.specs.declared.alloc.Global.{Global}
use Rattle.std.specs.contracts.impls.GlobalAllocator.TheImpl.{ghosts}
use Rattle.std.specs.Box.Ownership.{box_owns}
use Rattle.screen_pieces.specs.declared.terminal.Terminal.{Terminal}
use Rattle.screen_pieces.specs.contracts.terminal.Terminal.{the_row}

-- Nothing, and the pointer is null; or the screen in a box at the pointer.
abbrev pub owned : Global → Ptr → Option Terminal → Fml
owned a p None = feq Ptr p null_ptr
owned a p (Some x) = box_owns (ghosts.dealloc_token a) the_row p x
