-- What a handle of a log owns.
use Rattle.std.specs.Prelude.{Option, None, Some}
use base.Fml.{Fml, feq}
use denote.RawPtr.{Ptr, null_ptr}
use Rattle.std.specs.declared.alloc.Global.{Global}
use Rattle.std.specs.contracts.impls.GlobalAllocator.TheImpl.{ghosts}
use Rattle.std.specs.Box.Ownership.{box_owns}
use Rattle.shown_pieces.specs.declared.log.ShownLog.{ShownLog}
use Rattle.shown_pieces.specs.contracts.log.ShownLog.{the_row}

-- Nothing, and the pointer is null; or the log in a box at the pointer.
abbrev pub owned : Global → Ptr → Option ShownLog → Fml
owned a p None = feq Ptr p null_ptr
owned a p (Some x) = box_owns (ghosts.dealloc_token a) the_row p x
