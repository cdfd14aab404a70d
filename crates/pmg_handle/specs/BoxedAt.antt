-- The property of a pointer to an optional boxed value: the value, or nothing.
use Rattle.std.specs.Prelude.{Option, Some, None}
use base.Fml.{Fml, ftrue}
use denote.RawPtr.{Ptr}
use denote.RattleType.{RattleType}
use Rattle.std.specs.declared.alloc.Global.{Global}
use Rattle.std.specs.contracts.impls.GlobalAllocator.TheImpl.{ghosts}
use Rattle.std_alloc.specs.Box.Ownership.{box_owns}

-- a value of the row R at the pointer, and the right to free its block; nothing without a value
abbrev pub boxed_at : (R : RattleType) → Global → Ptr → Option R.Denot → Fml
boxed_at R alloc at None = ftrue
boxed_at R alloc at (Some x) = box_owns (ghosts.dealloc_token alloc) R at x
