use Rattle.std.proofs.Common.{◌≡◌, ◌++◌, drop}
use Rattle.pmg_commands.specs.Text.{digits_of}
use Rattle.pmg_commands.proofs.text.digits.Given as goal

-- the digits so far, and those that are left, are all of them
abbrev pub invariant-loop-byte : goal.invariant-loop-byte
invariant-loop-byte l = l.digits.items ++ digits_of (drop l.byte-index l.text) ≡ digits_of l.text
