use Rattle.std.proofs.Common.{◌≡◌, take, drop}
use Rattle.std.specs.Char.{is_ascii_digit}
use Rattle.std.specs.List.{list_all}
use Rattle.pmg_script.specs.Fields.{decimal_value, bounded}
use Rattle.pmg_script.proofs.fields.number_of.Given as goal

-- it is for the bytes that are left to say whether all are digits, and the number is the one that those so far write
abbrev pub invariant-loop-digit : goal.invariant-loop-digit
invariant-loop-digit l = record {
  left : list_all is_ascii_digit l.word ≡ list_all is_ascii_digit (drop l.digit-index l.word);
  number : l.value ≡ bounded (decimal_value (take l.digit-index l.word));
}
