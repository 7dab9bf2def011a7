use Rattle.std.proofs.Common.{◌≡◌, ◌<◌, ◌^◌, drop}
use Rattle.text_lines.specs.Numbers.{number_of_digits}
use Rattle.text_lines.proofs.Digits.{number_from}
use Rattle.text_lines.proofs.numbers.number_of_digits.Given as goal

abbrev pub invariant-loop-byte : goal.invariant-loop-byte
invariant-loop-byte l = record {
  small : l.number < 2 ^ 64;
  same : number_from l.base l.number (drop l.byte-index l.bytes) ≡ number_of_digits l.base l.bytes;
}
