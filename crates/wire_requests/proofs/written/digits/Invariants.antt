use Rattle.std.proofs.Common.{◌≡◌, ◌<◌, take}
use Rattle.std.specs.Str.Parse.{AllDigits, digits_value}
use Rattle.wire_requests.proofs.written.digits.Given as goal

abbrev pub invariant-loop-count : goal.invariant-loop-count
invariant-loop-count l = record {
  digits : AllDigits 10 (take l.count l.text);
  value : l.value ≡ digits_value 10 (take l.count l.text);
  small : l.value < 1000000000;
}
